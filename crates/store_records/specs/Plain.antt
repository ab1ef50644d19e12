-- The records of a state as plain lists, of each kind those in ascending order of their keys.
use Rattle.std.specs.Prelude.{◌≡◌, ℕ, List, [], ◌∷◌, ◌++◌, map, All}
use Rattle.std.specs.declared.cmp.Ordering.{Ordering}
use Rattle.std.specs.List.Sorted.{IsStrictlySortedBy}
use Rattle.std.specs.Map.{keys_of}
use Rattle.std.specs.Ordering.{nat_cmp, ordering_then}
use Rattle.base_types.specs.Orders.{addr_cmp, cons_cmp, denom_cmp}
use Rattle.base_coins.specs.Coins.{Money}
use Rattle.base_roles.specs.declared.entities.Historical.{Historical}
use Rattle.base_roles.specs.declared.entities.Purse.{Purse}
use Rattle.base_roles.specs.declared.entities.SlashEvent.{SlashEvent}
use Rattle.base_roles.specs.declared.entities.StartingInfo.{StartingInfo}
use Rattle.base_roles.specs.declared.items.Item.{Item}
use Rattle.base_roles.specs.declared.items.Item.TheVariants as item
use Rattle.base_roles.specs.declared.params.Ctx.{Ctx}
use Rattle.base_roles.specs.Holdings.{Holdings}
use Rattle.base_roles.specs.Orders.{both_cmp, pair_cmp, place_cmp, triple_cmp}
use Rattle.base_roles.specs.Staked.{Staked}
use Rattle.rule_modules.specs.Redelegations.{RedelegationLists}
use Rattle.rule_modules.specs.Unbondings.{UnbondingLists}
use Rattle.rule_machine.specs.Items.{holding_items, staked_items, entry_items}
use Rattle.store_records.specs.declared.records.PlainLists.{PlainLists}
use Rattle.store_records.specs.declared.records.PlainRecords.{PlainRecords}
use Rattle.store_records.specs.declared.records.PlainShared.{PlainShared}
use Rattle.store_records.specs.declared.records.Signed.{Signed}

-- an operator and a period
abbrev pub period_cmp : List ℕ × ℕ → List ℕ × ℕ → Ordering
period_cmp x y = both_cmp addr_cmp nat_cmp x y

-- an operator, a height and a period
abbrev pub event_cmp : List ℕ × ℕ × ℕ → List ℕ × ℕ × ℕ → Ordering
event_cmp x y = ordering_then (ordering_then (addr_cmp x.0 y.0) (nat_cmp x.1 y.1)) (nat_cmp x.2 y.2)

-- Of distribution: purses, payees and current periods by operator, records of ended periods by
-- operator and period, starts by operator and delegator, and the fractions of slash events by
-- operator, height and period.
pub record SharedSeen : Type 0 where
  pub purses : List (List ℕ × Purse)
  pub payees : List (List ℕ × List ℕ)
  pub currents : List (List ℕ × ℕ)
  pub histories : List ((List ℕ × ℕ) × Historical)
  pub starts : List ((List ℕ × List ℕ) × StartingInfo)
  pub events : List ((List ℕ × ℕ × ℕ) × ℕ)

-- What is held, validators and delegations, entries, signing records with their rings, and what
-- distribution has.
pub record ListsSeen : Type 0 where
  pub bank : Holdings
  pub staked : Staked
  pub unbondings : UnbondingLists
  pub redelegations : RedelegationLists
  pub signings : List (List ℕ × Signed)
  pub shared : SharedSeen

-- all records of a state: the last height and time with the parameters, the community pool, and the
-- lists
pub record PlainSeen : Type 0 where
  pub ctx : Ctx
  pub pool : Money
  pub lists : ListsSeen

-- ---- what is seen of records

abbrev pub shared_seen : PlainShared → SharedSeen
shared_seen s = record {
  purses = s.purses.entries;
  payees = s.payees.entries;
  currents = s.currents.entries;
  histories = s.histories.entries;
  starts = s.starts.entries;
  events = s.events.entries;
}

abbrev pub lists_seen : PlainLists → ListsSeen
lists_seen l = record {
  bank = record { balances = l.balances.entries; supplies = l.supplies.entries };
  staked = record { validators = l.validators.entries; delegations = l.delegations.entries };
  unbondings = l.unbondings.entries;
  redelegations = l.redelegations.entries;
  signings = l.signings.entries;
  shared = shared_seen l.shared;
}

abbrev pub seen : PlainRecords → PlainSeen
seen r = record { ctx = r.ctx; pool = r.pool; lists = lists_seen r.lists }

-- no record
abbrev pub nothing_shared : SharedSeen
nothing_shared =
    record { purses = []; payees = []; currents = []; histories = []; starts = []; events = [] }

abbrev pub no_lists : ListsSeen
no_lists = record {
  bank = record { balances = []; supplies = [] };
  staked = record { validators = []; delegations = [] };
  unbondings = [];
  redelegations = [];
  signings = [];
  shared = nothing_shared;
}

-- ---- their items

-- a slash event: its height and period are those of the key
abbrev pub event_at : (List ℕ × ℕ × ℕ) × ℕ → SlashEvent
event_at e = record { height = e.0.1; period = e.0.2; fraction = e.1 }

-- each period that runs, each record of an ended one, each start, each slash event
abbrev pub reward_items : SharedSeen → List Item
reward_items s =
    map (λ e. item.CurrentPeriod e.0 e.1) s.currents
    ++ (map (λ e. item.Historical e.0.0 e.0.1 e.1) s.histories
    ++ (map (λ e. item.Start e.0.0 e.0.1 e.1) s.starts
    ++ map (λ e. item.Event e.0.0 (event_at e)) s.events))

-- each purse and the community pool, each payee, and what rewards are told from
abbrev pub shared_items : Money → SharedSeen → List Item
shared_items pool s =
    (map (λ e. item.Purse e.0 e.1) s.purses ++ item.Pool pool ∷ [])
    ++ (map (λ e. item.Withdraw e.0 e.1) s.payees ++ reward_items s)

-- All items, one for each record, kind by kind, in the order of the items of a state.
abbrev pub listed : PlainSeen → List Item
listed r =
    ((item.Head r.ctx.height r.ctx.time ∷ item.Parameters r.ctx.params ∷ holding_items r.lists.bank)
    ++ staked_items r.lists.staked)
    ++ (entry_items r.lists.unbondings r.lists.redelegations
    ++ (map (λ e. item.Signing e.0 e.1.info e.1.ring) r.lists.signings
    ++ shared_items r.pool r.lists.shared))

-- ---- their order

-- keys ascend in each list of distribution
pub record IsSharedAscending (s : SharedSeen) : Type 0 where
  pub purses : IsStrictlySortedBy addr_cmp (keys_of s.purses)
  pub payees : IsStrictlySortedBy addr_cmp (keys_of s.payees)
  pub currents : IsStrictlySortedBy addr_cmp (keys_of s.currents)
  pub histories : IsStrictlySortedBy period_cmp (keys_of s.histories)
  pub starts : IsStrictlySortedBy pair_cmp (keys_of s.starts)
  pub events : IsStrictlySortedBy event_cmp (keys_of s.events)

-- Keys ascend in each list, and validators stand under their operators.
pub record AreAscending (l : ListsSeen) : Type 0 where
  pub balances : IsStrictlySortedBy place_cmp (keys_of l.bank.balances)
  pub supplies : IsStrictlySortedBy denom_cmp (keys_of l.bank.supplies)
  pub validators : IsStrictlySortedBy addr_cmp (keys_of l.staked.validators)
  pub operators : All (λ e. e.1.operator ≡ e.0) l.staked.validators
  pub delegations : IsStrictlySortedBy pair_cmp (keys_of l.staked.delegations)
  pub unbondings : IsStrictlySortedBy pair_cmp (keys_of l.unbondings)
  pub redelegations : IsStrictlySortedBy triple_cmp (keys_of l.redelegations)
  pub signings : IsStrictlySortedBy cons_cmp (keys_of l.signings)
  pub shared : IsSharedAscending l.shared
