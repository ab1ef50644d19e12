-- The items of a state: one for each record that a store keeps. Votes behind the window and ratios to which nothing refers
-- are not kept.
use Rattle.std.specs.Prelude.{◌≡◌, ℕ, ◌-◌, ◌%◌, Bool, List, [], ◌∷◌, ◌++◌, map, take, drop, length, reverse, option_map, All}
use Rattle.std.specs.List.{filter_map, flat_map}
use Rattle.std.specs.List.Sorted.{IsStrictlySortedBy}
use Rattle.std.specs.Map.{keys_of}
use Rattle.base_types.specs.Orders.{addr_cmp, cons_cmp, denom_cmp}
use Rattle.base_roles.specs.declared.items.Item.{Item}
use Rattle.base_roles.specs.declared.items.Item.TheVariants as item
use Rattle.base_roles.specs.Holdings.{Holdings}
use Rattle.base_roles.specs.Orders.{pair_cmp, place_cmp, triple_cmp}
use Rattle.base_roles.specs.Staked.{Staked}
use Rattle.base_roles.specs.World.{View}
use Rattle.rule_modules.specs.Chain.{State, window_in, shared_in}
use Rattle.rule_modules.specs.Distribution.{Shared}
use Rattle.rule_modules.specs.Periods.{Periods, Rewards, history_kept, starts_of}
use Rattle.rule_modules.specs.Purses.{Purses}
use Rattle.rule_modules.specs.Redelegations.{RedelegationLists}
use Rattle.rule_modules.specs.Unbondings.{UnbondingLists}
use Rattle.rule_modules.specs.Window.{Window, info_of}

-- each balance, then each supply
abbrev pub holding_items : Holdings → List Item
holding_items h = map (λ e. item.Balance e.0.0 e.0.1 e.1) h.balances ++ map (λ e. item.Supply e.0 e.1) h.supplies

-- the last height and time, the parameters, and what is held
abbrev pub ground_items : View → List Item
ground_items v = item.Head v.ctx.height v.ctx.time ∷ item.Parameters v.ctx.params ∷ holding_items v.bank

-- each validator, then each delegation
abbrev pub staked_items : Staked → List Item
staked_items s = map (λ e. item.Validator e.1) s.validators ++ map (λ e. item.Delegation e.0.0 e.0.1 e.1) s.delegations

-- the entries of each unbonding, then of each redelegation
abbrev pub entry_items : UnbondingLists → RedelegationLists → List Item
entry_items u r = map (λ e. item.Unbonding e.0.0 e.0.1 e.1) u ++ map (λ e. item.Redelegation e.0.0 e.0.1 e.0.2 e.1) r

-- The last votes of the window by their places, true where one was missed: a vote behind n others since the last reset
-- stands at the rest of n by the window (`ValidatorMissedBlockBitArray`).
abbrev pub ring_of : ℕ → List Bool → List Bool
ring_of window votes =
    let last = reverse (take window votes) in
    let older = length last - length votes % window in
    drop older last ++ take older last

-- each signing record with its ring
abbrev pub signing_items : ℕ → Window → List Item
signing_items window i = map (λ e. item.Signing e.0 (info_of window e.1) (ring_of window e.1.votes)) i

-- each purse, then the community pool
abbrev pub purse_items : Purses → List Item
purse_items p = map (λ e. item.Purse e.0 e.1) p.purses ++ item.Pool p.pool ∷ []

-- the records of an operator's ended periods, the earliest first: of each to which something refers
abbrev pub historical_items : Rewards → List ℕ × Periods → List Item
historical_items r e = filter_map (λ ended. option_map (λ h. item.Historical e.0 ended.0 h) (history_kept e.1 (starts_of r e.0) ended.0)) (reverse e.1.ratios)

-- each period that runs, the records of ended ones, each start, each slash event
abbrev pub reward_items : Rewards → List Item
reward_items r =
    map (λ e. item.CurrentPeriod e.0 e.1.current) r.periods
    ++ (flat_map (historical_items r) r.periods
    ++ (map (λ e. item.Start e.0.0 e.0.1 e.1) r.starts ++ flat_map (λ e. map (λ event. item.Event e.0 event) e.1.events) r.periods))

-- purses and pool, to whom payments go, and what rewards are told from
abbrev pub shared_items : Shared → List Item
shared_items d = purse_items d.purses ++ (map (λ e. item.Withdraw e.0 e.1) d.withdraw ++ reward_items d.rewards)

-- The items of a state: what is held, validators and delegations, entries, signing records, distribution. Each kind is in the
-- order of its keys.
abbrev pub items_of : State → List Item
items_of w =
    (ground_items w.view ++ staked_items w.mine.staked)
    ++ (entry_items w.mine.unbondings w.mine.redelegations
    ++ (signing_items w.view.ctx.params.signed_blocks_window (window_in w) ++ shared_items (shared_in w)))

-- ---- their order

-- Keys ascend in each list of a state, and validators stand under their operators.
pub record IsInKeyOrder (w : State) : Type 0 where
  pub balances : IsStrictlySortedBy place_cmp (keys_of w.view.bank.balances)
  pub supplies : IsStrictlySortedBy denom_cmp (keys_of w.view.bank.supplies)
  pub validators : IsStrictlySortedBy addr_cmp (keys_of w.mine.staked.validators)
  pub operators : All (λ e. e.1.operator ≡ e.0) w.mine.staked.validators
  pub delegations : IsStrictlySortedBy pair_cmp (keys_of w.mine.staked.delegations)
  pub unbondings : IsStrictlySortedBy pair_cmp (keys_of w.mine.unbondings)
  pub redelegations : IsStrictlySortedBy triple_cmp (keys_of w.mine.redelegations)
  pub signing : IsStrictlySortedBy cons_cmp (keys_of (window_in w))
  pub purses : IsStrictlySortedBy addr_cmp (keys_of (shared_in w).purses.purses)
