-- Records out of items in any order: each joins the list of its kind, unless one of its key stands
-- there.
use Rattle.std.specs.Prelude.{ℕ, Bool, true, false, List, [], ◌∷◌, Option, Some, None, option_map}
use Rattle.std.specs.declared.cmp.Ordering.{Ordering}
use Rattle.base_types.specs.Orders.{addr_cmp, cons_cmp, denom_cmp}
use Rattle.base_coins.specs.Coins.{Money}
use Rattle.base_roles.specs.declared.items.Item.{Item}
use Rattle.base_roles.specs.declared.items.Item.TheVariants as item
use Rattle.base_roles.specs.declared.params.Params.{Params}
use Rattle.base_roles.specs.Entries.{at, with}
use Rattle.base_roles.specs.Orders.{pair_cmp, place_cmp, triple_cmp}
use Rattle.store_records.specs.declared.gathering.Gathering.{Gathering}
use Rattle.store_records.specs.Plain.{SharedSeen, ListsSeen, PlainSeen, no_lists, period_cmp, event_cmp, lists_seen}

module _ {K X : Type 0} (cmp : K → K → Ordering) where
  -- nothing, where a key stands already, and else the entries with this one
  abbrev pub new_or : Option X → List (K × X) → K → X → Option (List (K × X))
  new_or None es k x = Some (with cmp es k x)
  new_or (Some y) es k x = None

  -- the entries with a new one; nothing where its key stands
  abbrev pub with_new : List (K × X) → K → X → Option (List (K × X))
  with_new es k x = new_or (at cmp es k) es k x

-- a value, where the answer is true
abbrev pub some_if : {A : Type 0} → Bool → A → Option A
some_if true x = Some x
some_if false x = None

-- a value where there was none; nothing where there was one
abbrev pub once : {A : Type 0} → Option A → A → Option (Option A)
once None new = Some (Some new)
once (Some old) new = None

-- What was gathered: the last height and time, the parameters and the pool, where they came, and
-- the lists.
pub record Gathered : Type 0 where
  pub head : Option (ℕ × ℕ)
  pub params : Option Params
  pub pool : Option Money
  pub lists : ListsSeen

abbrev pub gathered_seen : Gathering → Gathered
gathered_seen g =
    record { head = g.head; params = g.params; pool = g.pool; lists = lists_seen g.lists }

abbrev pub nothing_gathered : Gathered
nothing_gathered = record { head = None; params = None; pool = None; lists = no_lists }

-- An item of distribution but the pool joins its list; nothing where its key stands, and where it
-- is of another kind.
abbrev pub shared_with : Item → SharedSeen → Option SharedSeen
shared_with (item.Purse operator purse) s =
    option_map (λ es. record s { purses = es }) (with_new addr_cmp s.purses operator purse)
shared_with (item.Withdraw delegator to) s =
    option_map (λ es. record s { payees = es }) (with_new addr_cmp s.payees delegator to)
shared_with (item.CurrentPeriod operator period) s =
    option_map (λ es. record s { currents = es }) (with_new addr_cmp s.currents operator period)
shared_with (item.Historical operator period history) s =
    option_map (λ es. record s { histories = es })
    (with_new period_cmp s.histories (operator, period) history)
shared_with (item.Start operator delegator info) s =
    option_map (λ es. record s { starts = es })
    (with_new pair_cmp s.starts (operator, delegator) info)
shared_with (item.Event operator event) s =
    option_map (λ es. record s { events = es })
    (with_new event_cmp s.events (operator, event.height, event.period) event.fraction)
shared_with _ s = None

-- An item that has a key of its own joins the list of its kind; nothing where its key stands, and
-- where it has none.
abbrev pub lists_with : Item → ListsSeen → Option ListsSeen
lists_with (item.Head height time) l = None
lists_with (item.Parameters params) l = None
lists_with (item.Pool coins) l = None
lists_with (item.Balance account denom amount) l =
    option_map (λ es. record l { bank = record l.bank { balances = es } })
    (with_new place_cmp l.bank.balances (account, denom) amount)
lists_with (item.Supply denom amount) l =
    option_map (λ es. record l { bank = record l.bank { supplies = es } })
    (with_new denom_cmp l.bank.supplies denom amount)
lists_with (item.Validator validator) l =
    option_map (λ es. record l { staked = record l.staked { validators = es } })
    (with_new addr_cmp l.staked.validators validator.operator validator)
lists_with (item.Delegation operator delegator shares) l =
    option_map (λ es. record l { staked = record l.staked { delegations = es } })
    (with_new pair_cmp l.staked.delegations (operator, delegator) shares)
lists_with (item.Unbonding delegator operator entries) l =
    option_map (λ es. record l { unbondings = es })
    (with_new pair_cmp l.unbondings (delegator, operator) entries)
lists_with (item.Redelegation delegator source target entries) l =
    option_map (λ es. record l { redelegations = es })
    (with_new triple_cmp l.redelegations (delegator, source, target) entries)
lists_with (item.Signing cons info ring) l =
    option_map (λ es. record l { signings = es })
    (with_new cons_cmp l.signings cons (record { info = info; ring = ring }))
lists_with i l = option_map (λ s. record l { shared = s }) (shared_with i l.shared)

-- what was gathered with one item more
abbrev pub gathered_with : Item → Gathered → Option Gathered
gathered_with (item.Head height time) g =
    option_map (λ head. record g { head = head }) (once g.head (height, time))
gathered_with (item.Parameters params) g =
    option_map (λ given. record g { params = given }) (once g.params params)
gathered_with (item.Pool coins) g =
    option_map (λ pool. record g { pool = pool }) (once g.pool coins)
gathered_with i g = option_map (λ l. record g { lists = l }) (lists_with i g.lists)

-- the same of what may have been gathered
abbrev pub also : Item → Option Gathered → Option Gathered
also i None = None
also i (Some g) = gathered_with i g

-- items one after another behind what was gathered, as long as each key is new
abbrev pub gathered : List Item → Option Gathered → Option Gathered
gathered [] g = g
gathered (i ∷ items) g = gathered items (also i g)

-- the records, where head, parameters and pool came
abbrev pub whole : Option (ℕ × ℕ) → Option Params → Option Money → ListsSeen → Option PlainSeen
whole (Some head) (Some given) (Some pool) l = Some (record {
  ctx = record { height = head.0; time = head.1; params = given };
  pool = pool;
  lists = l;
})
whole (Some head) (Some given) None l = None
whole (Some head) None pool l = None
whole None given pool l = None

abbrev pub all_of : Option Gathered → Option PlainSeen
all_of None = None
all_of (Some g) = whole g.head g.params g.pool g.lists

-- The records of which these are the items, each key once; nothing where a key stands twice, and
-- where not exactly one head, one set of parameters and one pool stand.
abbrev pub records_in : List Item → Option PlainSeen
records_in items = all_of (gathered items (Some nothing_gathered))
