-- Records that are gathered have ascending keys, and validators stand under their operators.
use Rattle.std.proofs.Common.{◌≡◌, ◌∙◌, ℕ, Bool, true, false, List, [], ◌∷◌, Option, Some, None, refl, sym, ap, All, IfSome, option_map, Ordering, Less, Equal, Greater, nat_cmp}
use Rattle.std.specs.{BTreeMap.insert_entry, Cmp.IsTotalOrder, List.{AllByRecursion, Sorted.IsStrictlySortedBy}}
use Rattle.std.specs.{Map.keys_of, Ordering.{match_ordering, ordering_then}}
use Rattle.std.proofs.lemmas.{List.Elements.{All-from_recursion, recursion_from_All}, Map.Lookups.exact_bytes}
use Rattle.base_types.{specs.Orders.{addr_cmp, cons_cmp, denom_cmp}, proofs.MapLemmas.ascend-put}
use Rattle.base_roles.specs.declared.{entities.Validator.Validator, items.Item.Item, params.Params.Params}
use Rattle.base_roles.specs.{Entries.{at, with}, Orders.{pair_cmp, place_cmp, triple_cmp}}
use Rattle.base_roles.proofs.HoldingLemmas.{denom_total, place_total}
use Rattle.base_roles.specs.declared.items.Item.TheVariants as item
use Rattle.base_coins.specs.Coins.{Money}
use Rattle.rule_modules.proofs.OrderLemmas.{addr_total, cons_total, pair_total}
use Rattle.store_records.specs.Gathering.{Gathered, new_or, with_new, once, shared_with, lists_with, gathered_with, also, gathered, nothing_gathered, all_of, whole, records_in}
use Rattle.store_records.specs.Plain.{SharedSeen, ListsSeen, PlainSeen, IsSharedAscending, AreAscending, period_cmp, event_cmp, no_lists}
use Rattle.store_records.proofs.OrderLemmas.{event_total, period_total, triple_total}

-- ---- one entry more

module _ {K X : Type 0} (cmp : K → K → Ordering) (o : IsTotalOrder cmp) where
  new_ascends : (es : List (K × X)) (k : K) (x : X) → IsStrictlySortedBy cmp (keys_of es) → IfSome (with_new cmp es k x) (λ fs. IsStrictlySortedBy cmp (keys_of fs))
  new_ascends es k x s = by (at cmp es k)
    where
      by : (r : Option X) → IfSome (new_or cmp r es k x) (λ fs. IsStrictlySortedBy cmp (keys_of fs))
      by None = ascend-put cmp o es k x s
      by (Some y) = tt

-- the records that change with a list that may be one longer
stepped : {X A : Type 0} (r : Option X) (f : X → A) (P : X → Type 0) (Q : A → Type 0) → ((x : X) → P x → Q (f x)) → IfSome r P → IfSome (option_map f r) Q
stepped None f P Q h p = tt
stepped (Some x) f P Q h p = h x p

operators-put : (es : List (List ℕ × Validator)) (v : Validator) → AllByRecursion (λ e. e.1.operator ≡ e.0) es → AllByRecursion (λ e. e.1.operator ≡ e.0) (insert_entry addr_cmp es v.operator v)
operators-put [] v h = (refl, tt)
operators-put (e ∷ es) v h = by (operators-put es v h.1) (addr_cmp v.operator e.0) refl
  where
    by : AllByRecursion (λ e. e.1.operator ≡ e.0) (insert_entry addr_cmp es v.operator v) → (r : Ordering) → addr_cmp v.operator e.0 ≡ r
        → AllByRecursion (λ e. e.1.operator ≡ e.0) (match_ordering r ((v.operator, v) ∷ e ∷ es) ((e.0, v) ∷ es) (e ∷ insert_entry addr_cmp es v.operator v))
    by later Less p = (refl, h)
    by later Equal p = (exact_bytes v.operator e.0 p, h.1)
    by later Greater p = (h.0, later)

-- a list of validators whose keys ascend, each under its operator
record AreValidators (es : List (List ℕ × Validator)) : Type 0 where
  ascend : IsStrictlySortedBy addr_cmp (keys_of es)
  operators : All (λ e. e.1.operator ≡ e.0) es

validators_ascend : (es : List (List ℕ × Validator)) (v : Validator) → IsStrictlySortedBy addr_cmp (keys_of es) → All (λ e. e.1.operator ≡ e.0) es → IfSome (with_new addr_cmp es v.operator v) AreValidators
validators_ascend es v s h = by (at addr_cmp es v.operator)
  where
    by : (r : Option Validator) → IfSome (new_or addr_cmp r es v.operator v) AreValidators
    by None = record {
      ascend = ascend-put addr_cmp addr_total es v.operator v s;
      operators = All-from_recursion (λ e. e.1.operator ≡ e.0) (with addr_cmp es v.operator v) (operators-put es v (recursion_from_All (λ e. e.1.operator ≡ e.0) es h));
    }
    by (Some w) = tt

-- ---- one item more

shared_ascends : (i : Item) (s : SharedSeen) → IsSharedAscending s → IfSome (shared_with i s) IsSharedAscending
shared_ascends (item.Purse operator purse) s a = stepped (with_new addr_cmp s.purses operator purse) (λ es. record s { purses = es }) (λ es. IsStrictlySortedBy addr_cmp (keys_of es)) IsSharedAscending
    (λ es h. record { purses = h; payees = a.payees; currents = a.currents; histories = a.histories; starts = a.starts; events = a.events }) (new_ascends addr_cmp addr_total s.purses operator purse a.purses)
shared_ascends (item.Withdraw delegator to) s a = stepped (with_new addr_cmp s.payees delegator to) (λ es. record s { payees = es }) (λ es. IsStrictlySortedBy addr_cmp (keys_of es)) IsSharedAscending
    (λ es h. record { purses = a.purses; payees = h; currents = a.currents; histories = a.histories; starts = a.starts; events = a.events }) (new_ascends addr_cmp addr_total s.payees delegator to a.payees)
shared_ascends (item.CurrentPeriod operator period) s a = stepped (with_new addr_cmp s.currents operator period) (λ es. record s { currents = es }) (λ es. IsStrictlySortedBy addr_cmp (keys_of es)) IsSharedAscending
    (λ es h. record { purses = a.purses; payees = a.payees; currents = h; histories = a.histories; starts = a.starts; events = a.events }) (new_ascends addr_cmp addr_total s.currents operator period a.currents)
shared_ascends (item.Historical operator period history) s a =
    stepped (with_new period_cmp s.histories (operator, period) history) (λ es. record s { histories = es }) (λ es. IsStrictlySortedBy period_cmp (keys_of es)) IsSharedAscending
    (λ es h. record { purses = a.purses; payees = a.payees; currents = a.currents; histories = h; starts = a.starts; events = a.events }) (new_ascends period_cmp period_total s.histories (operator, period) history a.histories)
shared_ascends (item.Start operator delegator info) s a =
    stepped (with_new pair_cmp s.starts (operator, delegator) info) (λ es. record s { starts = es }) (λ es. IsStrictlySortedBy pair_cmp (keys_of es)) IsSharedAscending
    (λ es h. record { purses = a.purses; payees = a.payees; currents = a.currents; histories = a.histories; starts = h; events = a.events }) (new_ascends pair_cmp pair_total s.starts (operator, delegator) info a.starts)
shared_ascends (item.Event operator event) s a =
    stepped (with_new event_cmp s.events (operator, event.height, event.period) event.fraction) (λ es. record s { events = es }) (λ es. IsStrictlySortedBy event_cmp (keys_of es)) IsSharedAscending
    (λ es h. record { purses = a.purses; payees = a.payees; currents = a.currents; histories = a.histories; starts = a.starts; events = h }) (new_ascends event_cmp event_total s.events (operator, event.height, event.period) event.fraction a.events)
shared_ascends (item.Head height time) s a = tt
shared_ascends (item.Parameters params) s a = tt
shared_ascends (item.Balance account denom amount) s a = tt
shared_ascends (item.Supply denom amount) s a = tt
shared_ascends (item.Validator validator) s a = tt
shared_ascends (item.Delegation operator delegator shares) s a = tt
shared_ascends (item.Unbonding delegator operator entries) s a = tt
shared_ascends (item.Redelegation delegator source target entries) s a = tt
shared_ascends (item.Signing cons info ring) s a = tt
shared_ascends (item.Pool coins) s a = tt

-- an item of distribution changes nothing else
through : (i : Item) (l : ListsSeen) → AreAscending l → IfSome (option_map (λ s. record l { shared = s }) (shared_with i l.shared)) AreAscending
through i l a = stepped (shared_with i l.shared) (λ s. record l { shared = s }) IsSharedAscending AreAscending (λ s h. record { balances = a.balances; supplies = a.supplies; validators = a.validators; operators = a.operators; delegations = a.delegations; unbondings = a.unbondings; redelegations = a.redelegations; signings = a.signings; shared = h }) (shared_ascends i l.shared a.shared)

lists_ascend : (i : Item) (l : ListsSeen) → AreAscending l → IfSome (lists_with i l) AreAscending
lists_ascend (item.Head height time) l a = tt
lists_ascend (item.Parameters params) l a = tt
lists_ascend (item.Pool coins) l a = tt
lists_ascend (item.Balance account denom amount) l a =
    stepped (with_new place_cmp l.bank.balances (account, denom) amount) (λ es. record l { bank = record l.bank { balances = es } }) (λ es. IsStrictlySortedBy place_cmp (keys_of es)) AreAscending
    (λ es h. record { balances = h; supplies = a.supplies; validators = a.validators; operators = a.operators; delegations = a.delegations; unbondings = a.unbondings; redelegations = a.redelegations; signings = a.signings; shared = a.shared }) (new_ascends place_cmp place_total l.bank.balances (account, denom) amount a.balances)
lists_ascend (item.Supply denom amount) l a =
    stepped (with_new denom_cmp l.bank.supplies denom amount) (λ es. record l { bank = record l.bank { supplies = es } }) (λ es. IsStrictlySortedBy denom_cmp (keys_of es)) AreAscending
    (λ es h. record { balances = a.balances; supplies = h; validators = a.validators; operators = a.operators; delegations = a.delegations; unbondings = a.unbondings; redelegations = a.redelegations; signings = a.signings; shared = a.shared }) (new_ascends denom_cmp denom_total l.bank.supplies denom amount a.supplies)
lists_ascend (item.Validator validator) l a =
    stepped (with_new addr_cmp l.staked.validators validator.operator validator) (λ es. record l { staked = record l.staked { validators = es } }) AreValidators AreAscending
    (λ es h. record { balances = a.balances; supplies = a.supplies; validators = h.ascend; operators = h.operators; delegations = a.delegations; unbondings = a.unbondings; redelegations = a.redelegations; signings = a.signings; shared = a.shared }) (validators_ascend l.staked.validators validator a.validators a.operators)
lists_ascend (item.Delegation operator delegator shares) l a =
    stepped (with_new pair_cmp l.staked.delegations (operator, delegator) shares) (λ es. record l { staked = record l.staked { delegations = es } }) (λ es. IsStrictlySortedBy pair_cmp (keys_of es)) AreAscending
    (λ es h. record { balances = a.balances; supplies = a.supplies; validators = a.validators; operators = a.operators; delegations = h; unbondings = a.unbondings; redelegations = a.redelegations; signings = a.signings; shared = a.shared }) (new_ascends pair_cmp pair_total l.staked.delegations (operator, delegator) shares a.delegations)
lists_ascend (item.Unbonding delegator operator entries) l a =
    stepped (with_new pair_cmp l.unbondings (delegator, operator) entries) (λ es. record l { unbondings = es }) (λ es. IsStrictlySortedBy pair_cmp (keys_of es)) AreAscending
    (λ es h. record { balances = a.balances; supplies = a.supplies; validators = a.validators; operators = a.operators; delegations = a.delegations; unbondings = h; redelegations = a.redelegations; signings = a.signings; shared = a.shared }) (new_ascends pair_cmp pair_total l.unbondings (delegator, operator) entries a.unbondings)
lists_ascend (item.Redelegation delegator source target entries) l a =
    stepped (with_new triple_cmp l.redelegations (delegator, source, target) entries) (λ es. record l { redelegations = es }) (λ es. IsStrictlySortedBy triple_cmp (keys_of es)) AreAscending
    (λ es h. record { balances = a.balances; supplies = a.supplies; validators = a.validators; operators = a.operators; delegations = a.delegations; unbondings = a.unbondings; redelegations = h; signings = a.signings; shared = a.shared }) (new_ascends triple_cmp triple_total l.redelegations (delegator, source, target) entries a.redelegations)
lists_ascend (item.Signing cons info ring) l a =
    stepped (with_new cons_cmp l.signings cons (record { info = info; ring = ring })) (λ es. record l { signings = es }) (λ es. IsStrictlySortedBy cons_cmp (keys_of es)) AreAscending
    (λ es h. record { balances = a.balances; supplies = a.supplies; validators = a.validators; operators = a.operators; delegations = a.delegations; unbondings = a.unbondings; redelegations = a.redelegations; signings = h; shared = a.shared }) (new_ascends cons_cmp cons_total l.signings cons (record { info = info; ring = ring }) a.signings)
lists_ascend (item.Purse operator purse) l a = through (item.Purse operator purse) l a
lists_ascend (item.Withdraw delegator to) l a = through (item.Withdraw delegator to) l a
lists_ascend (item.CurrentPeriod operator period) l a = through (item.CurrentPeriod operator period) l a
lists_ascend (item.Historical operator period history) l a = through (item.Historical operator period history) l a
lists_ascend (item.Start operator delegator info) l a = through (item.Start operator delegator info) l a
lists_ascend (item.Event operator event) l a = through (item.Event operator event) l a

-- ---- all items

abbrev pub Ascends : Gathered → Type 0
Ascends g = AreAscending g.lists

same_lists : {X : Type 0} (r : Option X) (f : X → Gathered) → ((x : X) → Ascends (f x)) → IfSome (option_map f r) Ascends
same_lists None f h = tt
same_lists (Some x) f h = h x

listed_too : (i : Item) (g : Gathered) → Ascends g → IfSome (option_map (λ l. record g { lists = l }) (lists_with i g.lists)) Ascends
listed_too i g a = stepped (lists_with i g.lists) (λ l. record g { lists = l }) AreAscending Ascends (λ l h. h) (lists_ascend i g.lists a)

pub one_ascends : (i : Item) (g : Gathered) → Ascends g → IfSome (gathered_with i g) Ascends
one_ascends (item.Head height time) g a = same_lists (once g.head (height, time)) (λ head. record g { head = head }) (λ x. a)
one_ascends (item.Parameters params) g a = same_lists (once g.params params) (λ given. record g { params = given }) (λ x. a)
one_ascends (item.Pool coins) g a = same_lists (once g.pool coins) (λ pool. record g { pool = pool }) (λ x. a)
one_ascends (item.Balance account denom amount) g a = listed_too (item.Balance account denom amount) g a
one_ascends (item.Supply denom amount) g a = listed_too (item.Supply denom amount) g a
one_ascends (item.Validator validator) g a = listed_too (item.Validator validator) g a
one_ascends (item.Delegation operator delegator shares) g a = listed_too (item.Delegation operator delegator shares) g a
one_ascends (item.Unbonding delegator operator entries) g a = listed_too (item.Unbonding delegator operator entries) g a
one_ascends (item.Redelegation delegator source target entries) g a = listed_too (item.Redelegation delegator source target entries) g a
one_ascends (item.Signing cons info ring) g a = listed_too (item.Signing cons info ring) g a
one_ascends (item.Purse operator purse) g a = listed_too (item.Purse operator purse) g a
one_ascends (item.Withdraw delegator to) g a = listed_too (item.Withdraw delegator to) g a
one_ascends (item.CurrentPeriod operator period) g a = listed_too (item.CurrentPeriod operator period) g a
one_ascends (item.Historical operator period history) g a = listed_too (item.Historical operator period history) g a
one_ascends (item.Start operator delegator info) g a = listed_too (item.Start operator delegator info) g a
one_ascends (item.Event operator event) g a = listed_too (item.Event operator event) g a

all_ascend : (items : List Item) (r : Option Gathered) → IfSome r Ascends → IfSome (gathered items r) Ascends
all_ascend [] r a = a
all_ascend (i ∷ items) None a = all_ascend items None tt
all_ascend (i ∷ items) (Some g) a = all_ascend items (gathered_with i g) (one_ascends i g a)

pub none_ascend : AreAscending no_lists
unfolding IsStrictlySortedBy
none_ascend = record {
  balances = tt;
  supplies = tt;
  validators = tt;
  operators = All-from_recursion (λ (e : List ℕ × Validator). e.1.operator ≡ e.0) [] tt;
  delegations = tt;
  unbondings = tt;
  redelegations = tt;
  signings = tt;
  shared = record { purses = tt; payees = tt; currents = tt; histories = tt; starts = tt; events = tt };
}

whole_ascends : (r : Option Gathered) → IfSome r Ascends → IfSome (all_of r) (λ (p : PlainSeen). AreAscending p.lists)
whole_ascends None a = tt
whole_ascends (Some g) a = by g.head g.params g.pool
  where
    by : (head : Option (ℕ × ℕ)) (given : Option Params) (pool : Option Money) → IfSome (whole head given pool g.lists) (λ (p : PlainSeen). AreAscending p.lists)
    by (Some head) (Some given) (Some pool) = a
    by (Some head) (Some given) None = tt
    by (Some head) None pool = tt
    by None given pool = tt

pub records_ascend : (items : List Item) → IfSome (records_in items) (λ (p : PlainSeen). AreAscending p.lists)
records_ascend items = whole_ascends (gathered items (Some nothing_gathered)) (all_ascend items (Some nothing_gathered) none_ascend)
