-- Records that are gathered list just the items, in another order; and an item is refused only where one of its key stands.
use Rattle.std.proofs.Common.{subst, ◌≡◌, ◌∙◌, ℕ, ◌≤◌, Bool, true, false, cond, List, [], ◌∷◌, ◌++◌, Option, Some, None, map, refl, sym, ap, inl, inr, arith, ◌⊎◌, IfSome, IsSome, option_map, unwrap_or, is_some, Ordering, Less, Equal, Greater, IsPermutation, is_eq, append-nil}
use Rattle.std.specs.{BTreeMap.{insert_entry, is_at}, List.AllByRecursion, Ordering.match_ordering}
use Rattle.std.proofs.lemmas.List.Elements.{recursion_from_All}
use Rattle.std.proofs.lemmas.List.Sorted.{IsPermutation-refl, IsPermutation-sym, IsPermutation-trans, IsPermutation-cons, IsPermutation-middle, IsPermutation-append_left, IsPermutation-append_right, IsPermutation-map, Contains-permutation}
use Rattle.base_types.specs.{declared.account.Account.Account, Orders.{addr_cmp, cons_cmp, denom_cmp}}
use Rattle.base_types.proofs.MapLemmas.{equal}
use Rattle.base_coins.specs.Coins.{Money}
use Rattle.base_roles.specs.declared.entities.{Historical.Historical, Purse.Purse, RedelegationEntry.RedelegationEntry}
use Rattle.base_roles.specs.declared.entities.{StartingInfo.StartingInfo, UnbondingEntry.UnbondingEntry}
use Rattle.base_roles.specs.declared.{entities.Validator.Validator, items.Item.Item, params.Params.Params}
use Rattle.base_roles.specs.{Entries.{at, with}, Holdings.Balances}
use Rattle.base_roles.specs.Items.{key_of, no_address, no_info, no_purse, no_validator}
use Rattle.base_roles.{specs.Orders.{pair_cmp, place_cmp, triple_cmp}, proofs.HoldingLemmas.place_exact}
use Rattle.base_roles.specs.declared.items.Item.TheVariants as item
use Rattle.base_records.proofs.MemberLemmas.{Member, Once, contained, member, member-cases, member-left, member-right}
use Rattle.rule_modules.proofs.SoundLemmas.{exact_addr, exact_pair}
use Rattle.law_soundness.proofs.Redelegating.{exact_triple}
use Rattle.rule_machine.specs.Items.{holding_items, staked_items, entry_items}
use Rattle.store_records.specs.declared.records.Signed.{Signed}
use Rattle.store_records.specs.Gathering.{Gathered, new_or, with_new, once, shared_with, lists_with, gathered_with, also, gathered, nothing_gathered, all_of, whole, records_in}
use Rattle.store_records.specs.Plain.{SharedSeen, ListsSeen, PlainSeen, AreAscending, period_cmp, event_cmp, event_at, reward_items, listed}
use Rattle.store_records.proofs.OnceLaws.{kind_of, listed_once, once_anyway}
use Rattle.law_records.proofs.{AscendLaws.{none_ascend, one_ascends}, RewardLists.{event_exact, period_exact}}

-- ---- lists with one element more

module _ {A : Type 0} where
  in_left : (ys : List A) {x : A} {xs more : List A} → IsPermutation (x ∷ xs) more → IsPermutation (x ∷ (xs ++ ys)) (more ++ ys)
  in_left ys {x} {xs} {more} p = IsPermutation-append_left ys (x ∷ xs) more p

  in_right : (xs : List A) {x : A} {ys more : List A} → IsPermutation (x ∷ ys) more → IsPermutation (x ∷ (xs ++ ys)) (xs ++ more)
  in_right xs {x} {ys} {more} p =
      IsPermutation-trans (x ∷ (xs ++ ys)) (xs ++ x ∷ ys) (xs ++ more) (IsPermutation-sym (xs ++ x ∷ ys) (x ∷ (xs ++ ys)) (IsPermutation-middle xs x ys)) (IsPermutation-append_right xs (x ∷ ys) more p)

  -- behind two elements in another order
  second : (x y : A) (xs more : List A) → IsPermutation (x ∷ xs) more → IsPermutation (x ∷ y ∷ xs) (y ∷ more)
  second x y xs more p = in_right (y ∷ []) p

-- an item of this key stands
pub record Stands (i : Item) (items : List Item) : Type 0 where
  pub old : Item
  pub there : Member items old
  pub same : key_of old ≡ key_of i

stands_left : (ys : List Item) {i : Item} {xs : List Item} → Stands i xs → Stands i (xs ++ ys)
stands_left ys {i} {xs} s = record { old = s.old; there = member-left xs ys s.old s.there; same = s.same }

stands_right : (xs : List Item) {i : Item} {ys : List Item} → Stands i ys → Stands i (xs ++ ys)
stands_right xs {i} {ys} s = record { old = s.old; there = member-right xs ys s.old s.there; same = s.same }

stands_here : (i j : Item) (items : List Item) → key_of j ≡ key_of i → Stands i (j ∷ items)
stands_here i j items e = record { old = j; there = inl refl; same = e }

stands_later : (j : Item) {i : Item} {xs : List Item} → Stands i xs → Stands i (j ∷ xs)
stands_later j {i} {xs} s = record { old = s.old; there = inr s.there; same = s.same }

-- ---- what may be taken

-- what holds where there is a value, and where there is none
abbrev pub Takes : {A : Type 0} → Type 0 → (A → Type 0) → Option A → Type 0
Takes N P None = N
Takes N P (Some x) = P x

-- an item is taken into a list of entries, whose items are now one more; or one of its key stands
module _ {K X : Type 0} (cmp : K → K → Ordering) (of : K × X → Item) (exact : (a b : K) → cmp a b ≡ Equal → a ≡ b) where
  put_in : (es : List (K × X)) (k : K) (x : X) → at cmp es k ≡ None → IsPermutation (of (k, x) ∷ map of es) (map of (insert_entry cmp es k x))
  put_in [] k x h = IsPermutation-refl (of (k, x) ∷ [])
  put_in (e ∷ es) k x h = by (cmp k e.0) h (put_in es k x)
    where
      by : (r : Ordering) → cond (is_eq r) (Some e.1) (at cmp es k) ≡ None → (at cmp es k ≡ None → IsPermutation (of (k, x) ∷ map of es) (map of (insert_entry cmp es k x)))
          → IsPermutation (of (k, x) ∷ of e ∷ map of es) (map of (match_ordering r ((k, x) ∷ e ∷ es) ((e.0, x) ∷ es) (e ∷ insert_entry cmp es k x)))
      by Less h later = IsPermutation-refl (of (k, x) ∷ of e ∷ map of es)
      by Equal h later = absurd cc
      by Greater h later = second (of (k, x)) (of e) (map of es) (map of (insert_entry cmp es k x)) (later h)

  module _ (keyed : (e f : K × X) → e.0 ≡ f.0 → key_of (of e) ≡ key_of (of f)) where
    found_in : (es : List (K × X)) (k : K) (x y : X) → at cmp es k ≡ Some y → Stands (of (k, x)) (map of es)
    found_in [] k x y h = absurd cc
    found_in (e ∷ es) k x y h = by (cmp k e.0) refl h (found_in es k x y)
      where
        by : (r : Ordering) → cmp k e.0 ≡ r → cond (is_eq r) (Some e.1) (at cmp es k) ≡ Some y → (at cmp es k ≡ Some y → Stands (of (k, x)) (map of es)) → Stands (of (k, x)) (of e ∷ map of es)
        by Less is h later = stands_later (of e) (later h)
        by Equal is h later = record { old = of e; there = inl refl; same = keyed e (k, x) (sym (exact k e.0 is)) }
        by Greater is h later = stands_later (of e) (later h)

    taken : (es : List (K × X)) (k : K) (x : X) → Takes (Stands (of (k, x)) (map of es)) (λ fs. IsPermutation (of (k, x) ∷ map of es) (map of fs)) (with_new cmp es k x)
    taken es k x = by (at cmp es k) refl
      where
        by : (r : Option X) → at cmp es k ≡ r → Takes (Stands (of (k, x)) (map of es)) (λ fs. IsPermutation (of (k, x) ∷ map of es) (map of fs)) (new_or cmp r es k x)
        by None is = put_in es k x is
        by (Some y) is = found_in es k x y is

-- ---- what was gathered, as items

abbrev head_items : Option (ℕ × ℕ) → List Item
head_items None = []
head_items (Some head) = item.Head head.0 head.1 ∷ []

abbrev given_items : Option Params → List Item
given_items None = []
given_items (Some params) = item.Parameters params ∷ []

abbrev pool_items : Option Money → List Item
pool_items None = []
pool_items (Some coins) = item.Pool coins ∷ []

-- the records of distribution as items, with these of the pool
abbrev shared_with_pool : List Item → SharedSeen → List Item
shared_with_pool pool s = (map (λ e. item.Purse e.0 e.1) s.purses ++ pool) ++ (map (λ e. item.Withdraw e.0 e.1) s.payees ++ reward_items s)

-- the records of all lists as items, with these of head, parameters and pool
abbrev lists_between : List Item → List Item → List Item → ListsSeen → List Item
lists_between head given pool l =
    ((head ++ (given ++ holding_items l.bank)) ++ staked_items l.staked)
    ++ (entry_items l.unbondings l.redelegations ++ (map (λ e. item.Signing e.0 e.1.info e.1.ring) l.signings ++ shared_with_pool pool l.shared))

abbrev pub listed_of : Gathered → List Item
listed_of g = lists_between (head_items g.head) (given_items g.params) (pool_items g.pool) g.lists

-- ---- the parts of the list

module _ (g : Gathered) where
  abbrev balance_rows : List Item
  balance_rows = map (λ e. item.Balance e.0.0 e.0.1 e.1) g.lists.bank.balances

  abbrev supply_rows : List Item
  supply_rows = map (λ e. item.Supply e.0 e.1) g.lists.bank.supplies

  abbrev validator_rows : List Item
  validator_rows = map (λ e. item.Validator e.1) g.lists.staked.validators

  abbrev delegation_rows : List Item
  delegation_rows = map (λ e. item.Delegation e.0.0 e.0.1 e.1) g.lists.staked.delegations

  abbrev unbonding_rows : List Item
  unbonding_rows = map (λ e. item.Unbonding e.0.0 e.0.1 e.1) g.lists.unbondings

  abbrev redelegation_rows : List Item
  redelegation_rows = map (λ e. item.Redelegation e.0.0 e.0.1 e.0.2 e.1) g.lists.redelegations

  abbrev signing_rows : List Item
  signing_rows = map (λ e. item.Signing e.0 e.1.info e.1.ring) g.lists.signings

  abbrev purse_rows : List Item
  purse_rows = map (λ e. item.Purse e.0 e.1) g.lists.shared.purses

  abbrev payee_rows : List Item
  payee_rows = map (λ e. item.Withdraw e.0 e.1) g.lists.shared.payees

  abbrev current_rows : List Item
  current_rows = map (λ e. item.CurrentPeriod e.0 e.1) g.lists.shared.currents

  abbrev history_rows : List Item
  history_rows = map (λ e. item.Historical e.0.0 e.0.1 e.1) g.lists.shared.histories

  abbrev start_rows : List Item
  start_rows = map (λ e. item.Start e.0.0 e.0.1 e.1) g.lists.shared.starts

  abbrev event_rows : List Item
  event_rows = map (λ e. item.Event e.0.0 (event_at e)) g.lists.shared.events

  abbrev front : List Item
  front = head_items g.head ++ (given_items g.params ++ (balance_rows ++ supply_rows))

  abbrev ahead : List Item
  ahead = front ++ (validator_rows ++ delegation_rows)

  abbrev entry_rows : List Item
  entry_rows = unbonding_rows ++ redelegation_rows

  abbrev shared_rows : List Item
  shared_rows = shared_with_pool (pool_items g.pool) g.lists.shared

  abbrev behind : List Item
  behind = entry_rows ++ (signing_rows ++ shared_rows)

  abbrev purses_and_pool : List Item
  purses_and_pool = purse_rows ++ pool_items g.pool

-- ---- one item more

-- an item is taken, and all items are those before with this one; or one of its key stands
abbrev pub IsTaken : Item → Gathered → Option Gathered → Type 0
IsTaken i g r = Takes (Stands i (listed_of g)) (λ h. IsPermutation (i ∷ listed_of g) (listed_of h)) r

module _ (i : Item) (g : Gathered) {X : Type 0} {N : Type 0} (P : X → Type 0) where
  within_lists : (f : X → ListsSeen) (r : Option X) → (N → Stands i (listed_of g)) → ((x : X) → P x → IsPermutation (i ∷ listed_of g) (listed_of (record g { lists = f x })))
      → Takes N P r → IsTaken i g (option_map (λ l. record g { lists = l }) (option_map f r))
  within_lists f None n h t = n t
  within_lists f (Some x) n h t = h x t

  within_shared : (f : X → SharedSeen) (r : Option X) → (N → Stands i (shared_with_pool (pool_items g.pool) g.lists.shared))
      → ((x : X) → P x → IsPermutation (i ∷ shared_with_pool (pool_items g.pool) g.lists.shared) (shared_with_pool (pool_items g.pool) (f x)))
      → Takes N P r → IsTaken i g (option_map (λ l. record g { lists = l }) (option_map (λ s. record g.lists { shared = s }) (option_map f r)))
  within_shared f None n h t = stands_right (ahead g) (stands_right (entry_rows g) (stands_right (signing_rows g) (n t)))
  within_shared f (Some x) n h t = in_right (ahead g) (in_right (entry_rows g) (in_right (signing_rows g) (h x t)))

-- validators stand under their operators
module _ (es : List (List ℕ × Validator)) (v : Validator) where
  abbrev validator_items : List (List ℕ × Validator) → List Item
  validator_items vs = map (λ e. item.Validator e.1) vs

  stands_under : (vs : List (List ℕ × Validator)) → AllByRecursion (λ e. e.1.operator ≡ e.0) vs → (w : Validator) → at addr_cmp vs v.operator ≡ Some w → Stands (item.Validator v) (validator_items vs)
  stands_under [] h w found = absurd cc
  stands_under (e ∷ vs) h w found = by (addr_cmp v.operator e.0) refl found (stands_under vs h.1 w)
    where
      by : (r : Ordering) → addr_cmp v.operator e.0 ≡ r → cond (is_eq r) (Some e.1) (at addr_cmp vs v.operator) ≡ Some w → (at addr_cmp vs v.operator ≡ Some w → Stands (item.Validator v) (validator_items vs)) → Stands (item.Validator v) (item.Validator e.1 ∷ validator_items vs)
      by Less is f later = stands_later (item.Validator e.1) (later f)
      by Equal is f later =
          let same : e.1.operator ≡ v.operator = h.0 ∙ sym (exact_addr v.operator e.0 is) in
          record { old = item.Validator e.1; there = inl refl; same = λ i. item.Validator (no_validator (same i)) }
      by Greater is f later = stands_later (item.Validator e.1) (later f)

  validator_taken : AllByRecursion (λ e. e.1.operator ≡ e.0) es → Takes (Stands (item.Validator v) (validator_items es)) (λ fs. IsPermutation (item.Validator v ∷ validator_items es) (validator_items fs)) (with_new addr_cmp es v.operator v)
  validator_taken h = by (at addr_cmp es v.operator) refl
    where
      by : (r : Option Validator) → at addr_cmp es v.operator ≡ r → Takes (Stands (item.Validator v) (validator_items es)) (λ fs. IsPermutation (item.Validator v ∷ validator_items es) (validator_items fs)) (new_or addr_cmp r es v.operator v)
      by None is = put_in addr_cmp (λ e. item.Validator e.1) exact_addr es v.operator v is
      by (Some w) is = stands_under es h w is

-- head, parameters and pool are taken once
module _ (g : Gathered) where
  abbrev with_head : Option (ℕ × ℕ) → List Item
  with_head old = lists_between (head_items old) (given_items g.params) (pool_items g.pool) g.lists

  abbrev with_params : Option Params → List Item
  with_params old = lists_between (head_items g.head) (given_items old) (pool_items g.pool) g.lists

  abbrev with_pool : Option Money → List Item
  with_pool old = lists_between (head_items g.head) (given_items g.params) (pool_items old) g.lists

  abbrev later : List Item
  later = payee_rows g ++ (current_rows g ++ (history_rows g ++ (start_rows g ++ event_rows g)))

  head_taken : (h t : ℕ) → IsTaken (item.Head h t) g (option_map (λ head. record g { head = head }) (once g.head (h, t)))
  head_taken h t = by g.head
    where
      by : (old : Option (ℕ × ℕ)) → Takes (Stands (item.Head h t) (with_head old)) (λ k. IsPermutation (item.Head h t ∷ with_head old) (listed_of k)) (option_map (λ head. record g { head = head }) (once old (h, t)))
      by None = IsPermutation-refl (item.Head h t ∷ with_head None)
      by (Some x) = stands_left (behind g) (stands_left (validator_rows g ++ delegation_rows g) (stands_left (given_items g.params ++ holding_items g.lists.bank) (stands_here (item.Head h t) (item.Head x.0 x.1) [] refl)))

  params_taken : (p : Params) → IsTaken (item.Parameters p) g (option_map (λ given. record g { params = given }) (once g.params p))
  params_taken p = by g.params
    where
      by : (old : Option Params) → Takes (Stands (item.Parameters p) (with_params old)) (λ k. IsPermutation (item.Parameters p ∷ with_params old) (listed_of k)) (option_map (λ given. record g { params = given }) (once old p))
      by None = in_left (behind g) (in_left (validator_rows g ++ delegation_rows g) (in_right (head_items g.head) (IsPermutation-refl (item.Parameters p ∷ holding_items g.lists.bank))))
      by (Some x) = stands_left (behind g) (stands_left (validator_rows g ++ delegation_rows g) (stands_right (head_items g.head) (stands_left (holding_items g.lists.bank) (stands_here (item.Parameters p) (item.Parameters x) [] refl))))

  pool_taken : (c : Money) → IsTaken (item.Pool c) g (option_map (λ pool. record g { pool = pool }) (once g.pool c))
  pool_taken c = by g.pool
    where
      by : (old : Option Money) → Takes (Stands (item.Pool c) (with_pool old)) (λ k. IsPermutation (item.Pool c ∷ with_pool old) (listed_of k)) (option_map (λ pool. record g { pool = pool }) (once old c))
      by None = in_right (ahead g) (in_right (entry_rows g) (in_right (signing_rows g) (in_left later (in_right (purse_rows g) (IsPermutation-refl (item.Pool c ∷ []))))))
      by (Some x) = stands_right (ahead g) (stands_right (entry_rows g) (stands_right (signing_rows g) (stands_left later (stands_right (purse_rows g) (stands_here (item.Pool c) (item.Pool x) [] refl)))))

pub one_taken : (i : Item) (g : Gathered) → AllByRecursion (λ e. e.1.operator ≡ e.0) g.lists.staked.validators → IsTaken i g (gathered_with i g)
one_taken (item.Head height time) g h = head_taken g height time
one_taken (item.Parameters params) g h = params_taken g params
one_taken (item.Pool coins) g h = pool_taken g coins
one_taken (item.Validator v) g h =
    within_lists (item.Validator v) g (λ es. IsPermutation (item.Validator v ∷ map (λ e. item.Validator e.1) g.lists.staked.validators) (map (λ e. item.Validator e.1) es)) (λ es. record g.lists { staked = record g.lists.staked { validators = es } }) (with_new addr_cmp g.lists.staked.validators v.operator v)
    (λ s. stands_left (behind g) (stands_right (front g) (stands_left (delegation_rows g) s)))
    (λ es p. in_left (behind g) (in_right (front g) (in_left (delegation_rows g) p)))
    (validator_taken g.lists.staked.validators v h)
one_taken (item.Balance account denom amount) g h =
    within_lists (item.Balance account denom amount) g (λ es. IsPermutation (item.Balance account denom amount ∷ map (λ e. item.Balance e.0.0 e.0.1 e.1) g.lists.bank.balances) (map (λ e. item.Balance e.0.0 e.0.1 e.1) es)) (λ es. record g.lists { bank = record g.lists.bank { balances = es } }) (with_new place_cmp g.lists.bank.balances (account, denom) amount)
    (λ s. stands_left (behind g) (stands_left (validator_rows g ++ delegation_rows g) (stands_right (head_items g.head) (stands_right (given_items g.params) (stands_left (supply_rows g) (s))))))
    (λ es p. in_left (behind g) (in_left (validator_rows g ++ delegation_rows g) (in_right (head_items g.head) (in_right (given_items g.params) (in_left (supply_rows g) (p))))))
    (taken place_cmp (λ e. item.Balance e.0.0 e.0.1 e.1) place_exact (λ e f p. λ i. item.Balance (p i).0 (p i).1 0) g.lists.bank.balances (account, denom) amount)
one_taken (item.Supply denom amount) g h =
    within_lists (item.Supply denom amount) g (λ es. IsPermutation (item.Supply denom amount ∷ map (λ e. item.Supply e.0 e.1) g.lists.bank.supplies) (map (λ e. item.Supply e.0 e.1) es)) (λ es. record g.lists { bank = record g.lists.bank { supplies = es } }) (with_new denom_cmp g.lists.bank.supplies denom amount)
    (λ s. stands_left (behind g) (stands_left (validator_rows g ++ delegation_rows g) (stands_right (head_items g.head) (stands_right (given_items g.params) (stands_right (balance_rows g) (s))))))
    (λ es p. in_left (behind g) (in_left (validator_rows g ++ delegation_rows g) (in_right (head_items g.head) (in_right (given_items g.params) (in_right (balance_rows g) (p))))))
    (taken denom_cmp (λ e. item.Supply e.0 e.1) exact_addr (λ e f p. λ i. item.Supply (p i) 0) g.lists.bank.supplies denom amount)
one_taken (item.Delegation operator delegator shares) g h =
    within_lists (item.Delegation operator delegator shares) g (λ es. IsPermutation (item.Delegation operator delegator shares ∷ map (λ e. item.Delegation e.0.0 e.0.1 e.1) g.lists.staked.delegations) (map (λ e. item.Delegation e.0.0 e.0.1 e.1) es)) (λ es. record g.lists { staked = record g.lists.staked { delegations = es } }) (with_new pair_cmp g.lists.staked.delegations (operator, delegator) shares)
    (λ s. stands_left (behind g) (stands_right (front g) (stands_right (validator_rows g) (s))))
    (λ es p. in_left (behind g) (in_right (front g) (in_right (validator_rows g) (p))))
    (taken pair_cmp (λ e. item.Delegation e.0.0 e.0.1 e.1) exact_pair (λ e f p. λ i. item.Delegation (p i).0 (p i).1 0) g.lists.staked.delegations (operator, delegator) shares)
one_taken (item.Unbonding delegator operator entries) g h =
    within_lists (item.Unbonding delegator operator entries) g (λ es. IsPermutation (item.Unbonding delegator operator entries ∷ map (λ e. item.Unbonding e.0.0 e.0.1 e.1) g.lists.unbondings) (map (λ e. item.Unbonding e.0.0 e.0.1 e.1) es)) (λ es. record g.lists { unbondings = es }) (with_new pair_cmp g.lists.unbondings (delegator, operator) entries)
    (λ s. stands_right (ahead g) (stands_left (signing_rows g ++ shared_rows g) (stands_left (redelegation_rows g) (s))))
    (λ es p. in_right (ahead g) (in_left (signing_rows g ++ shared_rows g) (in_left (redelegation_rows g) (p))))
    (taken pair_cmp (λ e. item.Unbonding e.0.0 e.0.1 e.1) exact_pair (λ e f p. λ i. item.Unbonding (p i).0 (p i).1 []) g.lists.unbondings (delegator, operator) entries)
one_taken (item.Redelegation delegator source target entries) g h =
    within_lists (item.Redelegation delegator source target entries) g (λ es. IsPermutation (item.Redelegation delegator source target entries ∷ map (λ e. item.Redelegation e.0.0 e.0.1 e.0.2 e.1) g.lists.redelegations) (map (λ e. item.Redelegation e.0.0 e.0.1 e.0.2 e.1) es)) (λ es. record g.lists { redelegations = es }) (with_new triple_cmp g.lists.redelegations (delegator, source, target) entries)
    (λ s. stands_right (ahead g) (stands_left (signing_rows g ++ shared_rows g) (stands_right (unbonding_rows g) (s))))
    (λ es p. in_right (ahead g) (in_left (signing_rows g ++ shared_rows g) (in_right (unbonding_rows g) (p))))
    (taken triple_cmp (λ e. item.Redelegation e.0.0 e.0.1 e.0.2 e.1) exact_triple (λ e f p. λ i. item.Redelegation (p i).0 (p i).1 (p i).2 []) g.lists.redelegations (delegator, source, target) entries)
one_taken (item.Signing cons info ring) g h =
    within_lists (item.Signing cons info ring) g (λ es. IsPermutation (item.Signing cons info ring ∷ map (λ e. item.Signing e.0 e.1.info e.1.ring) g.lists.signings) (map (λ e. item.Signing e.0 e.1.info e.1.ring) es)) (λ es. record g.lists { signings = es }) (with_new cons_cmp g.lists.signings cons (record { info = info; ring = ring }))
    (λ s. stands_right (ahead g) (stands_right (entry_rows g) (stands_left (shared_rows g) (s))))
    (λ es p. in_right (ahead g) (in_right (entry_rows g) (in_left (shared_rows g) (p))))
    (taken cons_cmp (λ e. item.Signing e.0 e.1.info e.1.ring) exact_addr (λ e f p. λ i. item.Signing (p i) no_info []) g.lists.signings cons (record { info = info; ring = ring }))
one_taken (item.Purse operator purse) g h =
    within_shared (item.Purse operator purse) g (λ es. IsPermutation (item.Purse operator purse ∷ map (λ e. item.Purse e.0 e.1) g.lists.shared.purses) (map (λ e. item.Purse e.0 e.1) es)) (λ es. record g.lists.shared { purses = es }) (with_new addr_cmp g.lists.shared.purses operator purse)
    (λ s. stands_left (payee_rows g ++ (current_rows g ++ (history_rows g ++ (start_rows g ++ event_rows g)))) (stands_left (pool_items g.pool) (s)))
    (λ es p. in_left (payee_rows g ++ (current_rows g ++ (history_rows g ++ (start_rows g ++ event_rows g)))) (in_left (pool_items g.pool) (p)))
    (taken addr_cmp (λ e. item.Purse e.0 e.1) exact_addr (λ e f p. λ i. item.Purse (p i) no_purse) g.lists.shared.purses operator purse)
one_taken (item.Withdraw delegator to) g h =
    within_shared (item.Withdraw delegator to) g (λ es. IsPermutation (item.Withdraw delegator to ∷ map (λ e. item.Withdraw e.0 e.1) g.lists.shared.payees) (map (λ e. item.Withdraw e.0 e.1) es)) (λ es. record g.lists.shared { payees = es }) (with_new addr_cmp g.lists.shared.payees delegator to)
    (λ s. stands_right (purses_and_pool g) (stands_left (current_rows g ++ (history_rows g ++ (start_rows g ++ event_rows g))) (s)))
    (λ es p. in_right (purses_and_pool g) (in_left (current_rows g ++ (history_rows g ++ (start_rows g ++ event_rows g))) (p)))
    (taken addr_cmp (λ e. item.Withdraw e.0 e.1) exact_addr (λ e f p. λ i. item.Withdraw (p i) no_address) g.lists.shared.payees delegator to)
one_taken (item.CurrentPeriod operator period) g h =
    within_shared (item.CurrentPeriod operator period) g (λ es. IsPermutation (item.CurrentPeriod operator period ∷ map (λ e. item.CurrentPeriod e.0 e.1) g.lists.shared.currents) (map (λ e. item.CurrentPeriod e.0 e.1) es)) (λ es. record g.lists.shared { currents = es }) (with_new addr_cmp g.lists.shared.currents operator period)
    (λ s. stands_right (purses_and_pool g) (stands_right (payee_rows g) (stands_left (history_rows g ++ (start_rows g ++ event_rows g)) (s))))
    (λ es p. in_right (purses_and_pool g) (in_right (payee_rows g) (in_left (history_rows g ++ (start_rows g ++ event_rows g)) (p))))
    (taken addr_cmp (λ e. item.CurrentPeriod e.0 e.1) exact_addr (λ e f p. λ i. item.CurrentPeriod (p i) 0) g.lists.shared.currents operator period)
one_taken (item.Historical operator period history) g h =
    within_shared (item.Historical operator period history) g (λ es. IsPermutation (item.Historical operator period history ∷ map (λ e. item.Historical e.0.0 e.0.1 e.1) g.lists.shared.histories) (map (λ e. item.Historical e.0.0 e.0.1 e.1) es)) (λ es. record g.lists.shared { histories = es }) (with_new period_cmp g.lists.shared.histories (operator, period) history)
    (λ s. stands_right (purses_and_pool g) (stands_right (payee_rows g) (stands_right (current_rows g) (stands_left (start_rows g ++ event_rows g) (s)))))
    (λ es p. in_right (purses_and_pool g) (in_right (payee_rows g) (in_right (current_rows g) (in_left (start_rows g ++ event_rows g) (p)))))
    (taken period_cmp (λ e. item.Historical e.0.0 e.0.1 e.1) period_exact (λ e f p. λ i. item.Historical (p i).0 (p i).1 (record { ratio = []; count = 0 })) g.lists.shared.histories (operator, period) history)
one_taken (item.Start operator delegator info) g h =
    within_shared (item.Start operator delegator info) g (λ es. IsPermutation (item.Start operator delegator info ∷ map (λ e. item.Start e.0.0 e.0.1 e.1) g.lists.shared.starts) (map (λ e. item.Start e.0.0 e.0.1 e.1) es)) (λ es. record g.lists.shared { starts = es }) (with_new pair_cmp g.lists.shared.starts (operator, delegator) info)
    (λ s. stands_right (purses_and_pool g) (stands_right (payee_rows g) (stands_right (current_rows g) (stands_right (history_rows g) (stands_left (event_rows g) (s))))))
    (λ es p. in_right (purses_and_pool g) (in_right (payee_rows g) (in_right (current_rows g) (in_right (history_rows g) (in_left (event_rows g) (p))))))
    (taken pair_cmp (λ e. item.Start e.0.0 e.0.1 e.1) exact_pair (λ e f p. λ i. item.Start (p i).0 (p i).1 (record { period = 0; stake = 0; height = 0 })) g.lists.shared.starts (operator, delegator) info)
one_taken (item.Event operator event) g h =
    within_shared (item.Event operator event) g (λ es. IsPermutation (item.Event operator event ∷ map (λ e. item.Event e.0.0 (event_at e)) g.lists.shared.events) (map (λ e. item.Event e.0.0 (event_at e)) es)) (λ es. record g.lists.shared { events = es }) (with_new event_cmp g.lists.shared.events (operator, event.height, event.period) event.fraction)
    (λ s. stands_right (purses_and_pool g) (stands_right (payee_rows g) (stands_right (current_rows g) (stands_right (history_rows g) (stands_right (start_rows g) (s))))))
    (λ es p. in_right (purses_and_pool g) (in_right (payee_rows g) (in_right (current_rows g) (in_right (history_rows g) (in_right (start_rows g) (p))))))
    (taken event_cmp (λ e. item.Event e.0.0 (event_at e)) event_exact (λ e f p. λ i. item.Event (p i).0 (record { height = (p i).1; period = (p i).2; fraction = 0 })) g.lists.shared.events (operator, event.height, event.period) event.fraction)

-- ---- all items

nothing_more : (items : List Item) → gathered items None ≡ None
nothing_more [] = refl
nothing_more (i ∷ items) = nothing_more items

none_some : {A : Type 0} (r : Option A) (x : A) → r ≡ None → r ≡ Some x → ⊥
none_some r x e f = let h : is_some (Some x) ≡ false = ap is_some (sym f ∙ e) in absurd cc

one_value : {A : Type 0} (x y : A) → Some x ≡ Some y → x ≡ y
one_value x y e = ap (λ o. unwrap_or o x) e

-- the keys ascend, and validators stand under their operators
are_under : (g : Gathered) → AreAscending g.lists → AllByRecursion (λ e. e.1.operator ≡ e.0) g.lists.staked.validators
are_under g a = recursion_from_All (λ e. e.1.operator ≡ e.0) g.lists.staked.validators a.operators

joined : (items : List Item) (g : Gathered) (done : List Item) → AreAscending g.lists → IsPermutation done (listed_of g) → (h : Gathered) → gathered items (Some g) ≡ Some h → IsPermutation (items ++ done) (listed_of h)
joined [] g done a p h e = subst (λ k. IsPermutation done (listed_of k)) (one_value g h e) p
joined (i ∷ items) g done a p h e = by (λ k b q f. joined items k (i ∷ done) b q h f) (gathered_with i g) (one_taken i g (are_under g a)) (one_ascends i g a) e
  where
    by : ((k : Gathered) → AreAscending k.lists → IsPermutation (i ∷ done) (listed_of k) → gathered items (Some k) ≡ Some h → IsPermutation (items ++ i ∷ done) (listed_of h))
        → (r : Option Gathered) → IsTaken i g r → IfSome r (λ k. AreAscending k.lists) → gathered items r ≡ Some h → IsPermutation (i ∷ (items ++ done)) (listed_of h)
    by rest None t b f = absurd (none_some (gathered items None) h (nothing_more items) f)
    by rest (Some k) t b f =
        IsPermutation-trans (i ∷ (items ++ done)) (items ++ i ∷ done) (listed_of h) (IsPermutation-sym (items ++ i ∷ done) (i ∷ (items ++ done)) (IsPermutation-middle items i done))
        (rest k b (IsPermutation-trans (i ∷ done) (i ∷ listed_of g) (listed_of k) (IsPermutation-cons i done (listed_of g) p) t) f)

-- whole records list what was gathered
whole_listed : (head : Option (ℕ × ℕ)) (given : Option Params) (pool : Option Money) (l : ListsSeen) (r : PlainSeen) → whole head given pool l ≡ Some r
    → lists_between (head_items head) (given_items given) (pool_items pool) l ≡ listed r
whole_listed (Some head) (Some given) (Some pool) l r e = ap listed (one_value (record { ctx = record { height = head.0; time = head.1; params = given }; pool = pool; lists = l }) r e)
whole_listed (Some head) (Some given) None l r e = absurd cc
whole_listed (Some head) None pool l r e = absurd cc
whole_listed None given pool l r e = absurd cc

-- Records that are gathered list just the items.
pub records_listed : (items : List Item) → IfSome (records_in items) (λ r. IsPermutation (listed r) items)
records_listed items = by (gathered items (Some nothing_gathered)) refl
  where
    from : (g : Gathered) → gathered items (Some nothing_gathered) ≡ Some g → IsPermutation items (listed_of g)
    from g e = subst (λ (l : List Item). IsPermutation l (listed_of g)) (append-nil items) (joined items nothing_gathered [] none_ascend (IsPermutation-refl []) g e)

    of_whole : (g : Gathered) → gathered items (Some nothing_gathered) ≡ Some g → (r : Option PlainSeen) → whole g.head g.params g.pool g.lists ≡ r → IfSome r (λ r. IsPermutation (listed r) items)
    of_whole g e None f = tt
    of_whole g e (Some r) f = IsPermutation-sym items (listed r) (subst (IsPermutation items) (whole_listed g.head g.params g.pool g.lists r f) (from g e))

    by : (o : Option Gathered) → gathered items (Some nothing_gathered) ≡ o → IfSome (all_of o) (λ r. IsPermutation (listed r) items)
    by None e = tt
    by (Some g) e = of_whole g e (whole g.head g.params g.pool g.lists) refl

-- ---- items of which no key stands twice are gathered

key_there : (xs : List Item) (x : Item) → Member xs x → Member (map key_of xs) (key_of x)
key_there [] x m = m
key_there (y ∷ ys) x (inl e) = inl (ap key_of e)
key_there (y ∷ ys) x (inr m) = inr (key_there ys x m)

gathers : (items : List Item) (g : Gathered) (done : List Item) → AreAscending g.lists → IsPermutation done (listed_of g) → Once (map key_of (items ++ done)) → IsSome (gathered items (Some g))
gathers [] g done a p o = refl
gathers (i ∷ items) g done a p o = by (λ k b q n. gathers items k (i ∷ done) b q n) (gathered_with i g) (one_taken i g (are_under g a)) (one_ascends i g a)
  where
    clash : Stands i (listed_of g) → ⊥
    clash s =
        let before = member done s.old (Contains-permutation (listed_of g) done s.old (IsPermutation-sym done (listed_of g) p) (contained (listed_of g) s.old s.there)) in
        o.0 (subst (Member (map key_of (items ++ done))) s.same (key_there (items ++ done) s.old (member-right items done s.old before)))

    by : ((k : Gathered) → AreAscending k.lists → IsPermutation (i ∷ done) (listed_of k) → Once (map key_of (items ++ i ∷ done)) → IsSome (gathered items (Some k)))
        → (r : Option Gathered) → IsTaken i g r → IfSome r (λ k. AreAscending k.lists) → IsSome (gathered items r)
    by rest None s b = absurd (clash s)
    by rest (Some k) t b =
        rest k b (IsPermutation-trans (i ∷ done) (i ∷ listed_of g) (listed_of k) (IsPermutation-cons i done (listed_of g) p) t)
        (once_anyway (map key_of (i ∷ (items ++ done))) (map key_of (items ++ i ∷ done))
        (IsPermutation-map key_of (i ∷ (items ++ done)) (items ++ i ∷ done) (IsPermutation-sym (items ++ i ∷ done) (i ∷ (items ++ done)) (IsPermutation-middle items i done))) o)

-- ---- head, parameters and pool came

module _ (n : ℕ) where
  -- no item is of this kind
  abbrev HasNone : List Item → Type 0
  HasNone items = (i : Item) → Member items i → kind_of i ≡ n → ⊥

  none_both : (xs ys : List Item) → HasNone xs → HasNone ys → HasNone (xs ++ ys)
  none_both xs ys a b i m = by (member-cases xs ys i m)
    where
      by : Member xs i ⊎ Member ys i → kind_of i ≡ n → ⊥
      by (inl h) = a i h
      by (inr h) = b i h

  none_alone : (i : Item) → (kind_of i ≡ n → ⊥) → HasNone (i ∷ [])
  none_alone i d j (inl q) e = d (ap kind_of q ∙ e)
  none_alone i d j (inr m) e = m

  none_rows : {E : Type 0} (of : E → Item) (m : ℕ) → ((e : E) → kind_of (of e) ≡ m) → (m ≡ n → ⊥) → (es : List E) → HasNone (map of es)
  none_rows of m k d [] i h e = h
  none_rows of m k d (x ∷ es) i (inl q) e = d (sym (k x) ∙ ap kind_of q ∙ e)
  none_rows of m k d (x ∷ es) i (inr h) e = none_rows of m k d es i h e

  head_none : (0 ≡ n → ⊥) → (head : Option (ℕ × ℕ)) → HasNone (head_items head)
  head_none d None = λ i m e. m
  head_none d (Some h) = none_alone (item.Head h.0 h.1) d

  given_none : (1 ≡ n → ⊥) → (given : Option Params) → HasNone (given_items given)
  given_none d None = λ i m e. m
  given_none d (Some p) = none_alone (item.Parameters p) d

  pool_none : (10 ≡ n → ⊥) → (pool : Option Money) → HasNone (pool_items pool)
  pool_none d None = λ i m e. m
  pool_none d (Some c) = none_alone (item.Pool c) d

  -- what the kinds of all others are
  abbrev IsOther : Type 0
  IsOther = (m : ℕ) → 2 ≤ m → (m ≡ 10 → ⊥) → m ≡ n → ⊥

  lists_none : IsOther → (head given pool : List Item) (l : ListsSeen) → HasNone head → HasNone given → HasNone pool → HasNone (lists_between head given pool l)
  lists_none d head given pool l a b c =
      let two = d 2 (omega arith) (λ e. absurd (omega (arith, e))) in
      let three = d 3 (omega arith) (λ e. absurd (omega (arith, e))) in
      let four = d 4 (omega arith) (λ e. absurd (omega (arith, e))) in
      let five = d 5 (omega arith) (λ e. absurd (omega (arith, e))) in
      let six = d 6 (omega arith) (λ e. absurd (omega (arith, e))) in
      let seven = d 7 (omega arith) (λ e. absurd (omega (arith, e))) in
      let eight = d 8 (omega arith) (λ e. absurd (omega (arith, e))) in
      let nine = d 9 (omega arith) (λ e. absurd (omega (arith, e))) in
      let eleven = d 11 (omega arith) (λ e. absurd (omega (arith, e))) in
      let twelve = d 12 (omega arith) (λ e. absurd (omega (arith, e))) in
      let thirteen = d 13 (omega arith) (λ e. absurd (omega (arith, e))) in
      let fourteen = d 14 (omega arith) (λ e. absurd (omega (arith, e))) in
      let fifteen = d 15 (omega arith) (λ e. absurd (omega (arith, e))) in
      let balances = map (λ (e : (Account × List ℕ) × ℕ). item.Balance e.0.0 e.0.1 e.1) l.bank.balances in
      let supplies = map (λ (e : List ℕ × ℕ). item.Supply e.0 e.1) l.bank.supplies in
      let validators = map (λ (e : List ℕ × Validator). item.Validator e.1) l.staked.validators in
      let delegations = map (λ (e : (List ℕ × List ℕ) × ℕ). item.Delegation e.0.0 e.0.1 e.1) l.staked.delegations in
      let unbondings = map (λ (e : (List ℕ × List ℕ) × List UnbondingEntry). item.Unbonding e.0.0 e.0.1 e.1) l.unbondings in
      let redelegations = map (λ (e : (List ℕ × List ℕ × List ℕ) × List RedelegationEntry). item.Redelegation e.0.0 e.0.1 e.0.2 e.1) l.redelegations in
      let signings = map (λ (e : List ℕ × Signed). item.Signing e.0 e.1.info e.1.ring) l.signings in
      let purses = map (λ (e : List ℕ × Purse). item.Purse e.0 e.1) l.shared.purses in
      let payees = map (λ (e : List ℕ × List ℕ). item.Withdraw e.0 e.1) l.shared.payees in
      let currents = map (λ (e : List ℕ × ℕ). item.CurrentPeriod e.0 e.1) l.shared.currents in
      let histories = map (λ (e : (List ℕ × ℕ) × Historical). item.Historical e.0.0 e.0.1 e.1) l.shared.histories in
      let starts = map (λ (e : (List ℕ × List ℕ) × StartingInfo). item.Start e.0.0 e.0.1 e.1) l.shared.starts in
      let events = map (λ (e : (List ℕ × ℕ × ℕ) × ℕ). item.Event e.0.0 (event_at e)) l.shared.events in
      none_both ((head ++ (given ++ (balances ++ supplies))) ++ (validators ++ delegations)) ((unbondings ++ redelegations) ++ (signings ++ ((purses ++ pool) ++ (payees ++ (currents ++ (histories ++ (starts ++ events)))))))
      (none_both (head ++ (given ++ (balances ++ supplies))) (validators ++ delegations)
      (none_both head (given ++ (balances ++ supplies)) a (none_both given (balances ++ supplies) b
      (none_both balances supplies (none_rows (λ (e : (Account × List ℕ) × ℕ). item.Balance e.0.0 e.0.1 e.1) 2 (λ e. refl) two l.bank.balances) (none_rows (λ (e : List ℕ × ℕ). item.Supply e.0 e.1) 3 (λ e. refl) three l.bank.supplies))))
      (none_both validators delegations (none_rows (λ (e : List ℕ × Validator). item.Validator e.1) 4 (λ e. refl) four l.staked.validators) (none_rows (λ (e : (List ℕ × List ℕ) × ℕ). item.Delegation e.0.0 e.0.1 e.1) 5 (λ e. refl) five l.staked.delegations)))
      (none_both (unbondings ++ redelegations) (signings ++ ((purses ++ pool) ++ (payees ++ (currents ++ (histories ++ (starts ++ events))))))
      (none_both unbondings redelegations (none_rows (λ (e : (List ℕ × List ℕ) × List UnbondingEntry). item.Unbonding e.0.0 e.0.1 e.1) 6 (λ e. refl) six l.unbondings)
      (none_rows (λ (e : (List ℕ × List ℕ × List ℕ) × List RedelegationEntry). item.Redelegation e.0.0 e.0.1 e.0.2 e.1) 7 (λ e. refl) seven l.redelegations))
      (none_both signings ((purses ++ pool) ++ (payees ++ (currents ++ (histories ++ (starts ++ events))))) (none_rows (λ (e : List ℕ × Signed). item.Signing e.0 e.1.info e.1.ring) 8 (λ e. refl) eight l.signings)
      (none_both (purses ++ pool) (payees ++ (currents ++ (histories ++ (starts ++ events)))) (none_both purses pool (none_rows (λ (e : List ℕ × Purse). item.Purse e.0 e.1) 9 (λ e. refl) nine l.shared.purses) c)
      (none_both payees (currents ++ (histories ++ (starts ++ events))) (none_rows (λ (e : List ℕ × List ℕ). item.Withdraw e.0 e.1) 11 (λ e. refl) eleven l.shared.payees)
      (none_both currents (histories ++ (starts ++ events)) (none_rows (λ (e : List ℕ × ℕ). item.CurrentPeriod e.0 e.1) 12 (λ e. refl) twelve l.shared.currents)
      (none_both histories (starts ++ events) (none_rows (λ (e : (List ℕ × ℕ) × Historical). item.Historical e.0.0 e.0.1 e.1) 13 (λ e. refl) thirteen l.shared.histories)
      (none_both starts events (none_rows (λ (e : (List ℕ × List ℕ) × StartingInfo). item.Start e.0.0 e.0.1 e.1) 14 (λ e. refl) fourteen l.shared.starts)
      (none_rows (λ (e : (List ℕ × ℕ × ℕ) × ℕ). item.Event e.0.0 (event_at e)) 15 (λ e. refl) fifteen l.shared.events))))))))

module _ (g : Gathered) where
  head_there : (h t : ℕ) → Member (listed_of g) (item.Head h t) → IsSome g.head
  head_there h t = by g.head
    where
      by : (old : Option (ℕ × ℕ)) → Member (with_head g old) (item.Head h t) → IsSome old
      by (Some x) m = refl
      by None m = absurd (lists_none 0 (λ k two ten e. absurd (omega (arith, two, e))) [] (given_items g.params) (pool_items g.pool) g.lists (λ i n e. n)
          (given_none 0 (λ e. absurd (omega (arith, e))) g.params) (pool_none 0 (λ e. absurd (omega (arith, e))) g.pool) (item.Head h t) m refl)

  params_there : (p : Params) → Member (listed_of g) (item.Parameters p) → IsSome g.params
  params_there p = by g.params
    where
      by : (old : Option Params) → Member (with_params g old) (item.Parameters p) → IsSome old
      by (Some x) m = refl
      by None m = absurd (lists_none 1 (λ k two ten e. absurd (omega (arith, two, e))) (head_items g.head) [] (pool_items g.pool) g.lists (head_none 1 (λ e. absurd (omega (arith, e))) g.head)
          (λ i n e. n) (pool_none 1 (λ e. absurd (omega (arith, e))) g.pool) (item.Parameters p) m refl)

  pool_there : (c : Money) → Member (listed_of g) (item.Pool c) → IsSome g.pool
  pool_there c = by g.pool
    where
      by : (old : Option Money) → Member (with_pool g old) (item.Pool c) → IsSome old
      by (Some x) m = refl
      by None m = absurd (lists_none 10 (λ k two ten e. ten e) (head_items g.head) (given_items g.params) [] g.lists (head_none 10 (λ e. absurd (omega (arith, e))) g.head)
          (given_none 10 (λ e. absurd (omega (arith, e))) g.params) (λ i n e. n) (item.Pool c) m refl)

whole_there : (head : Option (ℕ × ℕ)) (given : Option Params) (pool : Option Money) (l : ListsSeen) → IsSome head → IsSome given → IsSome pool → IsSome (whole head given pool l)
whole_there (Some h) (Some p) (Some c) l a b d = refl
whole_there None given pool l a b d = absurd cc
whole_there (Some h) None pool l a b d = absurd cc
whole_there (Some h) (Some p) None l a b d = absurd cc

pool_listed : (r : PlainSeen) → Member (listed r) (item.Pool r.pool)
pool_listed r =
    let l = r.lists in
    let purses = map (λ (e : List ℕ × Purse). item.Purse e.0 e.1) l.shared.purses in
    let later = map (λ (e : List ℕ × List ℕ). item.Withdraw e.0 e.1) l.shared.payees ++ reward_items l.shared in
    let signings = map (λ (e : List ℕ × Signed). item.Signing e.0 e.1.info e.1.ring) l.signings in
    let entries = entry_items l.unbondings l.redelegations in
    let ahead = (item.Head r.ctx.height r.ctx.time ∷ item.Parameters r.ctx.params ∷ holding_items l.bank) ++ staked_items l.staked in
    member-right ahead (entries ++ (signings ++ ((purses ++ item.Pool r.pool ∷ []) ++ later))) (item.Pool r.pool)
    (member-right entries (signings ++ ((purses ++ item.Pool r.pool ∷ []) ++ later)) (item.Pool r.pool)
    (member-right signings ((purses ++ item.Pool r.pool ∷ []) ++ later) (item.Pool r.pool)
    (member-left (purses ++ item.Pool r.pool ∷ []) later (item.Pool r.pool) (member-right purses (item.Pool r.pool ∷ []) (item.Pool r.pool) (inl refl)))))

-- Items that are listed of records whose keys ascend are gathered, in whatever order they come.
pub listed_gathered : (r : PlainSeen) (items : List Item) → AreAscending r.lists → IsPermutation (listed r) items → IsSome (records_in items)
listed_gathered r items a p = by (gathered items (Some nothing_gathered)) refl (gathers items nothing_gathered [] none_ascend (IsPermutation-refl []) own_keys)
  where
    own_keys : Once (map key_of (items ++ []))
    own_keys = subst (λ (l : List Item). Once (map key_of l)) (sym (append-nil items)) (once_anyway (map key_of (listed r)) (map key_of items) (IsPermutation-map key_of (listed r) items p) (listed_once r a))

    there : (g : Gathered) → gathered items (Some nothing_gathered) ≡ Some g → (i : Item) → Member (listed r) i → Member (listed_of g) i
    there g e i m =
        let same : IsPermutation items (listed_of g) = subst (λ (l : List Item). IsPermutation l (listed_of g)) (append-nil items) (joined items nothing_gathered [] none_ascend (IsPermutation-refl []) g e) in
        member (listed_of g) i (Contains-permutation items (listed_of g) i same (Contains-permutation (listed r) items i p (contained (listed r) i m)))

    by : (o : Option Gathered) → gathered items (Some nothing_gathered) ≡ o → IsSome o → IsSome (all_of o)
    by None e s = absurd cc
    by (Some g) e s =
        whole_there g.head g.params g.pool g.lists (head_there g r.ctx.height r.ctx.time (there g e (item.Head r.ctx.height r.ctx.time) (inl refl)))
        (params_there g r.ctx.params (there g e (item.Parameters r.ctx.params) (inr (inl refl)))) (pool_there g r.pool (there g e (item.Pool r.pool) (pool_listed r)))
