-- The pending rewards of one delegator among those of all delegations.
use Rattle.std.proofs.Common.{◌≡◌, ◌∙◌, ℕ, ◌+◌, ◌<◌, ◌≤◌, Bool, true, false, cond, not, List, [], ◌∷◌, ◌++◌, filter, take, length, get_or, refl, sym, ap, arith, flat_map, IsPermutation, take_all}
use Rattle.std.specs.{List.{AllByRecursion, Sorted.IsStrictlySortedBy}, Map.keys_of}
use Rattle.std.proofs.lemmas.{Grind.{common_steps, flat_map-append}, List.Elements.{All-from_recursion, filter-append}}
use Rattle.std.proofs.lemmas.List.Sorted.{IsPermutation-filter_both, IsPermutation-trans}
use Rattle.base_roles.specs.{declared.items.Item.Item, Orders.{pair_cmp, same_addr}}
use Rattle.base_roles.specs.declared.items.Item.TheVariants as item
use Rattle.base_messages.specs.declared.report.Pending.{Pending}
use Rattle.rule_modules.specs.Chain.{State, Stakes}
use Rattle.mod_staking.specs.Items.{items_of}
use Rattle.rule_machine.specs.Report.{pending_of}
use Rattle.chain_modules.specs.{declared.modules.Modules.Modules, Kept.{StandsFor, kept_of}}
use Rattle.chain_whole.specs.Pending.{pending_for, pending_in, pending_of_item, is_pending_to, is_delegation_of, own_of_item, ArePendingTo}
use Rattle.chain_whole.proofs.PendingLemmas.{pending_of_items, pending_permuted}

-- a delegation of the delegator gives its pending reward
pub own_given : (p : State) (who : List ℕ) (i : Item) → is_delegation_of who i ≡ true → own_of_item p who i ≡ pending_of_item p i
own_given p who (item.Delegation operator delegator shares) e = ap (λ b. cond b (pending_for p operator delegator shares ∷ []) []) e
own_given p who (item.Head height time) e = absurd cc
own_given p who (item.Parameters params) e = absurd cc
own_given p who (item.Balance account denom amount) e = absurd cc
own_given p who (item.Supply denom amount) e = absurd cc
own_given p who (item.Validator validator) e = absurd cc
own_given p who (item.Unbonding delegator operator entries) e = absurd cc
own_given p who (item.Redelegation delegator source target entries) e = absurd cc
own_given p who (item.Signing cons info ring) e = absurd cc
own_given p who (item.Purse operator purse) e = absurd cc
own_given p who (item.Pool coins) e = absurd cc
own_given p who (item.Withdraw delegator to) e = absurd cc
own_given p who (item.CurrentPeriod operator period) e = absurd cc
own_given p who (item.Historical operator period history) e = absurd cc
own_given p who (item.Start operator delegator info) e = absurd cc
own_given p who (item.Event operator event) e = absurd cc

-- ---- all items

pub own_more : (p : State) (who : List ℕ) (items : List Item) (i : ℕ) (x : Item) (list list2 : List Pending) → i < length items → x ≡ get_or items i x → list ≡ flat_map (own_of_item p who) (take i items)
    → list2 ≡ list ++ own_of_item p who x → list2 ≡ flat_map (own_of_item p who) (take (i + 1) items)
own_more p who items i x list list2 lt is so e =
    e ∙ ap (λ (l : List Pending). l ++ own_of_item p who x) so ∙ ap (λ (y : Item). flat_map (own_of_item p who) (take i items) ++ own_of_item p who y) is ∙ sym (more (own_of_item p who) items i x lt)
  where
    more : (f : Item → List Pending) (xs : List Item) (j : ℕ) (d : Item) → j < length xs → flat_map f (take (j + 1) xs) ≡ flat_map f (take j xs) ++ f (get_or xs j d)
    more f xs j d l = grind (arith, common_steps, flat_map-append)

filtered : (own : Pending → Bool) (f : Item → List Pending) (items : List Item) → flat_map (λ i. filter own (f i)) items ≡ filter own (flat_map f items)
filtered own f [] = refl
filtered own f (i ∷ items) = ap (λ (l : List Pending). filter own (f i) ++ l) (filtered own f items) ∙ sym (filter-append own (f i) (flat_map f items))

pub all_own : {E : Type 0} (m : Modules E) (p : State) (who : List ℕ) → StandsFor (kept_of m) p → (items : List Item) (i : ℕ) (list : List Pending) → items ≡ items_of m.stakes.staking.staked → length items ≤ i
    → list ≡ flat_map (own_of_item p who) (take i items) → list ≡ filter (is_pending_to who) (pending_in p)
all_own m p who s items i list e most so =
    so ∙ ap (λ (l : List Item). flat_map (own_of_item p who) l) (take_all i items most ∙ e ∙ ap (λ (k : Stakes). items_of k.staked) (sym s.keeps.stakes))
    ∙ filtered (is_pending_to who) (pending_of_item p) (items_of p.mine.staked) ∙ ap (filter (is_pending_to who)) (pending_of_items p)

-- ---- those that are missing

others_apart : (own : Pending → Bool) (ps : List Pending) → AllByRecursion (λ d. own d ≡ false) (filter (λ d. not (own d)) ps)
others_apart own [] = tt
others_apart own (d ∷ ps) = by (own d) refl (others_apart own ps)
  where
    by : (b : Bool) → own d ≡ b → AllByRecursion (λ x. own x ≡ false) (filter (λ x. not (own x)) ps) → AllByRecursion (λ x. own x ≡ false) (cond (not b) (d ∷ filter (λ x. not (own x)) ps) (filter (λ x. not (own x)) ps))
    by true e later = later
    by false e later = (e, later)

pub own_pending : (p : State) (who : List ℕ) → IsStrictlySortedBy pair_cmp (keys_of p.mine.staked.delegations) → ArePendingTo p who (filter (is_pending_to who) (pending_in p))
own_pending p who s =
    let own = is_pending_to who in
    let others = filter (λ d. not (own d)) (pending_in p) in
    record {
      missing = others;
      others = All-from_recursion (λ d. is_pending_to who d ≡ false) others (others_apart own (pending_in p));
      rest = IsPermutation-trans (pending_of p) (pending_in p) (filter own (pending_in p) ++ others) (pending_permuted p s) (IsPermutation-filter_both own (λ d. not (own d)) (λ d. refl) (pending_in p));
    }
