-- Coins that stand in order are the list of coins that they make.
use Rattle.std.proofs.Common.{◌≡◌, ℕ, true, false, List, [], ◌∷◌, refl, arith, ◌==◌, nat_lt, Ordering, Less, Equal, Greater, is_lt}
use Rattle.std.specs.{BTreeMap.insert_entry, List.{AllByRecursion, Sorted.IsStrictlySortedBy}, Map.keys_of}
use Rattle.std.proofs.lemmas.{Bool.{and_parts, Decides.nat_tests}, List.Sorted.IsPermutation-refl}
use Rattle.base_types.specs.Orders.{denom_cmp}
use Rattle.base_coins.{specs.Coins.{Money, sorted_coins, stands_twice}, proofs.{Order.total, Sorting.kept_once}}
use Rattle.store_rows.specs.Reading.{comes_before, is_in_order}

less_is : (o : Ordering) → is_lt o ≡ true → o ≡ Less
less_is Less h = refl
less_is Equal h = absurd cc
less_is Greater h = absurd cc

-- a coin in order is not 0
is_some_coin : (c : List ℕ × ℕ) (cs : Money) → comes_before c cs ≡ true → nat_lt 0 c.1 ≡ true
is_some_coin c [] h = h
is_some_coin c (d ∷ cs) h = (and_parts (nat_lt 0 c.1) (is_lt (denom_cmp c.0 d.0)) h).0

-- it goes to the front of those that it comes before
goes_first : (c : List ℕ × ℕ) (cs : Money) → comes_before c cs ≡ true → insert_entry denom_cmp cs c.0 c.1 ≡ c ∷ cs
goes_first c [] h = refl
goes_first c (d ∷ cs) h = rw (less_is _ (and_parts (nat_lt 0 c.1) (is_lt (denom_cmp c.0 d.0)) h).1) refl

-- coins in order stay as they stand
pub in_order_is_sorted : (x : Money) → is_in_order x ≡ true → sorted_coins x ≡ x
in_order_is_sorted [] h = refl
in_order_is_sorted (c ∷ cs) h =
    let parts = and_parts (comes_before c cs) (is_in_order cs) h in
    let first = is_some_coin c cs parts.0 in
    let some : (c.1 == 0) ≡ false = grind (arith, nat_tests, first) in
    rw (in_order_is_sorted cs parts.1, some) (goes_first c cs parts.0)

all_above : (d e : List ℕ) (ks : List (List ℕ)) → denom_cmp d e ≡ Less → AllByRecursion (λ k. denom_cmp e k ≡ Less) ks → AllByRecursion (λ k. denom_cmp d k ≡ Less) ks
all_above d e [] less above = tt
all_above d e (k ∷ ks) less above = (total.trans d e k less above.0, all_above d e ks less above.1)

-- their denominations ascend
pub ascends : (x : Money) → is_in_order x ≡ true → IsStrictlySortedBy denom_cmp (keys_of x)
unfolding IsStrictlySortedBy
ascends [] h = tt
ascends (c ∷ []) h = (tt, tt)
ascends (c ∷ d ∷ cs) h =
    let parts = and_parts (comes_before c (d ∷ cs)) (is_in_order (d ∷ cs)) h in
    let less = less_is _ (and_parts (nat_lt 0 c.1) (is_lt (denom_cmp c.0 d.0)) parts.0).1 in
    let rest = ascends (d ∷ cs) parts.1 in
    ((less, all_above c.0 d.0 (keys_of cs) less rest.0), rest)

-- and none stands twice
pub in_order_is_once : (x : Money) → is_in_order x ≡ true → stands_twice x ≡ false
in_order_is_once x h = kept_once x x (IsPermutation-refl x) (ascends x h)
