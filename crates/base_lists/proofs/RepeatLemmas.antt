-- Keys that stand twice, or among others.
use Rattle.std.proofs.Common.{◌≡◌, ◌∙◌, ℕ, ◌+◌, ◌≤◌, ◌<◌, Bool, true, false, not, List, [], ◌∷◌, drop, length, get_or, refl, sym, ap, ◌||◌, ◌&&◌, Ordering, Less, Equal, Greater, is_eq, true≢false}
use Rattle.std.specs.{List.{list_any, list_all}, Ordering.{match_ordering, ordering_then}, BTreeMap.is_at}
use Rattle.std.specs.{BTreeSet.insert_key, Cmp.{IsTotalOrder, eq_by_cmp_equiv}}
use Rattle.base_types.specs.{declared.account.Account.Account, Orders.account_cmp}
use Rattle.base_coins.specs.Coins.{has_repeats}
use Rattle.base_lists.proofs.PlaceLemmas.{next, drop_end}

-- ---- a key that is new in a set

swapped : (a b c : Bool) → (a || (b || c)) ≡ (b || (a || c))
swapped true true c = refl
swapped true false c = refl
swapped false true c = refl
swapped false false c = refl

first_of_or : (a b : Bool) → (a || b) ≡ false → a ≡ false
first_of_or true b h = h
first_of_or false b h = refl

second_of_or : (a b : Bool) → (a || b) ≡ false → b ≡ false
second_of_or true b h = absurd (true≢false h)
second_of_or false b h = h

pub any-put : {K : Type 0} (cmp : K → K → Ordering) (test : K → Bool) (ks : List K) (k : K) → list_any (is_at (cmp k)) ks ≡ false → list_any test (insert_key cmp ks k) ≡ (test k || list_any test ks)
any-put cmp test [] k h = refl
any-put cmp test (x ∷ ks) k h = by (cmp k x) (first_of_or (is_eq (cmp k x)) _ h) (any-put cmp test ks k (second_of_or (is_eq (cmp k x)) _ h))
  where
    by : (r : Ordering) → is_eq r ≡ false → list_any test (insert_key cmp ks k) ≡ (test k || list_any test ks) → list_any test (match_ordering r (k ∷ x ∷ ks) (x ∷ ks) (x ∷ insert_key cmp ks k)) ≡ (test k || (test x || list_any test ks))
    by Less e later = refl
    by Equal e later = absurd (true≢false e)
    by Greater e later = rw later (swapped (test x) (test k) (list_any test ks))

pub not_true : (b : Bool) → true ≡ not b → b ≡ false
not_true true e = absurd (true≢false e)
not_true false e = refl

pub not_false : (b : Bool) → false ≡ not b → b ≡ true
not_false true e = refl
not_false false e = absurd (true≢false (sym e))

-- ---- keys that stand again

-- some key stands among those before it
abbrev pub stands_again : {K : Type 0} → (K → K → Ordering) → List K → List K → Bool
stands_again cmp before [] = false
stands_again cmp before (k ∷ keys) = list_any (is_at (cmp k)) before || stands_again cmp (k ∷ before) keys

any_or : {K : Type 0} (f g : K → Bool) (keys : List K) → list_any (λ x. f x || g x) keys ≡ (list_any f keys || list_any g keys)
any_or f g [] = refl
any_or f g (k ∷ keys) = ap (λ b. (f k || g k) || b) (any_or f g keys) ∙ by (f k) (g k) (list_any f keys) (list_any g keys)
  where
    by : (a b c d : Bool) → ((a || b) || (c || d)) ≡ ((a || c) || (b || d))
    by true b c d = refl
    by false b true d = with_true b
      where
        with_true : (x : Bool) → (x || true) ≡ true
        with_true true = refl
        with_true false = refl
    by false b false d = refl

none_before : {K : Type 0} (keys : List K) → list_any (λ k. false) keys ≡ false
none_before [] = refl
none_before (k ∷ keys) = none_before keys

-- the set holds the keys before this place, and it is left to see whether one of the rest stands among those before it
pub record SeenSoFar {K : Type 0} (cmp : K → K → Ordering) (all : List K) (i : ℕ) (seen : List K) : Type 0 where
  pub before : List K
  pub same : (q : K) → list_any (is_at (cmp q)) seen ≡ list_any (is_at (cmp q)) before
  pub rest : stands_again cmp before (drop i all) ≡ has_repeats cmp all

-- the set holds the keys before this place
pub record HeldSoFar {K : Type 0} (cmp : K → K → Ordering) (all : List K) (i : ℕ) (seen : List K) : Type 0 where
  pub rest : (q : K) → (list_any (is_at (cmp q)) (drop i all) || list_any (is_at (cmp q)) seen) ≡ list_any (is_at (cmp q)) all

module _ {K : Type 0} (cmp : K → K → Ordering) (o : IsTotalOrder cmp) where
  again_by : (a b c t : Bool) → (a || ((b || c) || t)) ≡ ((a || c) || (b || t))
  again_by true b c t = refl
  again_by false true true t = refl
  again_by false true false t = refl
  again_by false false true t = refl
  again_by false false false t = refl

  again_is : (before keys : List K) → stands_again cmp before keys ≡ (list_any (λ k. list_any (is_at (cmp k)) before) keys || has_repeats cmp keys)
  again_is before [] = refl
  again_is before (k ∷ keys) =
      ap (λ b. list_any (is_at (cmp k)) before || b) (again_is (k ∷ before) keys)
      ∙ ap (λ b. list_any (is_at (cmp k)) before || (b || has_repeats cmp keys)) (any_or (λ x. is_at (cmp x) k) (λ x. list_any (is_at (cmp x)) before) keys)
      ∙ ap (λ (test : K → Bool). list_any (is_at (cmp k)) before || ((list_any test keys || list_any (λ x. list_any (is_at (cmp x)) before) keys) || has_repeats cmp keys)) (λ i x. (eq_by_cmp_equiv o).symm x k i)
      ∙ again_by (list_any (is_at (cmp k)) before) (list_any (is_at (cmp k)) keys) (list_any (λ x. list_any (is_at (cmp x)) before) keys) (has_repeats cmp keys)

  pub seen_first : (all : List K) → SeenSoFar cmp all 0 []
  seen_first all = record { before = []; same = λ q. refl; rest = again_is [] all ∙ ap (λ b. b || has_repeats cmp all) (none_before all) }

  pub seen_again : (all : List K) (i : ℕ) (k : K) (seen : List K) → i < length all → k ≡ get_or all i k → SeenSoFar cmp all i seen → false ≡ not (list_any (is_at (cmp k)) seen) → true ≡ has_repeats cmp all
  seen_again all i k seen lt is so found =
      let before : list_any (is_at (cmp k)) so.before ≡ true = sym (so.same k) ∙ not_false _ found in
      let here : stands_again cmp so.before (drop i all) ≡ true = rw (next all i k lt is) (rw before refl) in
      sym here ∙ so.rest

  pub seen_next : (all : List K) (i : ℕ) (k : K) (seen seen2 : List K) → i < length all → k ≡ get_or all i k → SeenSoFar cmp all i seen → true ≡ not (list_any (is_at (cmp k)) seen)
      → ((test : K → Bool) → list_any test seen2 ≡ (test k || list_any test seen)) → SeenSoFar cmp all (i + 1) seen2
  seen_next all i k seen seen2 lt is so new added =
      let none : list_any (is_at (cmp k)) so.before ≡ false = sym (so.same k) ∙ not_true _ new in
      let here : stands_again cmp so.before (drop i all) ≡ stands_again cmp (k ∷ so.before) (drop (i + 1) all) = rw (next all i k lt is) (rw none refl) in
      record {
        before = k ∷ so.before;
        same = λ q. added (is_at (cmp q)) ∙ ap (λ b. is_at (cmp q) k || b) (so.same q);
        rest = sym here ∙ so.rest;
      }

  pub seen_all : (all : List K) (i : ℕ) (seen : List K) → i ≤ length all → length all ≤ i → SeenSoFar cmp all i seen → false ≡ has_repeats cmp all
  seen_all all i seen most least so =
      let here : stands_again cmp so.before (drop i all) ≡ false = rw (drop_end all i most least) refl in
      sym here ∙ so.rest

  -- ---- keys among others

  or_false : (b : Bool) → (b || false) ≡ b
  or_false true = refl
  or_false false = refl

  pub held_first : (all : List K) → HeldSoFar cmp all 0 []
  held_first all = record { rest = λ q. or_false (list_any (is_at (cmp q)) all) }

  pub held_all : (all : List K) (i : ℕ) (seen : List K) → i ≤ length all → length all ≤ i → HeldSoFar cmp all i seen → (q : K) → list_any (is_at (cmp q)) seen ≡ list_any (is_at (cmp q)) all
  held_all all i seen most least so q = sym (ap (λ (l : List K). list_any (is_at (cmp q)) l || list_any (is_at (cmp q)) seen) (drop_end all i most least)) ∙ so.rest q

  both_not : (a b : Bool) → (a && not b) ≡ not (not a || b)
  both_not true b = refl
  both_not false b = refl

  -- all of these keys stand in a set that holds the others
  pub all_held : (keys seen others : List K) → ((q : K) → list_any (is_at (cmp q)) seen ≡ list_any (is_at (cmp q)) others)
      → list_all (λ k. list_any (is_at (cmp k)) seen) keys ≡ not (list_any (λ k. not (list_any (λ other. is_at (cmp other) k) others)) keys)
  all_held [] seen others h = refl
  all_held (k ∷ keys) seen others h =
      let here : list_any (is_at (cmp k)) seen ≡ list_any (λ other. is_at (cmp other) k) others = h k ∙ ap (λ (test : K → Bool). list_any test others) (λ i x. (eq_by_cmp_equiv o).symm k x i) in
      ap (λ b. b && list_all (λ x. list_any (is_at (cmp x)) seen) keys) here
      ∙ ap (λ b. list_any (λ other. is_at (cmp other) k) others && b) (all_held keys seen others h)
      ∙ both_not (list_any (λ other. is_at (cmp other) k) others) (list_any (λ x. not (list_any (λ other. is_at (cmp other) x) others)) keys)
