-- What holds of all entries, as one is put or taken; and of the items that a test or a count finds.
use Rattle.std.proofs.Common.{◌≡◌, ℕ, ◌+◌, ◌<◌, ◌==◌, Bool, true, false, cond, List, [], ◌∷◌, ◌++◌, Some, refl, subst, arith, All, Contains, filter, map, Ordering, Less, Equal, Greater}
use Rattle.std.specs.{BTreeMap.{insert_entry, is_at}, List.AllByRecursion, Map.{lookup, remove_entry, keys_of}}
use Rattle.std.{specs.{Ordering.match_ordering, List.Sorted.IsStrictlySortedBy}, proofs.lemmas.Bool.Decides.nat_tests}
use Rattle.std.proofs.lemmas.List.Elements.{All-weaker, All-contains, All-contains_itself, Contains-append_left, Contains-append_right}
use Rattle.rule_modules.specs.Amounts.{count_where}

pub all_left : {X : Type 0} (P : X → Type 0) (xs ys : List X) → All P (xs ++ ys) → All P xs
all_left P xs ys h = All-weaker (Contains xs) P (λ x c. All-contains P (xs ++ ys) x h (Contains-append_left xs ys x c)) xs (All-contains_itself xs)

pub all_right : {X : Type 0} (P : X → Type 0) (xs ys : List X) → All P (xs ++ ys) → All P ys
all_right P xs ys h = All-weaker (Contains ys) P (λ x c. All-contains P (xs ++ ys) x h (Contains-append_right xs ys x c)) ys (All-contains_itself ys)

pub weaker : {X : Type 0} (P Q : X → Type 0) → ((x : X) → P x → Q x) → (xs : List X) → AllByRecursion P xs → AllByRecursion Q xs
weaker P Q f [] h = tt
weaker P Q f (x ∷ xs) h = (f x h.0, weaker P Q f xs h.1)

pub both_all : {X : Type 0} (P Q : X → Type 0) (xs : List X) → AllByRecursion P xs → AllByRecursion Q xs → AllByRecursion (λ x. P x × Q x) xs
both_all P Q [] h k = tt
both_all P Q (x ∷ xs) h k = ((h.0, k.0), both_all P Q xs h.1 k.1)

pub joined_all : {X : Type 0} (P : X → Type 0) (xs ys : List X) → AllByRecursion P xs → AllByRecursion P ys → AllByRecursion P (xs ++ ys)
joined_all P [] ys h k = k
joined_all P (x ∷ xs) ys h k = (h.0, joined_all P xs ys h.1 k)

pub mapped_all : {X Y : Type 0} (P : Y → Type 0) (f : X → Y) (xs : List X) → AllByRecursion (λ x. P (f x)) xs → AllByRecursion P (map f xs)
mapped_all P f [] h = tt
mapped_all P f (x ∷ xs) h = (h.0, mapped_all P f xs h.1)

pub from_mapped : {X Y : Type 0} (P : Y → Type 0) (f : X → Y) (xs : List X) → AllByRecursion P (map f xs) → AllByRecursion (λ x. P (f x)) xs
from_mapped P f [] h = tt
from_mapped P f (x ∷ xs) h = (h.0, from_mapped P f xs h.1)

pub from_filtered : {X : Type 0} (test : X → Bool) (P : X → Type 0) (xs : List X) → AllByRecursion P (filter test xs) → AllByRecursion (λ x. test x ≡ true → P x) xs
from_filtered test P [] h = tt
from_filtered test P (x ∷ xs) h = by (test x) refl h (λ k. from_filtered test P xs k)
  where
    by : (b : Bool) → test x ≡ b → AllByRecursion P (cond b (x ∷ filter test xs) (filter test xs)) → (AllByRecursion P (filter test xs) → AllByRecursion (λ y. test y ≡ true → P y) xs) → AllByRecursion (λ y. test y ≡ true → P y) (x ∷ xs)
    by true e k rest = (λ t. k.0, rest k.1)
    by false e k rest = (λ t. absurd cc, rest k)

-- ---- counts

-- where some are counted, and those that pass the test imply it, it holds
pub found_by : {X : Type 0} (Q : Type 0) (test : X → Bool) (xs : List X) → 0 < count_where test xs → AllByRecursion (λ x. test x ≡ true → Q) xs → Q
found_by Q test [] p h = absurd (omega (arith, p))
found_by Q test (x ∷ xs) p h = by (test x) refl p (λ q. found_by Q test xs q h.1)
  where
    by : (b : Bool) → test x ≡ b → 0 < cond b 1 0 + count_where test xs → (0 < count_where test xs → Q) → Q
    by true e q rest = h.0 e
    by false e q rest = rest (omega (arith, q))

-- each item counts among those of its own number
pub counts_itself : {X : Type 0} (f : X → ℕ) (xs : List X) → AllByRecursion (λ x. 0 < count_where (λ y. f y == f x) xs) xs
counts_itself f [] = tt
counts_itself f (x ∷ xs) = (first (f x == f x) (itself (f x)), weaker (λ y. 0 < count_where (λ z. f z == f y) xs) (λ y. 0 < count_where (λ z. f z == f y) (x ∷ xs)) (λ y h. omega (arith, h)) xs (counts_itself f xs))
  where
    itself : (n : ℕ) → (n == n) ≡ true
    itself n = grind (arith, nat_tests)

    first : (b : Bool) → b ≡ true → 0 < cond b 1 0 + count_where (λ y. f y == f x) xs
    first true e = omega arith
    first false e = absurd cc

-- ---- entries

module _ {K X : Type 0} (P : K × X → Type 0) where
  pub all_taken : (passes : K → Bool) (es : List (K × X)) → AllByRecursion P es → AllByRecursion P (remove_entry passes es)
  all_taken passes [] h = tt
  all_taken passes (e ∷ es) h = by (passes e.0) (all_taken passes es h.1)
    where
      by : (b : Bool) → AllByRecursion P (remove_entry passes es) → AllByRecursion P (cond b es (e ∷ remove_entry passes es))
      by true rest = h.1
      by false rest = (h.0, rest)

  pub all_put : (cmp : K → K → Ordering) → ((a b : K) → cmp a b ≡ Equal → a ≡ b) → (k : K) (x : X) (es : List (K × X)) → P (k, x) → AllByRecursion P es → AllByRecursion P (insert_entry cmp es k x)
  all_put cmp exact k x [] p h = (p, tt)
  all_put cmp exact k x (e ∷ es) p h = by (cmp k e.0) refl (all_put cmp exact k x es p h.1)
    where
      by : (r : Ordering) → cmp k e.0 ≡ r → AllByRecursion P (insert_entry cmp es k x) → AllByRecursion P (match_ordering r ((k, x) ∷ e ∷ es) ((e.0, x) ∷ es) (e ∷ insert_entry cmp es k x))
      by Less q rest = (p, h)
      by Equal q rest = (subst (λ o. P (o, x)) (exact k e.0 q) p, h.1)
      by Greater q rest = (h.0, rest)

  pub looked_up : (passes : K → Bool) (Q : X → Type 0) → ((k : K) (y : X) → passes k ≡ true → P (k, y) → Q y) → (es : List (K × X)) (x : X) → lookup passes es ≡ Some x → AllByRecursion P es → Q x
  looked_up passes Q f [] x e h = absurd cc
  looked_up passes Q f (d ∷ es) x e h = by (passes d.0) refl e (λ q. looked_up passes Q f es x q h.1)
    where
      by : (b : Bool) → passes d.0 ≡ b → cond b (Some d.1) (lookup passes es) ≡ Some x → (lookup passes es ≡ Some x → Q x) → Q x
      by true p q rest = let same : d.1 ≡ x = cc in subst Q same (f d.0 d.1 p h.0)
      by false p q rest = rest q

-- keys stay in order as an entry is taken
module _ {K X : Type 0} (cmp : K → K → Ordering) where
  below_taken : (x : K) (passes : K → Bool) (es : List (K × X)) → AllByRecursion (λ y. cmp x y ≡ Less) (keys_of es) → AllByRecursion (λ y. cmp x y ≡ Less) (keys_of (remove_entry passes es))
  below_taken x passes [] h = tt
  below_taken x passes (e ∷ es) h = by (passes e.0) (below_taken x passes es h.1)
    where
      by : (b : Bool) → AllByRecursion (λ y. cmp x y ≡ Less) (keys_of (remove_entry passes es)) → AllByRecursion (λ y. cmp x y ≡ Less) (keys_of (cond b es (e ∷ remove_entry passes es)))
      by true rest = h.1
      by false rest = (h.0, rest)

  pub ascend_taken : (k : K) (es : List (K × X)) → IsStrictlySortedBy cmp (keys_of es) → IsStrictlySortedBy cmp (keys_of (remove_entry (is_at (cmp k)) es))
  unfolding IsStrictlySortedBy
  ascend_taken k [] s = s
  ascend_taken k (e ∷ es) s = by (is_at (cmp k) e.0) (ascend_taken k es s.1)
    where
      by : (b : Bool) → IsStrictlySortedBy cmp (keys_of (remove_entry (is_at (cmp k)) es)) → IsStrictlySortedBy cmp (keys_of (cond b es (e ∷ remove_entry (is_at (cmp k)) es)))
      by true rest = s.1
      by false rest = (below_taken e.0 (is_at (cmp k)) es s.0, rest)
