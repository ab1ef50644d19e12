-- What tests decide: of numbers, and of each entry of a list.
use Rattle.std.proofs.Common.{◌≡◌, ◌∙◌, ℕ, ◌≤◌, ◌<◌, Bool, true, false, cond, List, [], ◌∷◌, Option, Some, None, refl, sym, ap, arith, ◌==◌, ◌&&◌, nat_le, nat_lt, is_some, All, Decides, is_eq, Ordering}
use Rattle.std.specs.{List.list_all, BTreeMap.is_at, Cmp.{IsTotalOrder, eq_by_cmp_equiv, tied_itself}}
use Rattle.std.specs.Map.{keys_of, lookup}
use Rattle.std.proofs.lemmas.Bool.Decides.{nat_tests, Decides-and, Decides-by_and, Decides-eqb}
use Rattle.base_roles.specs.{Entries.at, Ranges.is_within}
use Rattle.store_soundness.{specs.Standing.{has_keys_of, have_same_keys}, proofs.TallyLemmas.lookup_alike}

pub at_most : (n most : ℕ) → Decides (nat_le n most) (n ≤ most)
at_most n most = (λ e. grind (arith, nat_tests), λ e. grind (arith, nat_tests))

pub below : (n most : ℕ) → Decides (nat_lt n most) (n < most)
below n most = (λ e. grind (arith, nat_tests), λ e. grind (arith, nat_tests))

pub within : (least most n : ℕ) → Decides (is_within least most n) ((least ≤ n) × (n ≤ most))
within least most n = Decides-and (nat_le least n) (nat_le n most) (at_most least n) (at_most n most)

-- a test of each element decides what holds of all
pub all_decides : {X : Type 0} (p : X → Bool) (P : X → Type 0) → ((x : X) → Decides (p x) (P x)) → (xs : List X) → Decides (list_all p xs) (All P xs)
all_decides p P each xs = Decides-by_and p P (list_all p) each refl (λ x ys. refl) xs

-- ---- keys

module _ {K : Type 0} (cmp : K → K → Ordering) (o : IsTotalOrder cmp) where
  if_some : {X : Type 0} (b : Bool) (x : X) (r : Option X) → is_some r ≡ true → is_some (cond b (Some x) r) ≡ true
  if_some true x r h = refl
  if_some false x r h = h

  -- where each key of the first list stands in the second, what is found in the first is found in the second
  pub found_too : {X Y : Type 0} (xs : List (K × X)) (ys : List (K × Y)) → has_keys_of cmp xs ys ≡ true → (q : K) → is_some (at cmp xs q) ≡ true → is_some (at cmp ys q) ≡ true
  found_too [] ys t q h = absurd cc
  found_too (e ∷ es) ys t q h = by (λ rest k. found_too es ys rest q k) (is_at (cmp q) e.0) refl h
    where
      first : (a b : Bool) → (a && b) ≡ true → a ≡ true
      first true b k = refl
      first false b k = k

      second : (a b : Bool) → (a && b) ≡ true → b ≡ true
      second true b k = k
      second false b k = absurd cc

      by : (has_keys_of cmp es ys ≡ true → is_some (at cmp es q) ≡ true → is_some (at cmp ys q) ≡ true) → (b : Bool) → is_at (cmp q) e.0 ≡ b → is_some (cond b (Some e.1) (at cmp es q)) ≡ true → is_some (at cmp ys q) ≡ true
      by later true same k = sym (ap is_some (lookup_alike cmp o ys e.0 q same)) ∙ first (is_some (at cmp ys e.0)) (has_keys_of cmp es ys) t
      by later false other k = later (second (is_some (at cmp ys e.0)) (has_keys_of cmp es ys) t) k

  -- and the other way
  pub keys_stand : {X Y : Type 0} (xs : List (K × X)) (ys : List (K × Y)) → ((q : K) → is_some (at cmp xs q) ≡ true → is_some (at cmp ys q) ≡ true) → has_keys_of cmp xs ys ≡ true
  keys_stand [] ys h = refl
  keys_stand (e ∷ es) ys h =
      ap (λ b. b && has_keys_of cmp es ys) (h e.0 (ap (λ b. is_some (cond b (Some e.1) (at cmp es e.0))) (ap is_eq (tied_itself o e.0))))
      ∙ keys_stand es ys (λ q k. h q (if_some (is_at (cmp q) e.0) e.1 (at cmp es q) k))

  -- the test of two lists tells that the same keys are found in both
  pub same_keys : {X Y : Type 0} (xs : List (K × X)) (ys : List (K × Y)) → Decides (have_same_keys cmp xs ys) ((q : K) → is_some (at cmp ys q) ≡ is_some (at cmp xs q))
  same_keys xs ys = (
    λ t. λ q. alike (is_some (at cmp xs q)) (is_some (at cmp ys q)) (found_too xs ys (first (has_keys_of cmp xs ys) (has_keys_of cmp ys xs) t) q) (found_too ys xs (second (has_keys_of cmp xs ys) (has_keys_of cmp ys xs) t) q),
    λ h. ap (λ b. b && has_keys_of cmp ys xs) (keys_stand xs ys (λ q k. h q ∙ k)) ∙ keys_stand ys xs (λ q k. sym (h q) ∙ k),
  )
    where
      first : (a b : Bool) → (a && b) ≡ true → a ≡ true
      first true b k = refl
      first false b k = k

      second : (a b : Bool) → (a && b) ≡ true → b ≡ true
      second true b k = k
      second false b k = absurd cc

      alike : (a b : Bool) → (a ≡ true → b ≡ true) → (b ≡ true → a ≡ true) → b ≡ a
      alike true b f g = f refl
      alike false true f g = sym (g refl)
      alike false false f g = refl
