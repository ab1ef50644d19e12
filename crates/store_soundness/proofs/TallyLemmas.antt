-- Sums and numbers by key are those of a function, up to 10^38.
use Rattle.std.proofs.Common.{◌≡◌, ◌∙◌, ℕ, ◌+◌, ◌^◌, ◌≤◌, ◌<◌, Bool, true, false, cond, List, [], ◌∷◌, Option, Some, None, refl, sym, ap, subst, inl, inr, arith, zero-add, add-zero, add_assoc, ◌⊎◌, ◌==◌, ◌&&◌, min, nat_le, nat_lt, unwrap_or, Ordering}
use Rattle.std.proofs.{Math.Nat.{min-eq_left, min-le_left, min_comm}, lemmas.Bool.{cases_lt, Decides.nat_tests}}
use Rattle.std.specs.{BTreeMap.is_at, Cmp.{IsTotalOrder, eq_by_cmp_equiv}, Map.lookup}
use Rattle.base_types.proofs.MapLemmas.{at-put, equal}
use Rattle.base_roles.specs.Entries.{at, number_at}
use Rattle.store_soundness.specs.Tally.{up_to_most, summed, raised, tallied, AreNumbers}

pub min_low : (m x : ℕ) → x ≤ m → min m x ≡ x
min_low m x h = min_comm m x ∙ min-eq_left h

pub min_high : (m x : ℕ) → m ≤ x → min m x ≡ m
min_high m x h = min-eq_left h

-- a bound on a part of a sum that has it again shows only once
pub min_again : (m x r : ℕ) → min m (min m x + r) ≡ min m (x + r)
min_again m x r = by (cases_lt m x)
  where
    by : (m < x) ⊎ (x ≤ m) → min m (min m x + r) ≡ min m (x + r)
    by (inl h) =
        let low : m ≤ x = omega arith in
        let sum : m ≤ m + r = omega arith in
        let more : m ≤ x + r = omega arith in
        ap (λ n. min m (n + r)) (min_high m x low) ∙ min_high m (m + r) sum ∙ sym (min_high m (x + r) more)
    by (inr h) = ap (λ n. min m (n + r)) (min_low m x h)

-- the sum of the amounts of entries
abbrev pub sum_of : {E : Type 0} → (E → ℕ) → List E → ℕ
sum_of amount [] = 0
sum_of amount (e ∷ es) = amount e + sum_of amount es

-- a total with the amounts of entries is their sum with it, up to the most
pub summed_is : {E : Type 0} (amount : E → ℕ) (es : List E) (total : ℕ) → total ≤ 10 ^ 38 → summed amount es total ≡ min (10 ^ 38) (total + sum_of amount es)
summed_is amount [] total low = sym (min_low (10 ^ 38) total low) ∙ ap (min (10 ^ 38)) (sym (add-zero total))
summed_is amount (e ∷ es) total low =
    summed_is amount es (up_to_most total (amount e)) (min-le_left (10 ^ 38) (total + amount e))
    ∙ min_again (10 ^ 38) (total + amount e) (sum_of amount es)
    ∙ ap (min (10 ^ 38)) (add_assoc total (amount e) (sum_of amount es))

module _ {K : Type 0} (cmp : K → K → Ordering) (o : IsTotalOrder cmp) where
  -- no number is above the most
  abbrev pub IsLow : List (K × ℕ) → Type 0
  IsLow tally = (q : K) → number_at cmp tally q ≤ 10 ^ 38

  -- the amounts of the entries at a key
  abbrev pub sum_at : {E : Type 0} → (E → K) → (E → ℕ) → List E → K → ℕ
  sum_at key amount [] q = 0
  sum_at key amount (e ∷ es) q = cond (is_at (cmp q) (key e)) (amount e) 0 + sum_at key amount es q

  some_or : (b : Bool) (n : ℕ) (x : Option ℕ) → unwrap_or (cond b (Some n) x) 0 ≡ cond b n (unwrap_or x 0)
  some_or true n x = refl
  some_or false n x = refl

  pub lookup_alike : {X : Type 0} (es : List (K × X)) (k q : K) → is_at (cmp q) k ≡ true → lookup (is_at (cmp k)) es ≡ lookup (is_at (cmp q)) es
  lookup_alike [] k q h = refl
  lookup_alike (e ∷ es) k q h =
      let same : is_at (cmp k) e.0 ≡ is_at (cmp q) e.0 = sym ((eq_by_cmp_equiv o).congr q k e.0 h) in
      ap (λ b. cond b (Some e.1) (lookup (is_at (cmp k)) es)) same ∙ ap (λ r. cond (is_at (cmp q) e.0) (Some e.1) r) (lookup_alike es k q h)

  pub raised_at : (tally : List (K × ℕ)) (k q : K) (n : ℕ) → IsLow tally → number_at cmp (raised cmp tally k n) q ≡ min (10 ^ 38) (number_at cmp tally q + cond (is_at (cmp q) k) n 0)
  raised_at tally k q n low =
      ap (λ r. unwrap_or r 0) (at-put cmp o tally k q (up_to_most (number_at cmp tally k) n))
      ∙ some_or (is_at (cmp q) k) (up_to_most (number_at cmp tally k) n) (at cmp tally q)
      ∙ by (is_at (cmp q) k) refl
    where
      by : (b : Bool) → is_at (cmp q) k ≡ b → cond b (up_to_most (number_at cmp tally k) n) (number_at cmp tally q) ≡ min (10 ^ 38) (number_at cmp tally q + cond b n 0)
      by true h = ap (λ r. min (10 ^ 38) (unwrap_or r 0 + n)) (lookup_alike tally k q h)
      by false h = sym (min_low (10 ^ 38) (number_at cmp tally q) (low q)) ∙ ap (min (10 ^ 38)) (sym (add-zero (number_at cmp tally q)))

  low_raised : (tally : List (K × ℕ)) (k : K) (n : ℕ) → IsLow tally → IsLow (raised cmp tally k n)
  low_raised tally k n low q = subst (λ m. m ≤ 10 ^ 38) (sym (raised_at tally k q n low)) (min-le_left (10 ^ 38) (number_at cmp tally q + cond (is_at (cmp q) k) n 0))

  pub tallied_at : {E : Type 0} (key : E → K) (amount : E → ℕ) (es : List E) (tally : List (K × ℕ)) (q : K) → IsLow tally
      → number_at cmp (tallied cmp key amount es tally) q ≡ min (10 ^ 38) (number_at cmp tally q + sum_at key amount es q)
  tallied_at key amount [] tally q low = sym (min_low (10 ^ 38) (number_at cmp tally q) (low q)) ∙ ap (min (10 ^ 38)) (sym (add-zero (number_at cmp tally q)))
  tallied_at key amount (e ∷ es) tally q low =
      let n = cond (is_at (cmp q) (key e)) (amount e) 0 in
      tallied_at key amount es (raised cmp tally (key e) (amount e)) q (low_raised tally (key e) (amount e) low)
      ∙ ap (λ m. min (10 ^ 38) (m + sum_at key amount es q)) (raised_at tally (key e) q (amount e) low)
      ∙ min_again (10 ^ 38) (number_at cmp tally q + n) (sum_at key amount es q)
      ∙ ap (min (10 ^ 38)) (add_assoc (number_at cmp tally q) n (sum_at key amount es q))

  pub low_tallied : {E : Type 0} (key : E → K) (amount : E → ℕ) (es : List E) (tally : List (K × ℕ)) → IsLow tally → IsLow (tallied cmp key amount es tally)
  low_tallied key amount [] tally low = low
  low_tallied key amount (e ∷ es) tally low = low_tallied key amount es (raised cmp tally (key e) (amount e)) (low_raised tally (key e) (amount e) low)

  pub low_none : IsLow []
  low_none q = omega arith

  -- what was tallied from nothing
  pub numbers_of : {E : Type 0} (key : E → K) (amount : E → ℕ) (es : List E) → AreNumbers cmp (tallied cmp key amount es []) (sum_at key amount es)
  numbers_of key amount es q = tallied_at key amount es [] q low_none ∙ ap (min (10 ^ 38)) (zero-add (sum_at key amount es q))

-- ---- tests of a number that is bounded

-- a number below the most is just the bounded one where it is just the whole one
pub equal_below : (n x : ℕ) → n < 10 ^ 38 → (min (10 ^ 38) x == n) ≡ (x == n)
equal_below n x h = by (cases_lt (10 ^ 38) x)
  where
    by : (10 ^ 38 < x) ⊎ (x ≤ 10 ^ 38) → (min (10 ^ 38) x == n) ≡ (x == n)
    by (inl above) = let high : 10 ^ 38 ≤ x = omega arith in ap (λ m. m == n) (min_high (10 ^ 38) x high) ∙ grind (arith, nat_tests)
    by (inr low) = ap (λ m. m == n) (min_low (10 ^ 38) x low)

pub within_below : (x : ℕ) → nat_le (min (10 ^ 38) x) (10 ^ 18) ≡ nat_le x (10 ^ 18)
within_below x = by (cases_lt (10 ^ 38) x)
  where
    by : (10 ^ 38 < x) ⊎ (x ≤ 10 ^ 38) → nat_le (min (10 ^ 38) x) (10 ^ 18) ≡ nat_le x (10 ^ 18)
    by (inl above) = let high : 10 ^ 38 ≤ x = omega arith in ap (λ m. nat_le m (10 ^ 18)) (min_high (10 ^ 38) x high) ∙ grind (arith, nat_tests)
    by (inr low) = ap (λ m. nat_le m (10 ^ 18)) (min_low (10 ^ 38) x low)
