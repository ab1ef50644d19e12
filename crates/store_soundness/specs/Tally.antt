-- Sums and numbers by key, each up to 10^38, as they grow entry by entry.
use Rattle.std.specs.Prelude.{◌≡◌, ℕ, ◌+◌, ◌^◌, min, List, [], ◌∷◌}
use Rattle.std.specs.declared.cmp.Ordering.{Ordering}
use Rattle.base_roles.specs.Entries.{number_at, with}

-- a total with more, up to 10^38
abbrev pub up_to_most : ℕ → ℕ → ℕ
up_to_most total more = min (10 ^ 38) (total + more)

-- a total with the amounts of entries, one after another
abbrev pub summed : {E : Type 0} → (E → ℕ) → List E → ℕ → ℕ
summed amount [] total = total
summed amount (e ∷ es) total = summed amount es (up_to_most total (amount e))

module _ {K : Type 0} (cmp : K → K → Ordering) where
  -- the numbers with more at a key
  abbrev pub raised : List (K × ℕ) → K → ℕ → List (K × ℕ)
  raised tally key amount = with cmp tally key (up_to_most (number_at cmp tally key) amount)

  -- the numbers with those of entries, one after another
  abbrev pub tallied : {E : Type 0} → (E → K) → (E → ℕ) → List E → List (K × ℕ) → List (K × ℕ)
  tallied key amount [] tally = tally
  tallied key amount (e ∷ es) tally = tallied key amount es (raised tally (key e) (amount e))

  -- the numbers are those of a function, up to 10^38
  abbrev pub AreNumbers : List (K × ℕ) → (K → ℕ) → Type 0
  AreNumbers tally f = (q : K) → number_at cmp tally q ≡ min (10 ^ 38) (f q)
