-- What is told of the bytes that a run takes: of a source that tells none, nothing.
use Rattle.std.specs.Prelude.{◌≡◌, ℕ, List, ◌++◌, Option, Some}

-- these bytes were taken of those that were left, and some may be left now
abbrev pub Told : Option (List ℕ) → List ℕ → Option (List ℕ) → Type 0
Told left taken left' =
    (input : List ℕ) → left ≡ Some input
    → (rest : List ℕ) × (input ≡ taken ++ rest) × (left' ≡ Some rest)

-- these bytes were taken of those that were left, and those are left now
abbrev pub TakesFrom : Option (List ℕ) → Option (List ℕ) → List ℕ → List ℕ → Type 0
TakesFrom left left' taken rest =
    (input : List ℕ) → left ≡ Some input → (input ≡ taken ++ rest) × (left' ≡ Some rest)

-- these are the bytes that were left
abbrev pub IsToldAs : Option (List ℕ) → List ℕ → Type 0
IsToldAs left input = (told : List ℕ) → left ≡ Some told → told ≡ input
