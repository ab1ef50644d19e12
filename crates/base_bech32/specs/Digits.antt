-- Numbers written with a fixed count of digits.
use Rattle.std.specs.Prelude.{ℕ, zero, suc, ◌/◌, ◌%◌, ◌<◌, List, [], ◌∷◌, ◌++◌, length, slice_index}
use Rattle.std.specs.Int.Digits.{number_from_digits}

-- so many digits of a number in a base, the highest first
unfoldable pub digits : ℕ → ℕ → ℕ → List ℕ
digits base zero number = []
digits base (suc places) number = digits base places (number / base) ++ number % base ∷ []

-- the number that digits in a base spell, the highest first
abbrev pub number_of : ℕ → List ℕ → ℕ
number_of base ds = number_from_digits base ds

-- every element is a digit of the base
abbrev pub AreDigits : ℕ → List ℕ → Type 0
AreDigits base ds = (i : ℕ) → i < length ds → slice_index ds i < base
