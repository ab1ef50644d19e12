-- Fractions of whole numbers, which are exact. The program forms none.
use Rattle.std.specs.Prelude.{ℕ, ◌*◌, ◌^◌, ◌≤◌, ◌<◌}

-- a fraction; its denominator is above 0
pub record Fraction : Type 0 where
  pub numerator : ℕ
  pub denominator : ℕ

-- the fraction of a decimal's raw number
abbrev pub fraction_of : ℕ → Fraction
fraction_of raw = record { numerator = raw; denominator = 10 ^ 18 }

abbrev pub IsAtMost : Fraction → Fraction → Type 0
IsAtMost p q = p.numerator * q.denominator ≤ q.numerator * p.denominator

abbrev pub IsBelow : Fraction → Fraction → Type 0
IsBelow p q = p.numerator * q.denominator < q.numerator * p.denominator
