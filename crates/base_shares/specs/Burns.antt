-- The fraction that a slash records for what it burns of a validator's tokens, as its number of units of 10^-18.
use Rattle.std.specs.Prelude.{ℕ, ◌+◌, ◌*◌, ◌^◌}
use Rattle.base_decimals.specs.Rounding.{up}
use Rattle.base_decimals.specs.Decimals.{digits_36}
use Rattle.base_decimals.specs.Fractions.{Fraction, fraction_of}

-- burn / tokens, both as decimals, rounded upward from its 36 digits
abbrev pub recorded_fraction : ℕ → ℕ → ℕ
recorded_fraction burn tokens = up (digits_36 (burn * 10 ^ 18) (tokens * 10 ^ 18)) (10 ^ 18)

-- n of d, exactly
abbrev pub ratio_of : ℕ → ℕ → Fraction
ratio_of n d = record { numerator = n; denominator = d }

-- the smallest decimal, 10^-18
abbrev pub unit : Fraction
unit = fraction_of 1

-- the sum of two fractions
abbrev pub plus : Fraction → Fraction → Fraction
plus p q = record {
  numerator = p.numerator * q.denominator + q.numerator * p.denominator;
  denominator = p.denominator * q.denominator;
}
