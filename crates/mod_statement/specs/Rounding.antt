-- Products and quotients as statements round them: from their exact value, each over where it
-- reaches 10^38 units.
use Rattle.std.specs.Prelude.{ℕ, ◌*◌, Result}
use Rattle.base_decimals.specs.declared.over.Over.{Over}
use Rattle.base_decimals.specs.Rounding.{cut, up}
use Rattle.base_decimals.specs.Decimals.{below, quotient_over}

-- a * b / c, cut
abbrev pub quotient_cut_of : ℕ → ℕ → ℕ → Result ℕ Over
quotient_cut_of a b c = below (quotient_over a b c) (cut (a * b) c)

-- a * b / c, rounded up
abbrev pub quotient_up_of : ℕ → ℕ → ℕ → Result ℕ Over
quotient_up_of a b c = below (quotient_over a b c) (up (a * b) c)

-- a decimal times a whole number
abbrev pub product_of : ℕ → ℕ → Result ℕ Over
product_of a n = quotient_cut_of a n 1
