-- The formats of rows, and the number of each, which stands in front of the last height.
use Rattle.std.specs.Prelude.{ℕ}
use Rattle.store_rows.specs.declared.format.Format.{Format}
use Rattle.store_rows.specs.declared.format.Format.TheVariants.{First, Second}

abbrev pub number_of : Format → ℕ
number_of First = 1
number_of Second = 2

-- the format in which rows are written
abbrev pub written : Format
written = Second
