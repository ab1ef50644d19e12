use Rattle.std.proofs.Common.{◌≡◌, length, map}
use Rattle.base_io.specs.Changes.{pair_of}
use Rattle.store_rows.specs.Told.{format_told}
use Rattle.store_rows.proofs.told.format_of.Given as goal

abbrev pub invariant-rows : goal.invariant-rows
invariant-rows l = format_told (map pair_of l.left) ≡ format_told (map pair_of l.rows)

abbrev pub decreases-rows : goal.decreases-rows
decreases-rows l = length l.left
