use Rattle.std.proofs.Common.{◌≡◌, ◌++◌, length}
use Rattle.store_rows.specs.Fields.{packed, packed_len}
use Rattle.store_rows.proofs.places.push_packed.Given as goal

abbrev pub invariant-packed : goal.invariant-packed
invariant-packed l = l.out.items ++ packed (packed_len (length l.left)) l.left ≡ l.fn.out.items ++ packed (packed_len (length l.places)) l.places

abbrev pub decreases-packed : goal.decreases-packed
decreases-packed l = length l.left
