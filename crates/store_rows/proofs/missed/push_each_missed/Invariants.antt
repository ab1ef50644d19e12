use Rattle.std.proofs.Common.{◌≡◌, ◌++◌, ◌+◌, length, flat_map}
use Rattle.store_rows.specs.Fields.{four_bytes, missed_from, missed_of}
use Rattle.store_rows.proofs.missed.push_each_missed.Given as goal

abbrev pub invariant-left : goal.invariant-left
invariant-left l = record {
  written : l.out.items ++ flat_map four_bytes (missed_from l.first l.left) ≡ l.fn.out.items ++ flat_map four_bytes (missed_of l.places);
  size : l.first + length l.left ≡ length l.places;
}

abbrev pub decreases-left : goal.decreases-left
decreases-left l = length l.left
