use Rattle.std.proofs.Common.{◌≡◌, ◌++◌, take, flat_map}
use Rattle.store_rows.specs.Fields.{four_bytes, missed_from}
use Rattle.store_rows.proofs.missed.push_missed_from.Given as goal

abbrev pub invariant-loop-place : goal.invariant-loop-place
invariant-loop-place l = l.out.items ≡ l.fn.out.items ++ flat_map four_bytes (missed_from l.first (take l.place l.places))
