use Rattle.std.proofs.Common.{◌≡◌, length, take}
use Rattle.store_rows.specs.Fields.{missed_of}
use Rattle.store_rows.proofs.missed.missed_count.Given as goal

abbrev pub invariant-loop-missed : goal.invariant-loop-missed
invariant-loop-missed l = l.count ≡ length (missed_of (take l.missed-index l.places))
