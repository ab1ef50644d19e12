use Rattle.std.proofs.Common.{◌≡◌, Some}
use Rattle.store_records.specs.Gathering.{gathered, gathered_seen, some_if}
use Rattle.store_records.proofs.gathering.take_all.Given as goal

abbrev pub invariant-loop-item : goal.invariant-loop-item
invariant-loop-item l = gathered l.yielded (Some (gathered_seen l.fn.gathering)) ≡ some_if l.fits (gathered_seen l.gathering)
