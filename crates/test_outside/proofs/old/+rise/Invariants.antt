use Rattle.std.proofs.Common.{length}
use Rattle.test_outside.proofs.old.+rise.Given as goal

abbrev pub decreases-rise : goal.decreases-rise
decreases-rise l = length l.rows.now
