use Rattle.std.proofs.Common.{length}
use Rattle.test_outside.proofs.old.+is_below.Given as goal

abbrev pub decreases-is_below : goal.decreases-is_below
decreases-is_below l = length l.rows.now
