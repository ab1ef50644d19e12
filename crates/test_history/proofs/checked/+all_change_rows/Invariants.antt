use Rattle.std.proofs.Common.{length}
use Rattle.test_history.proofs.checked.+all_change_rows.Given as goal

abbrev pub decreases-all_change_rows : goal.decreases-all_change_rows
decreases-all_change_rows l = length l.changes.now
