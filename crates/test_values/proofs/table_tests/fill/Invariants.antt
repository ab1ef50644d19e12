use Rattle.std.proofs.Common.{◌≡◌}
use Rattle.test_values.proofs.table_tests.fill.Given as goal

abbrev pub invariant-loop-key : goal.invariant-loop-key
invariant-loop-key g l = l.table.marks ≡ l.fn.table.marks
