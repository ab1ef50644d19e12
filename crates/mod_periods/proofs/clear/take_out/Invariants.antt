use Rattle.std.proofs.Common.{◌≡◌, length}
use Rattle.mod_periods.specs.Kept.{others}
use Rattle.mod_periods.proofs.clear.take_out.Given as goal

abbrev pub invariant-loop-key : goal.invariant-loop-key
invariant-loop-key g l = record {
  left : others g.K.Keyed.operator_of l.operator l.table.entries ≡ others g.K.Keyed.operator_of l.operator l.fn.table.entries;
  marks : l.table.marks ≡ l.fn.table.marks;
  settled : l.table.settled ≡ l.fn.table.settled;
}

abbrev pub decreases-loop-key : goal.decreases-loop-key
decreases-loop-key g l = length l.table.entries
