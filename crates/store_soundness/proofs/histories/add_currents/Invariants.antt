use Rattle.std.proofs.Common.{◌≡◌}
use Rattle.store_soundness.specs.Histories.{current_totals}
use Rattle.store_soundness.proofs.histories.add_currents.Given as goal

abbrev pub invariant-loop-operator : goal.invariant-loop-operator
invariant-loop-operator l = current_totals l.operator-iterator l.counts.entries ≡ current_totals l.currents.entries l.fn.counts.entries
