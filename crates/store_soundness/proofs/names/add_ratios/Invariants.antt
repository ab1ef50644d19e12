use Rattle.std.proofs.Common.{◌≡◌}
use Rattle.store_soundness.specs.Ranges.{with_ratios}
use Rattle.store_soundness.proofs.names.add_ratios.Given as goal

abbrev pub invariant-loop-history : goal.invariant-loop-history
invariant-loop-history l = with_ratios l.names.keys l.history-iterator ≡ with_ratios l.fn.names.keys l.histories.entries
