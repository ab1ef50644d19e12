use Rattle.std.proofs.Common.{◌≡◌}
use Rattle.store_soundness.specs.Histories.{start_totals}
use Rattle.store_soundness.proofs.histories.add_starts.Given as goal

abbrev pub invariant-loop-who : goal.invariant-loop-who
invariant-loop-who l = start_totals l.who-iterator l.counts.entries ≡ start_totals l.starts.entries l.fn.counts.entries
