use Rattle.std.proofs.Common.{◌≡◌, ◌≤◌, List, ℕ, Option, length}
use Rattle.run_app.{specs.Taking.IsFed, proofs.TakingLemmas.IsFedTo}
use Rattle.run_app.proofs.taking.feed_lines.Given as goal

abbrev pub invariant-loop-end : goal.invariant-loop-end
invariant-loop-end g l = record {
  fed : (x : g.row.T.Denot × Option (List ℕ)) (t : List ℕ)
      → IsFed (g.T.TakesLines.takes l.form) x t l.initial.reading.number l.initial.reading.line.items (l.initial.taker, g.K.Sink.written l.initial.sink)
      → IsFedTo (g.T.TakesLines.takes l.form) x t l.piece l.rest l.reading.number l.reading.line.items (l.taker, g.K.Sink.written l.sink);
  later : g.K.Sink.faults l.initial.sink ≤ g.K.Sink.faults l.sink;
  quiet : g.K.Sink.faults l.sink ≡ g.K.Sink.faults l.initial.sink;
}

abbrev pub decreases-loop-end : goal.decreases-loop-end
decreases-loop-end g l = length l.rest
