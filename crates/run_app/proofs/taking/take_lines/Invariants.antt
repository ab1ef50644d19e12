use Rattle.std.proofs.Common.{◌≡◌, ◌≤◌, ◌-◌, ℕ, List, length}
use Rattle.run_app.specs.{Outcome.most_bytes, Taking.IsFed, Told.Told}
use Rattle.run_app.proofs.taking.take_lines.Given as goal

abbrev pub decreases-loop-taken : goal.decreases-loop-taken
decreases-loop-taken g l = most_bytes - l.taken

abbrev pub invariant-loop-taken : goal.invariant-loop-taken
invariant-loop-taken g l = record {
  room : length l.piece ≡ 4096;
  most : l.taken ≤ most_bytes;
  at : (t : List ℕ) × (length t ≡ l.taken)
      × IsFed (g.T.TakesLines.takes l.form) (l.initial.taker, g.K.Sink.written l.initial.sink) t l.reading.number l.reading.line.items (l.taker, g.K.Sink.written l.sink)
      × Told (g.S.Source.left l.initial.source) t (g.S.Source.left l.source);
  read_later : g.S.Source.faults l.initial.source ≤ g.S.Source.faults l.source;
  read_quiet : g.S.Source.faults l.source ≡ g.S.Source.faults l.initial.source;
  write_later : g.K.Sink.faults l.initial.sink ≤ g.K.Sink.faults l.sink;
  write_quiet : g.K.Sink.faults l.sink ≡ g.K.Sink.faults l.initial.sink;
}
