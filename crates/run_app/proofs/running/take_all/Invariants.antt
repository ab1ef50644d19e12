use Rattle.std.proofs.Common.{◌≤◌, ◌+◌, ◌-◌, ◌≡◌, ℕ, List, length}
use Rattle.run_app.specs.{Kept.{Began, Keeping}, Machine.Standing, Outcome.most_bytes, Parts.Fed, Told.Told}
use Rattle.run_app.proofs.running.take_all.Given as goal

abbrev pub decreases-loop-taken : goal.decreases-loop-taken
decreases-loop-taken g l = most_bytes - l.taken

abbrev pub invariant-loop-taken : goal.invariant-loop-taken
invariant-loop-taken g l = record {
  room : length l.piece ≡ 4096;
  most : l.taken ≤ most_bytes;
  number : l.progress.number ≤ 1 + l.taken;
  at : (b : Began) → Keeping b l.initial.progress.chain (g.D.Keeper.rows l.initial.keeper) (g.D.Keeper.is_honest l.initial.keeper) (g.D.Keeper.may_leave l.initial.keeper) b.first b.first
      → (taken : List ℕ) × (end : Standing) × (l.taken ≡ length taken) × Told (g.S.Source.left l.initial.source) taken (g.S.Source.left l.source)
      × Fed l.form l.every b taken end l.progress.number l.progress.line.items l.progress.chain l.progress.waiting l.progress.held.items (g.K.Sink.written l.initial.sink) (g.K.Sink.written l.sink) (g.D.Keeper.rows l.keeper) (g.D.Keeper.is_honest l.keeper) (g.D.Keeper.may_leave l.keeper);
  honest : g.D.Keeper.is_honest l.keeper → g.D.Keeper.is_honest l.initial.keeper;
  read_quiet : g.S.Source.faults l.source ≡ g.S.Source.faults l.initial.source;
  write_quiet : g.K.Sink.faults l.sink ≡ g.K.Sink.faults l.initial.sink;
  keep_quiet : g.D.Keeper.faults l.keeper ≡ g.D.Keeper.faults l.initial.keeper;
}
