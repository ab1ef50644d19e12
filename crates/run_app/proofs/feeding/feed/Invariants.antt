use Rattle.std.proofs.Common.{◌≡◌, ◌++◌, List, ℕ, Option, length}
use Rattle.run_app.specs.{Kept.Began, Machine.Standing, Parts.Fed}
use Rattle.run_app.proofs.feeding.feed.Given as goal

-- all of the piece but the rest was taken
abbrev pub invariant-loop-end : goal.invariant-loop-end
invariant-loop-end g l = record {
  at : (done : List ℕ) × (l.piece ≡ done ++ l.rest)
      × ((b : Began) (taken : List ℕ) (end : Standing) (from : Option (List ℕ))
      → Fed l.form l.every b taken end l.initial.progress.number l.initial.progress.line.items l.initial.progress.chain l.initial.progress.waiting l.initial.progress.held.items from (g.K.Sink.written l.initial.sink) (g.D.Keeper.rows l.initial.keeper) (g.D.Keeper.is_honest l.initial.keeper) (g.D.Keeper.may_leave l.initial.keeper)
      → (now : Standing) × Fed l.form l.every b (taken ++ done) now l.progress.number l.progress.line.items l.progress.chain l.progress.waiting l.progress.held.items from (g.K.Sink.written l.sink) (g.D.Keeper.rows l.keeper) (g.D.Keeper.is_honest l.keeper) (g.D.Keeper.may_leave l.keeper));
  write_quiet : g.K.Sink.faults l.sink ≡ g.K.Sink.faults l.initial.sink;
  keep_quiet : g.D.Keeper.faults l.keeper ≡ g.D.Keeper.faults l.initial.keeper;
  honest : g.D.Keeper.is_honest l.keeper → g.D.Keeper.is_honest l.initial.keeper;
}

abbrev pub decreases-loop-end : goal.decreases-loop-end
decreases-loop-end g l = length l.rest
