use Rattle.std.proofs.Common.{◌≡◌, ◌≤◌, ◌-◌, ℕ, List, length}
use Rattle.run_app.specs.{Ballots.AreTaken, Outcome.most_bytes, Told.Told}
use Rattle.run_app.proofs.balloting.read_ballots.Given as goal

abbrev pub decreases-loop-taken : goal.decreases-loop-taken
decreases-loop-taken g l = most_bytes - l.taken

abbrev pub invariant-loop-taken : goal.invariant-loop-taken
invariant-loop-taken g l = record {
  room : length l.piece ≡ 4096;
  most : l.taken ≤ most_bytes;
  at : (t : List ℕ) × (length t ≡ l.taken)
      × AreTaken l.form t l.balloting.number l.balloting.line.items l.balloting.ballots
      × Told (g.S.Source.left l.initial.source) t (g.S.Source.left l.source);
  later : g.S.Source.faults l.initial.source ≤ g.S.Source.faults l.source;
  quiet : g.S.Source.faults l.source ≡ g.S.Source.faults l.initial.source;
}
