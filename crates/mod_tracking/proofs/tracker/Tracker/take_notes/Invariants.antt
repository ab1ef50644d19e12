use Rattle.std.proofs.Common.{◌≡◌, drop}
use Rattle.mod_tracking.specs.Tracking.{notes_before, notes_behind, notes_taken}
use Rattle.mod_tracking.proofs.tracker.Tracker.take_notes.Given as goal

-- what is taken from here on leads where all does, and leaves what all leaves
abbrev pub invariant-loop-place : goal.invariant-loop-place
invariant-loop-place l = record {
  tracked : notes_taken l.pair (notes_before l.fact (drop l.place l.recorder.noted.notes)) l.self ≡ notes_taken l.pair (notes_before l.fact (drop l.first l.recorder.noted.notes)) l.fn.self;
  rest : notes_behind l.fact (drop l.place l.recorder.noted.notes) ≡ notes_behind l.fact (drop l.first l.recorder.noted.notes);
}
