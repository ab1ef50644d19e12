use Rattle.std.proofs.Common.{◌≡◌, drop}
use Rattle.mod_tracking.specs.Tracking.{notes_taken}
use Rattle.mod_tracking.proofs.tracker.Tracker.take_rest.Given as goal

-- what is taken from here on leads where all does
abbrev pub invariant-loop-place : goal.invariant-loop-place
invariant-loop-place l = notes_taken l.pair (drop l.place l.recorder.noted.notes) l.self ≡ notes_taken l.pair (drop l.first l.recorder.noted.notes) l.fn.self
