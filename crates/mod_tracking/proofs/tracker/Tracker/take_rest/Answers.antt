use Rattle.std.proofs.Common.{◌≤◌, ℕ, subst}
use Rattle.mod_tracking.proofs.Following.{rest_ends, rest_goes}
use Rattle.mod_tracking.proofs.tracker.Tracker.take_rest.Goals as goal

pub loop-place-preserved : goal.loop-place-preserved
loop-place-preserved c =
    rest_goes c.args.pair.now c.args.recorder.now.noted.notes c.loop-place.place c.loop-place.self _ c.loop-place.invariant c.note_at-note.result.now _ c.note_at-note.ensures c.in_ok-take_note.ensures.tracked

pub returns-clause-tracked : goal.returns-clause-tracked
returns-clause-tracked c = rest_ends c.args.pair.now c.args.recorder.now.noted.notes c.loop-place.place c.loop-place.self _ c.loop-place.invariant (subst (λ (n : ℕ). n ≤ c.loop-place.place) c.len-place-end.ensures c.loop-place-test.false)
