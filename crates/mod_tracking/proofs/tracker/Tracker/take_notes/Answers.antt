use Rattle.std.proofs.Common.{◌∙◌, ◌≤◌, ℕ, drop, ap, subst, sym}
use Rattle.mod_tracking.proofs.Following.{note_goes, note_stops, notes_end}
use Rattle.mod_tracking.proofs.tracker.Tracker.take_notes.Goals as goal

pub loop-place-preserved : goal.loop-place-preserved
loop-place-preserved c =
    let l = c.loop-place in
    let goes = note_goes c.args.pair.now c.args.fact c.args.recorder.now.noted.notes l.place l.self _ _ l.invariant.tracked l.invariant.rest c.note_at-note.result.now _ c.note_at-note.ensures (sym c.stands_before.ensures ∙ c.if-not-stands_before.false) c.in_ok-take_note.ensures.tracked in
    record { tracked = goes.0; rest = goes.1 }

pub returns-then-not-stands_before-clause-tracked : goal.returns-then-not-stands_before-clause-tracked
returns-then-not-stands_before-clause-tracked c =
    let l = c.loop-place in
    (note_stops c.args.pair.now c.args.fact c.args.recorder.now.noted.notes l.place l.self _ _ l.invariant.tracked l.invariant.rest c.note_at-note.result.now c.note_at-note.ensures (sym c.stands_before.ensures ∙ c.if-not-stands_before.true)).0

pub returns-then-not-stands_before-clause-rest : goal.returns-then-not-stands_before-clause-rest
returns-then-not-stands_before-clause-rest c =
    let l = c.loop-place in
    (note_stops c.args.pair.now c.args.fact c.args.recorder.now.noted.notes l.place l.self _ _ l.invariant.tracked l.invariant.rest c.note_at-note.result.now c.note_at-note.ensures (sym c.stands_before.ensures ∙ c.if-not-stands_before.true)).1

pub returns-clause-tracked : goal.returns-clause-tracked
returns-clause-tracked c =
    let l = c.loop-place in
    (notes_end c.args.pair.now c.args.fact c.args.recorder.now.noted.notes l.place l.self _ _ l.invariant.tracked l.invariant.rest (subst (λ (n : ℕ). n ≤ l.place) c.len-place-end.ensures c.loop-place-test.false)).0

pub returns-clause-rest : goal.returns-clause-rest
returns-clause-rest c =
    let l = c.loop-place in
    ap (λ (n : ℕ). drop n c.args.recorder.now.noted.notes) c.len.ensures
    ∙ (notes_end c.args.pair.now c.args.fact c.args.recorder.now.noted.notes l.place l.self _ _ l.invariant.tracked l.invariant.rest (subst (λ (n : ℕ). n ≤ l.place) c.len-place-end.ensures c.loop-place-test.false)).1
