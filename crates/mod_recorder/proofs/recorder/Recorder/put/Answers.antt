use Rattle.std.proofs.Common.{◌≡◌, ◌∙◌, true, length, map, sym, ap, subst}
use Rattle.mod_recorder.specs.Recorded.{Recorded, are_rising, noted_at}
use Rattle.mod_recorder.proofs.RecordLemmas.{grown_marks, grown_settled, grown_up}
use Rattle.mod_recorder.proofs.recorder.Recorder.put.Goals as goal

pub invariant_of-self-2 : goal.invariant_of-self-2
invariant_of-self-2 c =
    let s = c.self.inside in
    subst (λ l. are_rising s.settled.notes s.marks.items (length l) ≡ true) (sym c.in_ok-push.ensures.items) (grown_up s.notes.items s.before s.marks.items s.settled c.self.invariant _)

pub returns-clause-marks : goal.returns-clause-marks
returns-clause-marks c =
    let s = c.self.inside in
    subst (λ l. map (noted_at l) s.marks.items ≡ c.args.self.now.marks) (sym c.in_ok-push.ensures.items) (grown_marks s.notes.items s.before s.marks.items s.settled c.self.invariant _ ∙ ap (λ (r : Recorded). r.marks) c.self.view_is)

pub returns-clause-settled : goal.returns-clause-settled
returns-clause-settled c =
    let s = c.self.inside in
    subst (λ l. noted_at l s.settled ≡ c.args.self.now.settled) (sym c.in_ok-push.ensures.items) (grown_settled s.notes.items s.before s.marks.items s.settled c.self.invariant _ ∙ ap (λ (r : Recorded). r.settled) c.self.view_is)
