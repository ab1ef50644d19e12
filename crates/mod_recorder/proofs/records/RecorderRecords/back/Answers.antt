use Rattle.std.proofs.Common.{◌≡◌, ◌∙◌, true, [], ◌∷◌, ◌++◌, length, map, sym, ap, subst, option_to_list}
use Rattle.mod_recorder.specs.Recorded.{Recorded, are_rising, noted_at}
use Rattle.mod_recorder.proofs.RecordLemmas.{back_marks, back_settled, back_up}
use Rattle.mod_recorder.proofs.records.RecorderRecords.back.Goals as goal

pub invariant_of-self : goal.invariant_of-self
invariant_of-self g c =
    let s = c.self.inside in
    let last = c.pop.ensures.items ∙ ap (λ o. c.pop.new.self.items ++ option_to_list o) c.unwrap-place.ensures in
    subst (λ l. are_rising s.settled.notes c.pop.new.self.items (length l) ≡ true) (sym c.truncate.ensures.items) (back_up s.notes.items s.before s.marks.items s.settled c.self.invariant c.pop.new.self.items c.unwrap-place.result last)

pub returns-clause-back : goal.returns-clause-back
returns-clause-back g c =
    let s = c.self.inside in
    let p = c.unwrap-place.result in
    let last = c.pop.ensures.items ∙ ap (λ o. c.pop.new.self.items ++ option_to_list o) c.unwrap-place.ensures in
    subst (λ l. map (noted_at l) c.pop.new.self.items ++ record { notes = l; before = p.before } ∷ [] ≡ c.args.self.now.marks) (sym c.truncate.ensures.items)
    (back_marks s.notes.items s.before s.marks.items s.settled c.self.invariant c.pop.new.self.items p last ∙ ap (λ (r : Recorded). r.marks) c.self.view_is)

pub returns-clause-settled : goal.returns-clause-settled
returns-clause-settled g c =
    let s = c.self.inside in
    let last = c.pop.ensures.items ∙ ap (λ o. c.pop.new.self.items ++ option_to_list o) c.unwrap-place.ensures in
    subst (λ l. noted_at l s.settled ≡ c.args.self.now.settled) (sym c.truncate.ensures.items)
    (back_settled s.notes.items s.before s.marks.items s.settled c.self.invariant c.pop.new.self.items c.unwrap-place.result last ∙ ap (λ (r : Recorded). r.settled) c.self.view_is)
