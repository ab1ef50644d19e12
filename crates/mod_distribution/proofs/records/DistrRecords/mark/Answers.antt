use Rattle.std.proofs.Common.{◌∙◌, ◌++◌, [], ◌∷◌, ap, refl}
use Rattle.mod_distribution.proofs.MarkLemmas.{in_step-pushed, in_step-same, marks_opened}
use Rattle.mod_distribution.proofs.records.DistrRecords.mark.Goals as goal

pub invariant_of-self : goal.invariant_of-self
invariant_of-self g c = in_step-same c.self.inside.f1 c.mark.new.self c.self.inside.alloc c.self.inside.alloc c.self.inside.withdraw c.self.inside.withdraw c.self.invariant c.in_err-mark.ensures.err refl refl

pub invariant_of-self-in-Ok : goal.invariant_of-self-in-Ok
invariant_of-self-in-Ok g c =
    in_step-pushed c.self.inside.f1 c.mark.new.self c.self.inside.alloc c.mark_two.new.purses c.self.inside.withdraw c.mark_two.new.payees c.self.inside.f1.kept c.self.inside.alloc.kept c.self.inside.withdraw.entries c.self.invariant
    c.in_ok-mark.ensures.opened c.in-Ok.ensures.purses (ap (λ t. t.marks) c.in-Ok.ensures.payees)

pub returns-in-Ok-clause-opened : goal.returns-in-Ok-clause-opened
returns-in-Ok-clause-opened g c =
    marks_opened c.self.inside.f1 c.mark.new.self c.self.inside.alloc c.mark_two.new.purses c.self.inside.withdraw c.mark_two.new.payees c.self.invariant
    c.in_ok-mark.ensures.opened c.in-Ok.ensures.purses (ap (λ t. t.marks) c.in-Ok.ensures.payees) ∙ ap (λ t. t.marks ++ t.kept ∷ []) c.self.view_is
