use Rattle.std.proofs.Common.{◌≢◌, ◌∙◌, [], sym, ap, subst}
use Rattle.mod_distribution.proofs.MarkLemmas.{in_step-popped, marks_popped, some_open}
use Rattle.mod_distribution.proofs.records.DistrRecords.back.Goals as goal

pub back-requires : goal.back-requires
back-requires g c = (some_open c.self.inside.f1 c.self.inside.alloc c.self.inside.withdraw c.self.invariant (subst (λ b. b.marks ≢ []) (sym c.self.view_is) c.requires)).0

pub back-requires-2 : goal.back-requires-2
back-requires-2 g c = (some_open c.self.inside.f1 c.self.inside.alloc c.self.inside.withdraw c.self.invariant (subst (λ b. b.marks ≢ []) (sym c.self.view_is) c.requires)).1

pub back-requires-3 : goal.back-requires-3
back-requires-3 g c = record { some = (some_open c.self.inside.f1 c.self.inside.alloc c.self.inside.withdraw c.self.invariant (subst (λ b. b.marks ≢ []) (sym c.self.view_is) c.requires)).2 }

pub invariant_of-self : goal.invariant_of-self
invariant_of-self g c =
    in_step-popped c.self.inside.f1 c.back.new.self c.self.inside.alloc c.back-2.new.self c.self.inside.withdraw c.back-3.new.self c.back.new.self.kept c.back-2.new.self.kept c.back-3.new.self.entries c.self.invariant
    c.back.ensures.back c.back-2.ensures.back c.back-3.ensures.restored

pub returns-clause-back : goal.returns-clause-back
returns-clause-back g c =
    marks_popped c.self.inside.f1 c.back.new.self c.self.inside.alloc c.back-2.new.self c.self.inside.withdraw c.back-3.new.self c.back.new.self.kept c.back-2.new.self.kept c.back-3.new.self.entries c.self.invariant
    c.back.ensures.back c.back-2.ensures.back c.back-3.ensures.restored ∙ ap (λ t. t.marks) c.self.view_is
