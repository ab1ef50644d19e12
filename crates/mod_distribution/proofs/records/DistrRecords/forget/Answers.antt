use Rattle.std.proofs.Common.{◌≢◌, ◌∙◌, [], sym, ap, subst}
use Rattle.mod_distribution.{specs.Kept.kept_with, proofs.MarkLemmas.{in_step-popped, marks_popped, some_open}}
use Rattle.mod_distribution.proofs.records.DistrRecords.forget.Goals as goal

pub forget-requires : goal.forget-requires
forget-requires g c = (some_open c.self.inside.f1 c.self.inside.alloc c.self.inside.withdraw c.self.invariant (subst (λ b. b.marks ≢ []) (sym c.self.view_is) c.requires)).0

pub forget-requires-2 : goal.forget-requires-2
forget-requires-2 g c = (some_open c.self.inside.f1 c.self.inside.alloc c.self.inside.withdraw c.self.invariant (subst (λ b. b.marks ≢ []) (sym c.self.view_is) c.requires)).1

pub forget-requires-3 : goal.forget-requires-3
forget-requires-3 g c = record { some = (some_open c.self.inside.f1 c.self.inside.alloc c.self.inside.withdraw c.self.invariant (subst (λ b. b.marks ≢ []) (sym c.self.view_is) c.requires)).2 }

pub invariant_of-self : goal.invariant_of-self
invariant_of-self g c =
    in_step-popped c.self.inside.f1 c.forget.new.self c.self.inside.alloc c.forget-2.new.self c.self.inside.withdraw c.forget-3.new.self c.forget.ensures.closed.0 c.forget-2.ensures.closed.0 c.forget-3.ensures.closed.0 c.self.invariant
    c.forget.ensures.closed.1 c.forget-2.ensures.closed.1 c.forget-3.ensures.closed.1

pub returns-clause-closed : goal.returns-clause-closed
returns-clause-closed g c = (
  kept_with c.forget.ensures.closed.0 c.forget-2.ensures.closed.0 c.forget-3.ensures.closed.0,
  marks_popped c.self.inside.f1 c.forget.new.self c.self.inside.alloc c.forget-2.new.self c.self.inside.withdraw c.forget-3.new.self c.forget.ensures.closed.0 c.forget-2.ensures.closed.0 c.forget-3.ensures.closed.0 c.self.invariant
      c.forget.ensures.closed.1 c.forget-2.ensures.closed.1 c.forget-3.ensures.closed.1 ∙ ap (λ t. t.marks) c.self.view_is,
)
