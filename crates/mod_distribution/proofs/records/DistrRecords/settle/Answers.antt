use Rattle.std.proofs.Common.{◌∙◌, ap}
use Rattle.mod_distribution.proofs.MarkLemmas.{in_step-none, none_open}
use Rattle.mod_distribution.proofs.records.DistrRecords.settle.Goals as goal

pub settle-requires : goal.settle-requires
settle-requires g c = (none_open c.self.inside.f1 c.self.inside.alloc c.self.inside.withdraw c.self.invariant (ap (λ t. t.marks) c.self.view_is ∙ c.requires)).0

pub settle-requires-2 : goal.settle-requires-2
settle-requires-2 g c = (none_open c.self.inside.f1 c.self.inside.alloc c.self.inside.withdraw c.self.invariant (ap (λ t. t.marks) c.self.view_is ∙ c.requires)).1

pub settle-requires-3 : goal.settle-requires-3
settle-requires-3 g c = record { closed = (none_open c.self.inside.f1 c.self.inside.alloc c.self.inside.withdraw c.self.invariant (ap (λ t. t.marks) c.self.view_is ∙ c.requires)).2 }

pub invariant_of-self : goal.invariant_of-self
invariant_of-self g c = in_step-none c.settle.new.self c.settle-2.new.self c.settle-3.new.self c.settle.ensures.marks c.settle-2.ensures.marks
    (ap (λ t. t.marks) c.settle-3.ensures ∙ (none_open c.self.inside.f1 c.self.inside.alloc c.self.inside.withdraw c.self.invariant (ap (λ t. t.marks) c.self.view_is ∙ c.requires)).2)
