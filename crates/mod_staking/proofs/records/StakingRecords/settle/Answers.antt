use Rattle.std.proofs.Common.{◌∙◌, ap}
use Rattle.mod_staking.proofs.MarkLemmas.{closed-all}
use Rattle.mod_staking.proofs.records.StakingRecords.settle.Goals as goal

pub settle-requires : goal.settle-requires
settle-requires g c = record { closed = (closed-all c.self.inside.validators c.self.inside.operators c.self.inside.delegations c.self.invariant c.self.inside.spent (ap (λ b. b.marks) c.self.view_is ∙ c.requires)).0 }

pub settle-requires-2 : goal.settle-requires-2
settle-requires-2 g c = record { closed = (closed-all c.self.inside.validators c.self.inside.operators c.self.inside.delegations c.self.invariant c.self.inside.spent (ap (λ b. b.marks) c.self.view_is ∙ c.requires)).1 }

pub settle-requires-3 : goal.settle-requires-3
settle-requires-3 g c = record { closed = (closed-all c.self.inside.validators c.self.inside.operators c.self.inside.delegations c.self.invariant c.self.inside.spent (ap (λ b. b.marks) c.self.view_is ∙ c.requires)).2 }
