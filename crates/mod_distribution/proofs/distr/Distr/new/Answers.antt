use Rattle.std.proofs.Common.{false, ap}
use Rattle.mod_distribution.specs.Kept.{distributed}
use Rattle.mod_distribution.proofs.distr.Distr.new.Goals as goal

pub returns-clause-new : goal.returns-clause-new
returns-clause-new c = λ i. distributed (c.new.ensures.new i) (c.new-2.ensures i) (c.new-3.ensures i) false

pub returns-clause-kept : goal.returns-clause-kept
returns-clause-kept c = record { rewards = c.new.ensures.kept; purses = ap (λ p. p.kept) c.new-2.ensures; withdraw = ap (λ t. t.entries) c.new-3.ensures }
