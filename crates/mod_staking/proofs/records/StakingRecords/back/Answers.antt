use Rattle.std.proofs.Common.{◌≢◌, ◌∙◌, [], sym, ap, subst}
use Rattle.mod_staking.proofs.MarkLemmas.{in_step-back, registered-back, some_at}
use Rattle.mod_staking.proofs.records.StakingRecords.back.Goals as goal

pub back-requires : goal.back-requires
back-requires g c = record { some = (some_at c.self.inside.validators c.self.inside.operators c.self.inside.delegations c.self.invariant c.self.inside.spent (subst (λ b. b.marks ≢ []) (sym c.self.view_is) c.requires)).0 }

pub back-requires-2 : goal.back-requires-2
back-requires-2 g c = record { some = (some_at c.self.inside.validators c.self.inside.operators c.self.inside.delegations c.self.invariant c.self.inside.spent (subst (λ b. b.marks ≢ []) (sym c.self.view_is) c.requires)).1 }

pub back-requires-3 : goal.back-requires-3
back-requires-3 g c = record { some = (some_at c.self.inside.validators c.self.inside.operators c.self.inside.delegations c.self.invariant c.self.inside.spent (subst (λ b. b.marks ≢ []) (sym c.self.view_is) c.requires)).2 }

pub invariant_of-self : goal.invariant_of-self
invariant_of-self g c = in_step-back c.self.inside.validators c.self.inside.operators c.self.inside.delegations c.self.invariant c.back.new.self c.back-2.new.self c.back-3.new.self c.back.ensures c.back-2.ensures c.back-3.ensures

pub returns-clause-back : goal.returns-clause-back
returns-clause-back g c =
    (registered-back c.self.inside.validators c.self.inside.operators c.self.inside.delegations c.self.invariant c.back.new.self c.back-2.new.self c.back-3.new.self
    c.self.inside.spent c.back.ensures c.back-3.ensures).restored ∙ ap (λ r. r.marks) c.self.view_is
