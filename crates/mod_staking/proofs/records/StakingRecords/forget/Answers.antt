use Rattle.std.proofs.Common.{◌≢◌, ◌∙◌, [], sym, ap, subst}
use Rattle.mod_staking.proofs.MarkLemmas.{in_step-forgotten, registered-forgotten, some_at}
use Rattle.mod_staking.proofs.records.StakingRecords.forget.Goals as goal

pub forget-requires : goal.forget-requires
forget-requires g c = record { some = (some_at c.self.inside.validators c.self.inside.operators c.self.inside.delegations c.self.invariant c.self.inside.spent (subst (λ b. b.marks ≢ []) (sym c.self.view_is) c.requires)).0 }

pub forget-requires-2 : goal.forget-requires-2
forget-requires-2 g c = record { some = (some_at c.self.inside.validators c.self.inside.operators c.self.inside.delegations c.self.invariant c.self.inside.spent (subst (λ b. b.marks ≢ []) (sym c.self.view_is) c.requires)).1 }

pub forget-requires-3 : goal.forget-requires-3
forget-requires-3 g c = record { some = (some_at c.self.inside.validators c.self.inside.operators c.self.inside.delegations c.self.invariant c.self.inside.spent (subst (λ b. b.marks ≢ []) (sym c.self.view_is) c.requires)).2 }

pub invariant_of-self : goal.invariant_of-self
invariant_of-self g c = in_step-forgotten c.self.inside.validators c.self.inside.operators c.self.inside.delegations c.self.invariant c.forget.new.self c.forget-2.new.self c.forget-3.new.self c.forget.ensures c.forget-2.ensures c.forget-3.ensures

pub returns-clause-closed : goal.returns-clause-closed
returns-clause-closed g c =
    let r = (registered-forgotten c.self.inside.validators c.self.inside.operators c.self.inside.delegations c.self.invariant c.forget.new.self c.forget-2.new.self c.forget-3.new.self
    c.self.inside.spent c.forget.ensures c.forget-3.ensures).closed in
    (r.0, r.1 ∙ ap (λ r. r.marks) c.self.view_is)
