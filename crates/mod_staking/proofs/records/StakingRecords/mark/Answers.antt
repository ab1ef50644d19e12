use Rattle.std.proofs.Common.{◌∙◌, ◌++◌, [], ◌∷◌, ap}
use Rattle.mod_staking.{specs.Registered.registered, proofs.MarkLemmas.{in_step-marked, registered-marked}}
use Rattle.mod_staking.proofs.records.StakingRecords.mark.Goals as goal

pub invariant_of-self-2 : goal.invariant_of-self-2
invariant_of-self-2 g c =
    rw (c.in_ok-mark_all.ensures.validators, c.in_ok-mark_all.ensures.operators, c.in_ok-mark_all.ensures.delegations)
    (in_step-marked c.self.inside.validators c.self.inside.operators c.self.inside.delegations c.self.invariant)

pub returns-clause-opened : goal.returns-clause-opened
returns-clause-opened g c =
    let v = c.self.inside.validators in
    let o = c.self.inside.operators in
    let d = c.self.inside.delegations in
    (λ i. (registered (c.in_ok-mark_all.ensures.validators i) (c.in_ok-mark_all.ensures.delegations i) c.self.inside.spent).marks)
    ∙ ap (λ r. r.marks) (registered-marked v o d c.self.invariant c.self.inside.spent)
    ∙ ap (λ r. r.marks ++ r.staked ∷ []) c.self.view_is
