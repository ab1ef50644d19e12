use Rattle.std.proofs.Common.{◌∙◌, None, cond, sym, ap, subst, ◌≡◌, ◌==◌, IfSome}
use Rattle.base_roles.specs.Staked.{validator_at}
use Rattle.mod_redelegation.proofs.TargetLemmas.{none_either, own_unless_none}
use Rattle.mod_redelegation.proofs.slashing.target_of.Goals as goal

pub returns-in-None-clause-found : goal.returns-in-None-clause-found
returns-in-None-clause-found g c =
    let d = c.args.delegations.now in
    none_either (c.args.part == 0) (validator_at (g.D.Unbonder.stake (g.D.Unbonder.held d)) c.args.target.now) (sym (c.in-None.ensures.value ∙ ap (λ s. validator_at s c.args.target.now) (g.met.D.Unbonder.looks_up d)))

pub returns-in-Some-clause-found : goal.returns-in-Some-clause-found
returns-in-Some-clause-found g c =
    let d = c.args.delegations.now in
    c.unless_none.ensures ∙ ap (λ o. cond (c.args.part == 0) None o) (c.in-Some.ensures.value ∙ ap (λ s. validator_at s c.args.target.now) (g.met.D.Unbonder.looks_up d))

pub returns-in-Some-clause-own : goal.returns-in-Some-clause-own
returns-in-Some-clause-own g c =
    subst (λ o. IfSome o (λ t. t.operator ≡ c.args.target.now)) (sym c.unless_none.ensures) (own_unless_none (c.args.part == 0) c.in-Some.t.now c.args.target.now c.in-Some.ensures.own)
