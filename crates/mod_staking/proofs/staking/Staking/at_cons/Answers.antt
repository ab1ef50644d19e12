use Rattle.std.proofs.Common.{◌∙◌, ap, sym}
use Rattle.base_roles.specs.Staked.{validator_by_cons}
use Rattle.mod_staking.proofs.IndexLemmas.{by_cons-some, by_cons-none}
use Rattle.mod_staking.proofs.staking.Staking.at_cons.Goals as goal

pub returns-in-Some-clause-value : goal.returns-in-Some-clause-value
returns-in-Some-clause-value g c =
    c.get-in-Some.ensures.value
    ∙ by_cons-some c.self.inside.validators.entries c.args.cons.now c.in-Some.operator.now c.known.ensures.ordered (sym (c.self.invariant.indexed c.args.cons.now) ∙ sym c.in-Some.ensures.value)
    ∙ ap (λ r. validator_by_cons r.staked c.args.cons.now) c.self.view_is

pub returns-in-None-clause-value : goal.returns-in-None-clause-value
returns-in-None-clause-value g c =
    sym (by_cons-none c.self.inside.validators.entries c.args.cons.now (sym (c.self.invariant.indexed c.args.cons.now) ∙ sym c.in-None.ensures.value))
    ∙ ap (λ r. validator_by_cons r.staked c.args.cons.now) c.self.view_is
