use Rattle.std.proofs.Common.{◌∙◌, sym}
use Rattle.mod_staking.proofs.IndexLemmas.{own_if_found}
use Rattle.mod_staking.proofs.unbonding.StakingValidatorView.validator.Goals as goal

pub returns-clause-own : goal.returns-clause-own
returns-clause-own g c =
    own_if_found _ c.args.operator.now (λ v e. c.known.ensures.operators c.args.operator.now v (sym c.at.ensures.value ∙ e))
