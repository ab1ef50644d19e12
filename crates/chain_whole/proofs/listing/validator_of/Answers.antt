use Rattle.std.proofs.Common.{◌∙◌, sym, ap}
use Rattle.base_roles.specs.Staked.{validator_at}
use Rattle.rule_modules.specs.Chain.{Stakes}
use Rattle.chain_whole.proofs.listing.validator_of.Goals as goal

pub returns : goal.returns
returns g c = λ p s. c.validator.ensures.value ∙ ap (λ (x : Stakes). validator_at x.staked c.args.operator.now) (sym s.keeps.stakes)
