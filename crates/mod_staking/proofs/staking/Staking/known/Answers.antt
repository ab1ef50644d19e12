use Rattle.std.proofs.Common.{◌∙◌, ap}
use Rattle.base_roles.specs.Staked.{validator_at}
use Rattle.mod_staking.proofs.IndexLemmas.{keyed_found}
use Rattle.mod_staking.proofs.staking.Staking.known.Goals as goal

pub returns-clause-operators : goal.returns-clause-operators
returns-clause-operators c = λ o v e. keyed_found c.self.inside.validators.entries o v c.self.invariant.keyed (ap (λ r. validator_at r.staked o) c.self.view_is ∙ e)
