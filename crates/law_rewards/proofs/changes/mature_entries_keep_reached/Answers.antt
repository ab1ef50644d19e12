use Rattle.law_rewards.proofs.Delegating.{unbondings_step_keeps_reached, redelegations_step_keeps_reached}
use Rattle.law_rewards.proofs.changes.mature_entries_keep_reached.Goals as goal

pub returns-clause-unbondings : goal.returns-clause-unbondings
returns-clause-unbondings c = unbondings_step_keeps_reached

pub returns-clause-redelegations : goal.returns-clause-redelegations
returns-clause-redelegations c = redelegations_step_keeps_reached
