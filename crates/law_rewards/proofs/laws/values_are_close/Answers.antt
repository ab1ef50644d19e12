use Rattle.law_rewards.proofs.Acts.{values_are_close}
use Rattle.law_rewards.proofs.laws.values_are_close.Goals as goal

pub returns : goal.returns
returns c = values_are_close
