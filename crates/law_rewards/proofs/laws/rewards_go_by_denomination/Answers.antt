use Rattle.law_rewards.proofs.Denominations.{rewards_go_by_denomination}
use Rattle.law_rewards.proofs.laws.rewards_go_by_denomination.Goals as goal

pub returns : goal.returns
returns c = rewards_go_by_denomination
