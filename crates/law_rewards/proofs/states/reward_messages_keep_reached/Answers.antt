use Rattle.law_rewards.proofs.Beginnings.{reward_messages_keep_reached}
use Rattle.law_rewards.proofs.states.reward_messages_keep_reached.Goals as goal

pub returns : goal.returns
returns c = reward_messages_keep_reached
