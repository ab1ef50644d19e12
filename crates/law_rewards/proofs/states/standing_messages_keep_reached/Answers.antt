use Rattle.law_rewards.proofs.Edits.{standing_messages_keep_reached}
use Rattle.law_rewards.proofs.states.standing_messages_keep_reached.Goals as goal

pub returns : goal.returns
returns c = standing_messages_keep_reached
