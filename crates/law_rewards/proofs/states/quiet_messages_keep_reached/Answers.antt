use Rattle.law_rewards.proofs.Quiet.{quiet_messages_keep_reached}
use Rattle.law_rewards.proofs.states.quiet_messages_keep_reached.Goals as goal

pub returns : goal.returns
returns c = quiet_messages_keep_reached
