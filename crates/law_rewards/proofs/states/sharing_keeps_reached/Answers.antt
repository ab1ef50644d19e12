use Rattle.law_rewards.proofs.Sharing.{sharing_keeps_reached}
use Rattle.law_rewards.proofs.states.sharing_keeps_reached.Goals as goal

pub returns : goal.returns
returns c = sharing_keeps_reached
