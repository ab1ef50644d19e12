use Rattle.law_rewards.proofs.Undelegating.{undelegating_keeps_reached}
use Rattle.law_rewards.proofs.changes.undelegating_keeps_reached.Goals as goal

pub returns : goal.returns
returns c = undelegating_keeps_reached
