use Rattle.law_rewards.proofs.Redelegating.{redelegating_keeps_reached}
use Rattle.law_rewards.proofs.changes.redelegating_keeps_reached.Goals as goal

pub returns : goal.returns
returns c = redelegating_keeps_reached
