use Rattle.law_rewards.proofs.Maturing.{maturing_keeps_reached}
use Rattle.law_rewards.proofs.changes.maturing_keeps_reached.Goals as goal

pub returns : goal.returns
returns c = maturing_keeps_reached
