use Rattle.law_rewards.proofs.Creating.{creating_keeps_reached}
use Rattle.law_rewards.proofs.changes.creating_keeps_reached.Goals as goal

pub returns : goal.returns
returns c = creating_keeps_reached
