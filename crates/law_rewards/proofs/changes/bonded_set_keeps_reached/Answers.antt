use Rattle.law_rewards.proofs.Bonding.{bonded_set_keeps_reached}
use Rattle.law_rewards.proofs.changes.bonded_set_keeps_reached.Goals as goal

pub returns : goal.returns
returns c = bonded_set_keeps_reached
