use Rattle.law_rewards.proofs.Punishing.{votes_keep_reached, evidence_keeps_reached}
use Rattle.law_rewards.proofs.changes.punishing_keeps_reached.Goals as goal

pub returns-clause-voted : goal.returns-clause-voted
returns-clause-voted c = votes_keep_reached

pub returns-clause-weighed : goal.returns-clause-weighed
returns-clause-weighed c = evidence_keeps_reached
