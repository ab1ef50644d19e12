use Rattle.law_rewards.proofs.Hitting.{votes_pay_fairly, evidence_pays_fairly}
use Rattle.law_rewards.proofs.withdrawals.punishing_pays_fairly.Goals as goal

pub returns-clause-voted : goal.returns-clause-voted
returns-clause-voted c = votes_pay_fairly

pub returns-clause-weighed : goal.returns-clause-weighed
returns-clause-weighed c = evidence_pays_fairly
