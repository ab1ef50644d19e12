use Rattle.law_rewards.proofs.Delegating.{delegating_keeps_reached, cancelling_keeps_reached}
use Rattle.law_rewards.proofs.changes.delegating_keeps_reached.Goals as goal

pub returns-clause-delegated : goal.returns-clause-delegated
returns-clause-delegated c = delegating_keeps_reached

pub returns-clause-cancelled : goal.returns-clause-cancelled
returns-clause-cancelled c = cancelling_keeps_reached
