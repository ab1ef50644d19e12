use Rattle.law_rewards.proofs.{Endings.{next_block_keeps_reached, end_keeps_reached}, Payments.withdrawal_keeps_reached}
use Rattle.law_rewards.proofs.states.steps_keep_reached.Goals as goal

pub returns-clause-next_block : goal.returns-clause-next_block
returns-clause-next_block c = next_block_keeps_reached

pub returns-clause-ended : goal.returns-clause-ended
returns-clause-ended c = end_keeps_reached

pub returns-clause-withdrawn : goal.returns-clause-withdrawn
returns-clause-withdrawn c = withdrawal_keeps_reached
