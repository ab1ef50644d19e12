use Rattle.law_rewards.proofs.Allocating.{none_started_in_next, allocation_keeps_reached, block_begin_keeps_reached}
use Rattle.law_rewards.proofs.changes.allocation_keeps_reached.Goals as goal

pub returns-clause-none_started : goal.returns-clause-none_started
returns-clause-none_started c = none_started_in_next

pub returns-clause-allocated : goal.returns-clause-allocated
returns-clause-allocated c = allocation_keeps_reached

pub returns-clause-begun : goal.returns-clause-begun
returns-clause-begun c = block_begin_keeps_reached
