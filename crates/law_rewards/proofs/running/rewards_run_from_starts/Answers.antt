use Rattle.law_rewards.proofs.Unstarted.{messages_keep_started, blocks_keep_started}
use Rattle.law_rewards.proofs.running.rewards_run_from_starts.Goals as goal

pub returns-clause-messages : goal.returns-clause-messages
returns-clause-messages c = messages_keep_started

pub returns-clause-blocks : goal.returns-clause-blocks
returns-clause-blocks c = blocks_keep_started
