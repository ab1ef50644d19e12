use Rattle.law_rewards.proofs.Claims.{reached_is_bracketed}
use Rattle.law_rewards.proofs.states.reached_is_bracketed.Goals as goal

pub returns : goal.returns
returns c = reached_is_bracketed
