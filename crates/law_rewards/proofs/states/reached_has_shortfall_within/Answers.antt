use Rattle.law_rewards.proofs.Claims.{reached_has_shortfall_within}
use Rattle.law_rewards.proofs.states.reached_has_shortfall_within.Goals as goal

pub returns : goal.returns
returns c = reached_has_shortfall_within
