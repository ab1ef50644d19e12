use Rattle.law_rewards.proofs.Endings.{reached_is_cut_within}
use Rattle.law_rewards.proofs.states.reached_is_cut_within.Goals as goal

pub returns : goal.returns
returns c = reached_is_cut_within
