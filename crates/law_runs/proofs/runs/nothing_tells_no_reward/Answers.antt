use Rattle.law_runs.proofs.Payees.{nothing_tells_no_reward}
use Rattle.law_runs.proofs.runs.nothing_tells_no_reward.Goals as goal

pub returns : goal.returns
returns c = nothing_tells_no_reward
