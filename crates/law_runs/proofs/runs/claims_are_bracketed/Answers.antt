use Rattle.law_runs.proofs.Ends.{claims_are_bracketed}
use Rattle.law_runs.proofs.runs.claims_are_bracketed.Goals as goal

pub returns : goal.returns
returns c = claims_are_bracketed
