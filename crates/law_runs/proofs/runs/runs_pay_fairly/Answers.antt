use Rattle.law_runs.proofs.Paying.{runs_pay_fairly}
use Rattle.law_runs.proofs.runs.runs_pay_fairly.Goals as goal

pub returns : goal.returns
returns c = runs_pay_fairly
