use Rattle.law_soundness.proofs.Starting.{accounts_hold_what_is_owed}
use Rattle.law_soundness.proofs.runs.accounts_hold_what_is_owed.Goals as goal

-- src/runs.rt:21:1
pub returns : goal.returns
returns c = accounts_hold_what_is_owed
