use Rattle.base_shares.proofs.Issues.{issue_never_lowers}
use Rattle.base_shares.proofs.laws.issue_never_lowers.Goals as goal

pub returns : goal.returns
returns c = issue_never_lowers
