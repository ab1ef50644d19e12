use Rattle.mod_tally.proofs.Exactness.{totals_are_near_exact}
use Rattle.mod_tally.proofs.laws.totals_are_near_exact.Goals as goal

pub returns : goal.returns
returns c = totals_are_near_exact
