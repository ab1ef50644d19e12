use Rattle.rule_worked.proofs.Unfair.{passed_over_is_unfair, cut_fraction_is_unfair}
use Rattle.rule_worked.proofs.rewards.wrong_slashes.Goals as goal

pub returns-clause-passed_over : goal.returns-clause-passed_over
returns-clause-passed_over c = passed_over_is_unfair

pub returns-clause-cut : goal.returns-clause-cut
returns-clause-cut c = cut_fraction_is_unfair
