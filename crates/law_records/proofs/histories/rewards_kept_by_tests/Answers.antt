use Rattle.law_records.proofs.HistoryLaws.{are_rewards_kept_by_tests}
use Rattle.law_records.proofs.histories.rewards_kept_by_tests.Goals as goal

pub returns : goal.returns
returns c = λ r t. are_rewards_kept_by_tests r t
