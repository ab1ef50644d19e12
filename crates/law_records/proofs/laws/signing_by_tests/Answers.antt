use Rattle.law_records.proofs.DecisionLaws.{signing_is_sound}
use Rattle.law_records.proofs.laws.signing_by_tests.Goals as goal

pub returns : goal.returns
returns c = λ r a t. signing_is_sound r a t
