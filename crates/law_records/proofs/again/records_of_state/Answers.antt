use Rattle.law_records.proofs.AgainLaws.{records_again}
use Rattle.law_records.proofs.again.records_of_state.Goals as goal

pub returns : goal.returns
returns c = λ r a coins t. records_again r a coins t
