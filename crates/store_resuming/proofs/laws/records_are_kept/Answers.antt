use Rattle.store_resuming.proofs.KeepLaws.{keeps_records}
use Rattle.store_resuming.proofs.laws.records_are_kept.Goals as goal

pub returns : goal.returns
returns c = λ p s none. keeps_records p s none
