use Rattle.store_resuming.proofs.KeepLaws.{keeps_all}
use Rattle.store_resuming.proofs.laws.records_are_all.Goals as goal

pub returns : goal.returns
returns c = λ k p s none o h. keeps_all k p s none o h
