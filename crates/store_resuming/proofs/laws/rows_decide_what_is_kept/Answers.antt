use Rattle.store_resuming.proofs.KeepLaws.{rows_decide}
use Rattle.store_resuming.proofs.laws.rows_decide_what_is_kept.Goals as goal

pub returns : goal.returns
returns c = λ k p q s t e facts h. rows_decide k p q s t e facts h
