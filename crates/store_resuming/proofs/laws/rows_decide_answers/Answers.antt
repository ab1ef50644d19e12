use Rattle.store_resuming.proofs.DecideLaws.{rows_decide_answers}
use Rattle.store_resuming.proofs.laws.rows_decide_answers.Goals as goal

pub returns : goal.returns
returns c = λ blocks p q s t alike input few. rows_decide_answers blocks p q s t alike input few
