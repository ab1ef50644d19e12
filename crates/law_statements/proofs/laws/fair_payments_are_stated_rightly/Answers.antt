use Rattle.law_statements.proofs.Rightness.{fair_payments_are_stated_rightly}
use Rattle.law_statements.proofs.laws.fair_payments_are_stated_rightly.Goals as goal

pub returns : goal.returns
returns c = fair_payments_are_stated_rightly
