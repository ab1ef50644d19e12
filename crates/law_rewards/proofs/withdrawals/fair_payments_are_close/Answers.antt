use Rattle.law_rewards.proofs.Close.{fair_payments_are_close}
use Rattle.law_rewards.proofs.withdrawals.fair_payments_are_close.Goals as goal

pub returns : goal.returns
returns c = fair_payments_are_close
