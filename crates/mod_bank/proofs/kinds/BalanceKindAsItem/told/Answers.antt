use Rattle.mod_bank.proofs.KindLemmas.{balances_are_rowed}
use Rattle.mod_bank.proofs.kinds.BalanceKindAsItem.told.Goals as goal

pub returns : goal.returns
returns c = balances_are_rowed
