use Rattle.mod_bank.proofs.KindLemmas.{supplies_are_rowed}
use Rattle.mod_bank.proofs.kinds.SupplyKindAsItem.told.Goals as goal

pub returns : goal.returns
returns c = supplies_are_rowed
