use Rattle.mod_distribution.proofs.KindLemmas.{payee-rowed}
use Rattle.mod_distribution.proofs.kinds.PayeeKindAsItem.told.Goals as goal

pub returns : goal.returns
returns c = payee-rowed
