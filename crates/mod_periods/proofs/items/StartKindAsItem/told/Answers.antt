use Rattle.mod_periods.proofs.KindLemmas.{start-rowed}
use Rattle.mod_periods.proofs.items.StartKindAsItem.told.Goals as goal

pub returns : goal.returns
returns c = start-rowed
