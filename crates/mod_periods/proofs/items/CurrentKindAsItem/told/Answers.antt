use Rattle.mod_periods.proofs.KindLemmas.{current-rowed}
use Rattle.mod_periods.proofs.items.CurrentKindAsItem.told.Goals as goal

pub returns : goal.returns
returns c = current-rowed
