use Rattle.mod_periods.proofs.KindLemmas.{event-rowed}
use Rattle.mod_periods.proofs.items.EventKindAsItem.told.Goals as goal

pub returns : goal.returns
returns c = event-rowed
