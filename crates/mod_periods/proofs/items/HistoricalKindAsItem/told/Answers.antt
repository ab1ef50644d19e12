use Rattle.mod_periods.proofs.KindLemmas.{historical-rowed}
use Rattle.mod_periods.proofs.items.HistoricalKindAsItem.told.Goals as goal

pub returns : goal.returns
returns c = historical-rowed
