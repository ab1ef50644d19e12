use Rattle.base_records.proofs.RowLemmas.{rows-of-kind}
use Rattle.base_records.proofs.kinds.OneKinds.known.Goals as goal

pub returns-clause-held : goal.returns-clause-held
returns-clause-held g c = rows-of-kind g.R.Key.Ord.cmp g.met.R.Key.Ord.total g.R.AsItem.Fits g.R.AsItem.item_of g.R.AsItem.gone_of g.R.AsItem.same g.R.AsItem.entry_of c.told.ensures _ c.requires.told.0

pub returns-clause-settled : goal.returns-clause-settled
returns-clause-settled g c = rows-of-kind g.R.Key.Ord.cmp g.met.R.Key.Ord.total g.R.AsItem.Fits g.R.AsItem.item_of g.R.AsItem.gone_of g.R.AsItem.same g.R.AsItem.entry_of c.told.ensures _ c.requires.told.1
