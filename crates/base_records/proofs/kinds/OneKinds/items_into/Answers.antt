use Rattle.base_records.proofs.{KindLemmas.is_ok, RowLemmas.rows-told-once}
use Rattle.base_records.proofs.kinds.OneKinds.items_into.Goals as goal

pub returns-clause-once : goal.returns-clause-once
returns-clause-once g c =
    is_ok c.rows_into.result
    (rows-told-once g.R.Key.Ord.cmp g.met.R.Key.Ord.total g.R.AsItem.Fits g.R.AsItem.item_of g.R.AsItem.gone_of g.R.AsItem.same g.R.AsItem.entry_of c.told.ensures _ c.requires.told.0 c.rows_into.ensures.ordered)
