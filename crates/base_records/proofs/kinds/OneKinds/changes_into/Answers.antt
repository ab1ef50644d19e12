use Rattle.base_records.proofs.{KindLemmas.on_ok, RowLemmas.rows-changed}
use Rattle.base_records.proofs.kinds.OneKinds.changes_into.Goals as goal

pub returns-clause-changes : goal.returns-clause-changes
returns-clause-changes g c =
    on_ok c.changes_into.result
    (λ e. (
      _,
      (
        e,
        rows-changed g.R.Key.Ord.cmp g.met.R.Key.Ord.total g.R.AsItem.Fits g.R.AsItem.item_of g.R.AsItem.gone_of g.R.AsItem.same g.R.AsItem.entry_of c.told.ensures
            c.args.self.now.table.now c.changes_into.ensures.settled c.changes_into.ensures.ordered c.requires.told.0 c.requires.told.1,
      ),
    )) c.changes_into.ensures.changes
