use Rattle.base_records.proofs.KindLemmas.{on_ok, once-both}
use Rattle.base_records.proofs.kinds.BothKinds.items_into.Goals as goal

pub returns-clause-once : goal.returns-clause-once
returns-clause-once g c =
    on_ok c.items_into-2.result
    (once-both c.known.ensures.by_key c.known-2.ensures.by_key c.requires.told.2 _ _ c.known.ensures.held c.known-2.ensures.held c.in_ok-items_into.ensures.once) c.items_into-2.ensures.once
