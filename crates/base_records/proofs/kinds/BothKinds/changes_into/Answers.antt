use Rattle.base_records.proofs.KindLemmas.{changed-both}
use Rattle.base_records.proofs.kinds.BothKinds.changes_into.Goals as goal

pub returns-clause-changes : goal.returns-clause-changes
returns-clause-changes g c =
    changed-both c.known.ensures.by_key c.known-2.ensures.by_key c.requires.told.2 c.changes_into-2.result c.args.out.now.items c.changes_into.new.out.items c.changes_into-2.new.out.items _ _ _ _
    c.known.ensures.settled c.known.ensures.held c.known-2.ensures.settled c.known-2.ensures.held c.in_ok-changes_into.ensures.changes c.changes_into-2.ensures.changes
