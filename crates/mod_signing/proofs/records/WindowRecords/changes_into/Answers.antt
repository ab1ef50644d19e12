use Rattle.base_records.proofs.KindLemmas.{changed-at}
use Rattle.mod_signing.specs.Items.{items_of}
use Rattle.mod_signing.proofs.records.WindowRecords.changes_into.Goals as goal

pub changes_into-requires : goal.changes_into-requires
changes_into-requires g c = record { told = tt }

pub returns-clause-changes : goal.returns-clause-changes
returns-clause-changes g c =
    changed-at items_of c.changes_into.result _ c.args.self.now.kept c.signings.ensures.held _ c.args.self.now.settled c.signings.ensures.settled
    c.args.out.now.items c.changes_into.new.out.items c.changes_into.ensures.changes
