use Rattle.base_records.proofs.KindLemmas.{once-at, listed-at}
use Rattle.mod_signing.specs.Items.{items_of}
use Rattle.mod_signing.proofs.records.WindowRecords.items_into.Goals as goal

pub items_into-requires : goal.items_into-requires
items_into-requires g c = record { told = tt }

pub returns-clause-once : goal.returns-clause-once
returns-clause-once g c = once-at items_of c.items_into.result _ c.args.self.now.kept c.signings.ensures.held c.items_into.ensures.once

pub returns-clause-items : goal.returns-clause-items
returns-clause-items g c = listed-at items_of c.items_into.result _ c.args.self.now.kept c.signings.ensures.held c.args.out.now.items c.items_into.new.out.items c.items_into.ensures.items
