use Rattle.mod_signing.proofs.ItemLemmas.{signings_of_kind, signings_by_key}
use Rattle.mod_signing.proofs.items.SigningsKinds.known.Goals as goal

pub returns-clause-held : goal.returns-clause-held
returns-clause-held c = signings_of_kind c.args.self.now.tables.now.kept

pub returns-clause-settled : goal.returns-clause-settled
returns-clause-settled c = signings_of_kind c.args.self.now.tables.now.settled

pub returns-clause-by_key : goal.returns-clause-by_key
returns-clause-by_key c = signings_by_key
