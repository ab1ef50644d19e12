use Rattle.std.proofs.Common.{◌∙◌, ap}
use Rattle.base_records.proofs.KindLemmas.{once-at, listed-at}
use Rattle.mod_bank.{specs.Items.items_of, proofs.ItemLemmas.kinds-apart}
use Rattle.mod_bank.proofs.records.BankBalancesRecords.items_into.Goals as goal

pub items_into-requires : goal.items_into-requires
items_into-requires g c = record { told = ((λ k v m. tt, λ k v m. tt), (λ k v m. tt, λ k v m. tt), kinds-apart) }

pub returns-clause-once : goal.returns-clause-once
returns-clause-once g c = once-at items_of c.items_into.result _ c.args.self.now.holdings (c.kinds.ensures.held ∙ ap (λ b. b.holdings) c.self.view_is) c.items_into.ensures.once

pub returns-clause-items : goal.returns-clause-items
returns-clause-items g c = listed-at items_of c.items_into.result _ c.args.self.now.holdings (c.kinds.ensures.held ∙ ap (λ b. b.holdings) c.self.view_is) c.args.out.now.items c.items_into.new.out.items c.items_into.ensures.items
