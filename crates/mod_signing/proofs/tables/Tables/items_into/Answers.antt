use Rattle.std.proofs.Common.{◌≡◌, ◌++◌, subst, OnOk}
use Rattle.mod_signing.{specs.Items.items_of, proofs.ItemLemmas.{always, signings_once}}
use Rattle.mod_signing.proofs.tables.Tables.items_into.Goals as goal

pub returns-clause-items : goal.returns-clause-items
returns-clause-items g c = subst (λ w. OnOk c.items_into.result (c.items_into.new.out.items ≡ c.args.out.now.items ++ items_of w.kept)) c.self.view_is c.items_into.ensures.items

pub returns-clause-once : goal.returns-clause-once
returns-clause-once g c = always c.items_into.result (signings_once c.args.self.now.kept c.known.ensures)
