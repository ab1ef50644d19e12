use Rattle.std.proofs.Common.{◌≡◌, subst, IfOk}
use Rattle.rule_modules.specs.EntrySlashes.{redelegation_made}
use Rattle.mod_entries.specs.Lists.{list_at, unmatured}
use Rattle.mod_redelegation.proofs.OrderLemmas.{triple_order_is}
use Rattle.mod_redelegation.proofs.keyed.unmatured_at.Goals as goal

pub returns-clause-left : goal.returns-clause-left
returns-clause-left g c =
    subst (λ order. IfOk c.unmatured_at.result (λ list. list ≡ unmatured redelegation_made c.args.now (list_at order c.args.entries.now.lists c.args.key.now))) triple_order_is c.unmatured_at.ensures.left
