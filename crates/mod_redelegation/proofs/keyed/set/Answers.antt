use Rattle.std.proofs.Common.{◌≡◌, subst, OnOk}
use Rattle.mod_entries.specs.{Kept.holding, Lists.with_list}
use Rattle.mod_redelegation.proofs.OrderLemmas.{triple_order_is}
use Rattle.mod_redelegation.proofs.keyed.set.Goals as goal

pub returns-clause-ok : goal.returns-clause-ok
returns-clause-ok g c =
    subst (λ order. OnOk c.set.result (c.set.new.self ≡ holding (with_list order c.args.key.now c.args.list c.args.entries.now.lists) c.args.entries.now)) triple_order_is c.set.ensures.ok
