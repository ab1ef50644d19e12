use Rattle.std.proofs.Common.{◌≡◌, subst, OnOk}
use Rattle.base_roles.specs.Entries.{with}
use Rattle.mod_entries.specs.Kept.{holding}
use Rattle.mod_redelegation.proofs.OrderLemmas.{triple_order_is}
use Rattle.mod_redelegation.proofs.keyed.put_copy.Goals as goal

pub returns-clause-ok : goal.returns-clause-ok
returns-clause-ok g c =
    subst (λ order. OnOk c.put_copy.result (c.put_copy.new.self ≡ holding (with order c.args.entries.now.lists c.args.key.now c.args.list.now) c.args.entries.now)) triple_order_is c.put_copy.ensures.ok
