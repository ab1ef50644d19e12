use Rattle.std.proofs.Common.{◌≡◌, subst, option_copied}
use Rattle.base_roles.specs.Entries.{at}
use Rattle.mod_redelegation.proofs.OrderLemmas.{triple_order_is}
use Rattle.mod_redelegation.proofs.keyed.at.Goals as goal

pub returns : goal.returns
returns g c = subst (λ order. option_copied c.at.result ≡ at order c.args.entries.now.lists c.args.key.now) triple_order_is c.at.ensures.value
