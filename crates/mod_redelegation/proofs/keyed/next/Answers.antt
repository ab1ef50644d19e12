use Rattle.std.proofs.Common.{◌≡◌, Some, subst, option_map}
use Rattle.base_table.specs.Tabled.{entry_above}
use Rattle.mod_redelegation.proofs.OrderLemmas.{triple_order_is}
use Rattle.mod_redelegation.proofs.keyed.next.Goals as goal

pub returns-clause-above : goal.returns-clause-above
returns-clause-above g c = subst (λ order. option_map (λ entry. (entry.0.now, entry.1.now)) c.next.result ≡ entry_above order c.args.entries.now.lists (Some c.args.after.now)) triple_order_is c.next.ensures.above
