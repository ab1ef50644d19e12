use Rattle.std.proofs.Common.{◌≡◌, subst, option_map}
use Rattle.base_table.specs.Tabled.{entry_from}
use Rattle.mod_redelegation.proofs.OrderLemmas.{triple_order_is}
use Rattle.mod_redelegation.proofs.keyed.seek.Goals as goal

pub returns-clause-from : goal.returns-clause-from
returns-clause-from g c = subst (λ order. option_map (λ entry. (entry.0.now, entry.1.now)) c.seek.result ≡ entry_from order c.args.entries.now.lists c.args.from.now) triple_order_is c.seek.ensures.from
