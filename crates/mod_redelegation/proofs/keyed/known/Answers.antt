use Rattle.std.proofs.Common.{subst}
use Rattle.std.specs.{List.Sorted.IsStrictlySortedBy, Map.keys_of}
use Rattle.mod_redelegation.proofs.OrderLemmas.{triple_order_is}
use Rattle.mod_redelegation.proofs.keyed.known.Goals as goal

pub returns-clause-ordered : goal.returns-clause-ordered
returns-clause-ordered c = subst (λ order. IsStrictlySortedBy order (keys_of c.args.entries.now.lists)) triple_order_is c.known.ensures.ordered
