use Rattle.std.proofs.Common.{arith}
use Rattle.mod_signing.proofs.PlaceLemmas.{lowest_set, none_lower}
use Rattle.mod_signing.proofs.bits.next_set.Goals as goal

pub returns-then-from-end-clause-before : goal.returns-then-from-end-clause-before
returns-then-from-end-clause-before c = λ place h l. none_lower c.args.row c.args.from place (omega arith) h (omega (arith, l))

pub returns-then-from-end-clause-here : goal.returns-then-from-end-clause-here
returns-then-from-end-clause-here c = λ l. lowest_set c.args.row c.args.from _ (omega arith) (omega (arith, l, c.requires)) (omega (arith, l)) (omega (arith, l))
