use Rattle.mod_signing.proofs.WalkLemmas.{ToldSignings}
use Rattle.mod_signing.proofs.walk.changes_into.Given as goal

abbrev pub invariant-loop-cons : goal.invariant-loop-cons
invariant-loop-cons g l = ToldSignings l.rows.settled l.rows.entries l.fn.out.items l.entries.touched l.entries.entries l.out.items l.cons-iterator
