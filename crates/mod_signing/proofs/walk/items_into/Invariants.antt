use Rattle.std.proofs.Common.{length}
use Rattle.base_types.specs.Orders.{cons_cmp}
use Rattle.base_records.proofs.WalkLemmas.{Walked, left_of}
use Rattle.mod_signing.proofs.WalkLemmas.{entry_item}
use Rattle.mod_signing.proofs.walk.items_into.Given as goal

abbrev pub invariant-loop-cons : goal.invariant-loop-cons
invariant-loop-cons g l = Walked cons_cmp (entry_item l.rows.entries) l.fn.out.items l.entries.entries l.out.items l.after

abbrev pub decreases-loop-cons : goal.decreases-loop-cons
decreases-loop-cons g l = length (left_of cons_cmp l.entries.entries l.after)
