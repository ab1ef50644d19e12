use Rattle.std.proofs.Common.{length}
use Rattle.base_records.proofs.WalkLemmas.{Walked, left_of}
use Rattle.base_records.proofs.walk.rows_into.Given as goal

abbrev pub invariant-loop-key : goal.invariant-loop-key
invariant-loop-key g l = Walked g.R.Key.Ord.cmp (λ e. g.R.AsItem.item_of e.0 e.1) l.fn.out.items l.table.entries l.out.items l.after

abbrev pub decreases-loop-key : goal.decreases-loop-key
decreases-loop-key g l = length (left_of g.R.Key.Ord.cmp l.table.entries l.after)
