use Rattle.base_records.proofs.WalkLemmas.{Told}
use Rattle.base_records.proofs.walk.changes_into.Given as goal

abbrev pub invariant-loop-key : goal.invariant-loop-key
invariant-loop-key g l = Told g.R.Key.Ord.cmp g.R.AsItem.item_of g.R.AsItem.gone_of g.R.AsItem.same l.fn.out.items l.table.touched l.table.entries l.out.items l.key-iterator
