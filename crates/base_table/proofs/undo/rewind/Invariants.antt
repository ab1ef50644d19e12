use Rattle.std.proofs.Common.{◌≡◌, vec_len}
use Rattle.base_table.specs.Places.{marks_of, slots, stamps, Fits, FitBelow, HavePlaces}
use Rattle.base_table.proofs.undo.rewind.Given as goal

abbrev pub invariant-loop-here : goal.invariant-loop-here
invariant-loop-here g l = record {
  marks : marks_of g.K.Ord.cmp l.log.items l.here.marks (slots l.tree.entries) ≡ marks_of g.K.Ord.cmp l.fn.log.items l.fn.here.marks (slots l.fn.tree.entries);
  fits : Fits g.K.Ord.cmp l.here (slots l.tree.entries);
  below : FitBelow g.K.Ord.cmp l.log.items (slots l.tree.entries);
  placed : HavePlaces g.K.Ord.cmp l.log.items (slots l.tree.entries);
  stamps : stamps l.tree.entries ≡ stamps l.fn.tree.entries;
}

abbrev pub decreases-loop-here : goal.decreases-loop-here
decreases-loop-here g l = vec_len l.log
