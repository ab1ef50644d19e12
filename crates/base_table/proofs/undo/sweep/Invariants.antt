use Rattle.std.proofs.Common.{◌≡◌}
use Rattle.base_table.specs.Places.{filled, slots, AreNamed}
use Rattle.base_table.proofs.undo.sweep.Given as goal

abbrev pub invariant-loop-key : goal.invariant-loop-key
invariant-loop-key g l = record {
  entries : filled (slots l.tree.entries) ≡ filled (slots l.fn.tree.entries);
  named : AreNamed g.K.Ord.cmp (slots l.fn.tree.entries) → AreNamed g.K.Ord.cmp (slots l.tree.entries);
}
