use Rattle.std.proofs.Common.{◌≡◌, ◌≤◌, drop, vec_len}
use Rattle.base_table.proofs.UndoLemmas.{AreUnmarked}
use Rattle.base_table.proofs.undo.close.Given as goal

abbrev pub invariant-loop-at : goal.invariant-loop-at
invariant-loop-at g l = record {
  same : l.log.items ≡ l.fn.log.items;
  within : l.at ≤ vec_len l.log;
  unmarked : AreUnmarked (drop l.at l.log.items);
}

abbrev pub decreases-loop-at : goal.decreases-loop-at
decreases-loop-at g l = l.at
