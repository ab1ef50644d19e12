use Rattle.std.proofs.Common.{◌≡◌, ◌≤◌, drop, length, map}
use Rattle.std.specs.List.{AllByRecursion}
use Rattle.base_io.specs.Changes.{pair_of}
use Rattle.store_history.specs.Held.{IsWhole, undone}
use Rattle.store_history.proofs.going_back.undo.Given as goal

abbrev pub invariant-loop-at : goal.invariant-loop-at
invariant-loop-at l = record {
  within : l.at ≤ length l.rows;
  gone : AllByRecursion IsWhole (map pair_of l.rows) → l.visible ≡ undone l.height (map pair_of (drop l.at l.rows)) l.initial.visible;
}

abbrev pub decreases-loop-at : goal.decreases-loop-at
decreases-loop-at l = l.at
