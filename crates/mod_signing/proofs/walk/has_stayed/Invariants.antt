use Rattle.std.proofs.Common.{◌≤◌}
use Rattle.mod_signing.proofs.LoopLemmas.{StayFrom}
use Rattle.mod_signing.proofs.walk.has_stayed.Given as goal

abbrev pub invariant-loop-left : goal.invariant-loop-left
invariant-loop-left g l = record {
  within : l.left ≤ l.places;
  stay : StayFrom l.rows.settled l.rows.entries l.cons l.left l.places;
}

abbrev pub decreases-loop-left : goal.decreases-loop-left
decreases-loop-left g l = l.left
