use Rattle.std.proofs.Common.{◌≡◌, ◌-◌, ◌<◌, ◌≤◌, true, length}
use Rattle.mod_signing.{specs.Rings.is_set, proofs.PlaceLemmas.marked}
use Rattle.mod_signing.proofs.walk.mark_row.Given as goal

abbrev pub invariant-loop-place : goal.invariant-loop-place
invariant-loop-place l = record {
  marked : l.votes ≡ marked l.row l.end l.place;
  within : l.place ≤ l.end;
  set : l.place < l.end → is_set l.row l.place ≡ true;
  all : length l.votes ≡ l.end;
}

abbrev pub decreases-loop-place : goal.decreases-loop-place
decreases-loop-place l = l.end - l.place
