use Rattle.std.proofs.Common.{◌≡◌, ◌⊎◌, ◌-◌, ◌%◌, ◌≤◌, length}
use Rattle.mod_signing.proofs.PlaceLemmas.{ring_marked}
use Rattle.mod_signing.proofs.walk.mark_ring.Given as goal

abbrev pub invariant-loop-from : goal.invariant-loop-from
invariant-loop-from g l = record {
  marked : l.votes ≡ ring_marked l.rows.entries l.cons (length l.fn.votes) l.from;
  all : length l.votes ≡ length l.fn.votes;
  whole : (l.from % 128 ≡ 0) ⊎ (l.from ≡ length l.fn.votes);
  within : l.from ≤ length l.fn.votes;
}

abbrev pub decreases-loop-from : goal.decreases-loop-from
decreases-loop-from g l = length l.votes - l.from
