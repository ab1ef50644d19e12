use Rattle.std.proofs.Common.{◌≡◌, ◌+◌, ◌*◌, ◌≤◌, ◌++◌, length}
use Rattle.base_records.proofs.WalkLemmas.{left_of}
use Rattle.mod_staking.specs.Places.{time_cmp, maturing_place, in_order}
use Rattle.mod_bonded_set.specs.Sets.{due_in}
use Rattle.mod_bonded_set.proofs.maturing.queued.Given as goal

abbrev pub invariant-loop-v : goal.invariant-loop-v
invariant-loop-v g l =
    let queue = in_order time_cmp (maturing_place l.staking.power_reduction) l.staking.staked.validators in
    record {
      told : l.due.items ++ due_in l.now (left_of time_cmp queue l.after) ≡ due_in l.now queue;
      cost : l.steps ≤ l.fn.steps + 2 * length l.due.items;
    }

abbrev pub decreases-loop-v : goal.decreases-loop-v
decreases-loop-v g l = length (left_of time_cmp (in_order time_cmp (maturing_place l.staking.power_reduction) l.staking.staked.validators) l.after)
