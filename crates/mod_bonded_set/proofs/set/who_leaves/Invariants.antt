use Rattle.std.proofs.Common.{◌+◌, ◌*◌, ◌≤◌, length, not, option_map}
use Rattle.base_types.specs.Orders.{addr_cmp}
use Rattle.base_records.proofs.WalkLemmas.{left_of}
use Rattle.mod_staking.specs.{Places.{standing, bonded_place, in_order}, KnownSet.is_within}
use Rattle.mod_bonded_set.proofs.PassedLemmas.{Left}
use Rattle.mod_bonded_set.proofs.set.who_leaves.Given as goal

abbrev pub invariant-loop-v : goal.invariant-loop-v
invariant-loop-v g l = record {
  left : Left (λ v. not (is_within l.power_reduction (option_map standing l.last) v)) (in_order addr_cmp (bonded_place l.power_reduction) l.staking.staked.validators) l.leaving.items l.after;
  cost : l.steps + 2 * length (left_of addr_cmp (in_order addr_cmp (bonded_place l.power_reduction) l.staking.staked.validators) l.after)
      ≤ l.fn.steps + 2 * length (in_order addr_cmp (bonded_place l.power_reduction) l.staking.staked.validators);
}

abbrev pub decreases-loop-v : goal.decreases-loop-v
decreases-loop-v g l = length (left_of addr_cmp (in_order addr_cmp (bonded_place l.power_reduction) l.staking.staked.validators) l.after)
