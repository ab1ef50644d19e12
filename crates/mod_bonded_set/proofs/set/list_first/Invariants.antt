use Rattle.std.proofs.Common.{◌+◌, ◌*◌, ◌≤◌, option_map}
use Rattle.mod_staking.specs.Places.{standing}
use Rattle.mod_bonded_set.proofs.{SetLemmas.by_place, PassedLemmas.Passed}
use Rattle.mod_bonded_set.proofs.set.list_first.Given as goal

abbrev pub invariant-loop-passed : goal.invariant-loop-passed
invariant-loop-passed g l = record {
  passed : Passed (by_place l.power_reduction l.staking.staked.validators) l._passed l.list.items (option_map standing l.last);
  cost : l.steps ≤ l.fn.steps + 2 * l._passed;
}
