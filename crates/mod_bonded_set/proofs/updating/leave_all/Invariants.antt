use Rattle.std.proofs.Common.{◌≡◌, ◌+◌, ◌*◌, ◌≤◌, length, drop}
use Rattle.base_roles.specs.Ground.{seen, CanBeUndone, IsInOrder}
use Rattle.rule_modules.specs.{Unbondings.completion, BondedSet.HaveOwnOperators}
use Rattle.mod_staking.specs.Calls.{IsSoundStake}
use Rattle.mod_bonded_set.specs.{Calls.RegisterStays, Sets.{AllStand, all_left, all_leavings_noted}}
use Rattle.mod_bonded_set.proofs.LoopLemmas.{fine}
use Rattle.mod_bonded_set.proofs.updating.leave_all.Given as goal

abbrev pub invariant-loop-v : goal.invariant-loop-v
invariant-loop-v g l = record {
  within : l.v-index ≤ length l.leaving;
  staked : all_left l.fn.g.ctx.height (completion l.fn.g.ctx) (drop l.v-index l.leaving) l.staking.staked ≡ all_left l.fn.g.ctx.height (completion l.fn.g.ctx) l.leaving l.fn.staking.staked;
  ground : all_leavings_noted (drop l.v-index l.leaving) (seen g.B.Bank.holdings l.g) ≡ all_leavings_noted l.leaving (seen g.B.Bank.holdings l.fn.g);
  stand : AllStand l.staking.staked (drop l.v-index l.leaving);
  apart : HaveOwnOperators (drop l.v-index l.leaving);
  sound : IsSoundStake l.staking.staked;
  in_order : IsInOrder (seen g.B.Bank.holdings l.g);
  undone : CanBeUndone g.B.Bank.marks l.fn.g l.g;
  bank : l.g.bank ≡ l.fn.g.bank;
  register : RegisterStays l.fn.staking l.staking fine;
  cost : l.steps ≤ l.fn.steps + 9 * l.v-index;
}
