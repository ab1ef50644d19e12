use Rattle.std.proofs.Common.{◌≡◌, ◌+◌, ◌*◌, ◌≤◌, length, drop}
use Rattle.std.specs.Map.{values_of}
use Rattle.base_roles.specs.Ground.{seen}
use Rattle.rule_modules.specs.Amounts.{count_where}
use Rattle.mod_staking.specs.Scenes.{IsHooked}
use Rattle.mod_bonded_set.{specs.{Calls.AllStays, Sets.goes_at}, proofs.{MatureLemmas.AreMaturing, LoopLemmas.fine}}
use Rattle.mod_bonded_set.proofs.maturing.mature_all.Given as goal

abbrev pub invariant-loop-operator : goal.invariant-loop-operator
invariant-loop-operator g l = record {
  maturing : AreMaturing g.H.StakingHooks.tells (g.H.StakingHooks.holds l.fn.hooks) (g.H.StakingHooks.holds l.hooks) l.fn.g.ctx.time l.fn.staking.staked (seen g.B.Bank.holdings l.fn.g) (drop l.operator-index l.due) l.staking.staked (seen g.B.Bank.holdings l.g);
  hooked : IsHooked g.H.StakingHooks.tells (g.H.StakingHooks.holds l.hooks) (seen g.B.Bank.holdings l.g) l.staking.staked;
  stays : AllStays g.B.Bank.marks g.B.Bank.most_steps g.H.StakingHooks.marks l.fn.g l.g l.fn.hooks l.hooks l.fn.staking l.staking fine;
  within : l.operator-index ≤ length l.due;
  cost : count_where (goes_at l.fn.g.ctx.time) (values_of l.fn.staking.staked.validators) ≡ 0 → l.steps ≤ l.fn.steps + 10 * l.operator-index;
}
