use Rattle.std.proofs.Common.{◌≡◌, ◌+◌, ◌*◌, ◌≤◌, length, drop}
use Rattle.base_roles.specs.{Ground.seen, Log.Log}
use Rattle.mod_staking.specs.Scenes.{IsHooked}
use Rattle.rule_modules.specs.BondedSet.{HaveOwnOperators}
use Rattle.mod_bonded_set.{specs.{Calls.AllStays, Sets.{AllStand, all_joined}}, proofs.JoinedLemmas.HasJoined}
use Rattle.mod_bonded_set.proofs.LoopLemmas.{fine}
use Rattle.mod_bonded_set.proofs.updating.join_all.Given as goal

abbrev pub invariant-loop-v : goal.invariant-loop-v
invariant-loop-v g l = record {
  within : l.v-index ≤ length l.joining;
  joined : (h : g.H.StakingHooks.Held) → g.H.StakingHooks.holds l.fn.hooks h → (log : Log)
      → HasJoined g.H.StakingHooks.tells (g.H.StakingHooks.holds l.hooks) h log l.fn.staking.staked (seen g.B.Bank.holdings l.fn.g) l.joining (drop l.v-index l.joining) l.staking.staked (seen g.B.Bank.holdings l.g);
  staked : all_joined (drop l.v-index l.joining) l.staking.staked ≡ all_joined l.joining l.fn.staking.staked;
  hooked : IsHooked g.H.StakingHooks.tells (g.H.StakingHooks.holds l.hooks) (seen g.B.Bank.holdings l.g) l.staking.staked;
  stand : AllStand l.staking.staked (drop l.v-index l.joining);
  apart : HaveOwnOperators (drop l.v-index l.joining);
  stays : AllStays g.B.Bank.marks g.B.Bank.most_steps g.H.StakingHooks.marks l.fn.g l.g l.fn.hooks l.hooks l.fn.staking l.staking fine;
  cost : (h : g.H.StakingHooks.Held) → g.H.StakingHooks.holds l.fn.hooks h → l.steps ≤ l.fn.steps + l.v-index * (9 + g.H.StakingHooks.tells.most_steps h);
}
