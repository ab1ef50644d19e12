use Rattle.std.proofs.Common.{drop}
use Rattle.base_roles.specs.{Ground.seen, Lent.{Unbonds, Following}, Log.Log}
use Rattle.mod_staking.specs.Calls.{behind_log}
use Rattle.mod_redelegation.specs.{Scenes.{IsBothScene, AreBothSlashed, BothGoOn}, Slashed.keys_slashed}
use Rattle.mod_redelegation.proofs.ReachedLemmas.{Reached}
use Rattle.mod_redelegation.proofs.slashing.RedelegationsRedelegationSlash.slash_redelegations.Given as goal

abbrev pub invariant-loop-key : goal.invariant-loop-key
invariant-loop-key g l =
    let holdings = g.B.Bank.holdings in
    let tells = g.H.StakingHooks.tells in
    let holds = g.H.StakingHooks.holds in
    let d0 = g.D.Unbonder.held l.fn.delegations in
    let d1 = g.D.Unbonder.held l.delegations in
    let u0 = g.U.UnbondingSlash.held l.fn.unbondings in
    let u1 = g.U.UnbondingSlash.held l.unbondings in
    let lent : Unbonds g.D.Unbonder.Held g.H.StakingHooks.Held = record { stake = g.D.Unbonder.stake; unbond = g.D.Unbonder.unbonds g.H.StakingHooks.Held tells.told } in
    let following : Following g.U.UnbondingSlash.Held = record { follow = g.U.UnbondingSlash.follows } in
    record {
      told : (h : g.H.StakingHooks.Held) → holds l.fn.hooks h → (log : Log) → Reached (keys_slashed lent following l.infraction l.factor l.key-items l.self.lists u0 (behind_log log d0 h (seen holdings l.fn.g)))
          (keys_slashed lent following l.infraction l.factor (drop l.key-index l.key-items) l.self.lists) u1 d1 (holds l.hooks) (seen holdings l.g);
      scene : IsBothScene tells (holds l.hooks) g.D.Unbonder.sound g.D.Unbonder.stake g.U.UnbondingSlash.sound g.U.UnbondingSlash.owed (seen holdings l.g) d1 u1;
      slashed : AreBothSlashed (seen holdings l.fn.g) (seen holdings l.g) (g.D.Unbonder.stake d0) (g.D.Unbonder.stake d1) (g.U.UnbondingSlash.owed u0) (g.U.UnbondingSlash.owed u1);
      goes_on : BothGoOn g.B.Bank.marks g.B.Bank.most_steps g.H.StakingHooks.marks g.D.Unbonder.marks g.U.UnbondingSlash.marks l.fn.g l.g l.fn.hooks l.hooks l.fn.delegations l.delegations l.fn.unbondings l.unbondings;
    }
