-- What staking keeps meets its conditions.
use Rattle.mod_staking.specs.Calls.{IsSoundStake}
use Rattle.rule_modules.specs.Slashing.{Core}

-- Validators and delegations, unbonding entries and redelegation entries meet each their own condition.
pub record IsSoundCore {U R : Type 0} (unbondings : U → Type 0) (redelegations : R → Type 0) (c : Core U R) : Type 0 where
  pub staked : IsSoundStake c.staked
  pub of_unbondings : unbondings c.unbondings
  pub of_redelegations : redelegations c.redelegations
