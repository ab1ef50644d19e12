-- What the trials of the tests keep.
use Rattle.base_roles.specs.Ground.{IsInOrder}
use Rattle.base_roles.specs.Staked.{Staked, bonded_tokens, other_tokens}
use Rattle.base_roles.specs.StakeChanges.{HoldsStake}
use Rattle.base_roles.specs.World.{View}
use Rattle.mod_staking.specs.Calls.{IsSoundStake}

-- calls may be made: the records are sound, the ground is in order, and the staking accounts hold what is owed from them
pub record IsFit (s : Staked) (v : View) : Type 0 where
  pub sound : IsSoundStake s
  pub in_order : IsInOrder v
  pub accounts : HoldsStake v (bonded_tokens s) (other_tokens s)
