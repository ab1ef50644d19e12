-- What the trials of the tests keep.
use Rattle.std.specs.Prelude.{ℕ}
use Rattle.base_roles.specs.Ground.{IsInOrder}
use Rattle.base_roles.specs.Staked.{Staked}
use Rattle.base_roles.specs.World.{View}
use Rattle.rule_modules.specs.Unbondings.{UnbondingLists}
use Rattle.mod_staking.specs.Calls.{IsSoundStake}
use Rattle.mod_unbonding.specs.Calls.{AreSoundLists, AreWhole, HoldsEntries}

-- calls may be made: the records are sound, the ground is in order, and the staking accounts hold what is owed from them
pub record IsKept (u : UnbondingLists) (s : Staked) (v : View) : Type 0 where
  pub sound : IsSoundStake s
  pub in_order : IsInOrder v
  pub entries : AreSoundLists u
  pub accounts : HoldsEntries v s u

-- the same where no entry was slashed yet
pub record IsFit (u : UnbondingLists) (s : Staked) (v : View) : Type 0 where
  pub kept : IsKept u s v
  pub whole : (height : ℕ) → AreWhole height u
