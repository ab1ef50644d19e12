-- The scene that the calls of unbonding act on.
use Rattle.base_roles.specs.Hooks.{Tells}
use Rattle.base_roles.specs.Staked.{Staked}
use Rattle.base_roles.specs.World.{View}
use Rattle.rule_modules.specs.Unbondings.{UnbondingLists}
use Rattle.mod_staking.specs.Scenes.{IsHooked}
use Rattle.mod_unbonding.specs.Calls.{AreSoundLists, HoldsEntries}

-- Entries beside validators and delegations, over a ground.
pub record IsUnbondingScene {H : Type 0} (tells : Tells H) (holds : H → Type 0) (v : View) (s : Staked) (u : UnbondingLists) : Type 0 where
  -- staking's records are sound, and the hooks stand for them
  pub hooked : IsHooked tells holds v s
  -- the entries are sound
  pub entries : AreSoundLists u
  -- each staking account holds at least what is owed from it to validators and to entries
  pub accounts : HoldsEntries v s u
