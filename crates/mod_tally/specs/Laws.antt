-- Laws of the tally, as statements.
use Rattle.std.specs.Prelude.{◌≡◌, ℕ, ◌<◌}
use Rattle.base_decimals.specs.Fractions.{fraction_of}
use Rattle.base_roles.specs.Staked.{Staked}
use Rattle.rule_modules.specs.Chain.{State}
use Rattle.rule_modules.specs.Sound.{IsSound}
use Rattle.rule_machine.specs.Items.{items_of}
use Rattle.mod_tally.specs.declared.choice.Choice.{Choice}
use Rattle.mod_tally.specs.Ballots.{Chosen}
use Rattle.mod_tally.specs.Exact.{DifferBelow, exact_of, values_of_total}
use Rattle.mod_tally.specs.Taken.{CanBeTallied, staked_in}
use Rattle.mod_tally.specs.Tally.{total_of}

-- A total differs from the exact value of what is given to its choice by less than a unit of 10^-18
-- for each value that was summed up.
pub record IsNearExact (s : Staked) (chosen : Chosen) (choice : Choice) : Type 0 where
  pub some : 0 < (exact_of s chosen choice).denominator
  pub differ :
      DifferBelow (values_of_total s chosen choice) (fraction_of (total_of s chosen choice))
      (exact_of s chosen choice)

-- each total does
abbrev pub TotalsAreNearExact : Type 0
TotalsAreNearExact =
    (s : Staked) (chosen : Chosen) (choice : Choice) → CanBeTallied s → IsNearExact s chosen choice

-- The items of a sound state tell its validators and delegations, of which a tally can be taken.
pub record IsTallied (w : State) : Type 0 where
  pub told : staked_in (items_of w) ≡ w.mine.staked
  pub can : CanBeTallied (staked_in (items_of w))

abbrev pub SoundStatesAreTallied : Type 0
SoundStatesAreTallied = (w : State) → IsSound w → IsTallied w
