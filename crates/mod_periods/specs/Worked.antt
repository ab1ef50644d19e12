-- Worked rows of references, stakes and rewards.
use Rattle.std.specs.Prelude.{◌≡◌, ℕ, ◌*◌, ◌^◌, List, [], ◌∷◌, replicate, codes, Option, Some, None, Result, Ok, Err, option_map}
use Rattle.base_decimals.specs.declared.over.Over.{Over}
use Rattle.base_types.specs.Orders.{addr_cmp}
use Rattle.base_coins.specs.Coins.{Money}
use Rattle.base_roles.specs.declared.entities.StartingInfo.{StartingInfo}
use Rattle.base_roles.specs.Entries.{at}
use Rattle.base_roles.specs.Flow.{◌>>=◌}
use Rattle.rule_modules.specs.Periods.{Periods, Rewards, initial_records, period_ended, event_recorded, periods_of, last_ended, slashed_stake, reward_of, with_periods, without_periods, with_start, without_start}
use Rattle.mod_periods.specs.Stands.{references_at, started_at}

abbrev pub validator : List ℕ
validator = replicate 20 1

abbrev pub delegator : List ℕ
delegator = replicate 20 9

-- so many units of uatom, each 10^-18
abbrev pub atoms : ℕ → Money
atoms n = (codes "uatom", n) ∷ []

-- ---- references, call by call, where all increments are empty

-- the period that runs, and how many refer to the periods 0 to 3
abbrev pub counts : Rewards → Option ℕ × List ℕ
counts r = (
  option_map (λ p. p.current) (at addr_cmp r.periods validator),
  references_at r validator 0 ∷ references_at r validator 1 ∷ references_at r validator 2 ∷ references_at r validator 3 ∷ [],
)

-- the validator's period ends with nothing
abbrev pub with_ended : Result (Money × Periods) Over → Rewards → Rewards
with_ended (Ok ended) r = with_periods validator ended.1 r
with_ended (Err over) r = r

abbrev pub ended : Rewards → Rewards
ended r = with_ended (period_ended [] (periods_of r validator)) r

abbrev pub begun : Rewards
begun = with_periods validator initial_records (record { periods = []; starts = [] })

abbrev pub started : Rewards
started = let r = ended begun in with_start delegator validator (started_at (periods_of r validator) (10 ^ 18) 5) r

abbrev pub slashed : Rewards
slashed = let r = ended started in with_periods validator (event_recorded 6 (10 ^ 17) (periods_of r validator)) r

abbrev pub stopped : Rewards
stopped = without_start delegator validator slashed

abbrev pub CountsOnceBegun : Type 0
CountsOnceBegun = counts begun ≡ (Some 1, 1 ∷ 0 ∷ 0 ∷ 0 ∷ [])

abbrev pub CountsOnceEnded : Type 0
CountsOnceEnded = counts (ended begun) ≡ (Some 2, 0 ∷ 1 ∷ 0 ∷ 0 ∷ [])

abbrev pub CountsOnceStarted : Type 0
CountsOnceStarted = counts started ≡ (Some 2, 0 ∷ 2 ∷ 0 ∷ 0 ∷ [])

abbrev pub CountsOnceEndedAgain : Type 0
CountsOnceEndedAgain = counts (ended started) ≡ (Some 3, 0 ∷ 1 ∷ 1 ∷ 0 ∷ [])

abbrev pub CountsOnceSlashed : Type 0
CountsOnceSlashed = counts slashed ≡ (Some 3, 0 ∷ 1 ∷ 2 ∷ 0 ∷ [])

abbrev pub CountsOnceStopped : Type 0
CountsOnceStopped = counts stopped ≡ (Some 3, 0 ∷ 0 ∷ 2 ∷ 0 ∷ [])

abbrev pub CountsOnceEndedLast : Type 0
CountsOnceEndedLast = counts (ended stopped) ≡ (Some 4, 0 ∷ 0 ∷ 1 ∷ 1 ∷ [])

abbrev pub CountsOnceCleared : Type 0
CountsOnceCleared = counts (without_periods validator (ended stopped)) ≡ (None, 0 ∷ 0 ∷ 0 ∷ 0 ∷ [])

-- ---- rewards

-- what a stake that starts at height 1 earns up to height 2, where the next period ends with this ratio
abbrev pub earns : ℕ → ℕ → Result Money Over
earns ratio stake = do
  ended ← period_ended (atoms ratio) initial_records
  reward_of (started_at initial_records stake 1) ended.1 (last_ended ended.1) 2 stake

-- of 882 units, stakes of 1,000,000 and 2,000,000 have 294 and 588
abbrev pub SharedWithoutRest : Type 0
SharedWithoutRest =
    (earns (294 * 10 ^ 12) (10 ^ 6 * 10 ^ 18) ≡ Ok (atoms (294 * 10 ^ 18)))
    × (earns (294 * 10 ^ 12) (2 * 10 ^ 6 * 10 ^ 18) ≡ Ok (atoms (588 * 10 ^ 18)))

-- of 1,000 units they have 333.333333333333 and 666.666666666666, and 10^-12 stays
abbrev pub SharedWithRest : Type 0
SharedWithRest =
    (earns 333333333333333 (10 ^ 6 * 10 ^ 18) ≡ Ok (atoms (333333333333333 * 10 ^ 6)))
    × (earns 333333333333333 (2 * 10 ^ 6 * 10 ^ 18) ≡ Ok (atoms (666666666666666 * 10 ^ 6)))

-- a stake of 1, of which one of three burns, is 0.666666666666666666
abbrev pub StakeIsCut : Type 0
StakeIsCut = slashed_stake (10 ^ 18) 333333333333333334 ≡ 666666666666666666

-- a slash at the height of the start cuts what the stake earns behind it, and at the height of the start nothing is earned
abbrev pub once_slashed : Periods
once_slashed = record {
  current = 3;
  ratios = (2, atoms (10 ^ 18)) ∷ (1, []) ∷ (0, []) ∷ [];
  events = record { height = 4; period = 1; fraction = 333333333333333334 } ∷ [];
}

abbrev pub SlashAtStart : Type 0
SlashAtStart =
    let s : StartingInfo = record { period = 0; stake = 10 ^ 18; height = 4 } in
    (reward_of s once_slashed 2 5 (10 ^ 18) ≡ Ok (atoms 666666666666666666))
    × (reward_of s once_slashed 2 4 (10 ^ 18) ≡ Ok [])

-- in the last stretch a stake is at most the value of the shares
abbrev pub StakeAtMostValue : Type 0
StakeAtMostValue = reward_of (record { period = 0; stake = 10 ^ 18; height = 4 }) once_slashed 2 5 (5 * 10 ^ 17) ≡ Ok (atoms (5 * 10 ^ 17))
