-- What the tests of distribution tell of rewards: that their plain periods are sound, and that the lists are what F1 keeps of
-- them.
use Rattle.std.specs.Prelude.{◌≡◌, true}
use Rattle.rule_modules.specs.Chain.{shared_in}
use Rattle.rule_modules.specs.Sound.{RewardsAreSound}
use Rattle.mod_periods.specs.Kept.{Kept}
use Rattle.mod_periods.specs.Stands.{KeepsRewards}
use Rattle.store_records.specs.Plain.{SharedSeen, PlainSeen, AreAscending}
use Rattle.store_records.specs.States.{state_of}
use Rattle.store_soundness.specs.Ranges.{are_currents_in_range}
use Rattle.store_soundness.specs.Sound.{are_rewards_sound}
use Rattle.law_records.specs.Coins.{AreCoins}

-- the lists as F1 keeps them
abbrev pub kept_rewards : SharedSeen → Kept
kept_rewards s =
    record { current = s.currents; historical = s.histories; starts = s.starts; events = s.events }

-- Keys ascend, coins are coins, periods that run are in their range, and the tests of distribution pass.
pub record AreRewardsTested (r : PlainSeen) : Type 0 where
  pub ascend : AreAscending r.lists
  pub coins : AreCoins r
  pub ranges : are_currents_in_range r.lists.shared.currents ≡ true
  pub passed : are_rewards_sound r ≡ true

-- the periods and starts of their plain state are sound
abbrev pub RewardsAreSoundByTests : Type 0
RewardsAreSoundByTests =
    (r : PlainSeen) → AreRewardsTested r → RewardsAreSound r.ctx.height (shared_in (state_of r)).rewards

-- the lists stand for the rewards of their plain state
abbrev pub RewardsAreKeptByTests : Type 0
RewardsAreKeptByTests =
    (r : PlainSeen) → AreRewardsTested r
    → KeepsRewards (kept_rewards r.lists.shared) (shared_in (state_of r)).rewards
