-- Two histories of a validator with a slash, and what wrong rules would pay there.
use Rattle.std.specs.Prelude.{◌≡◌, ℕ, ◌+◌, ◌-◌, ◌*◌, ◌/◌, ◌^◌, [], ◌∷◌}
use Rattle.base_coins.specs.Coins.{Money, amount_of}
use Rattle.base_roles.specs.Log.{Log}
use Rattle.base_roles.specs.Log as log
use Rattle.rule_modules.specs.Fixtures.{addr, uatom}
use Rattle.law_rewards.specs.Withdrawals.{IsFairReward}

-- an amount, as a list of coins
abbrev pub units : ℕ → Money
units n = (uatom, n) ∷ []

-- ---- a slash that is passed over

-- A validator with 100 tokens, all of one delegation. In the block of its start a slash takes half of
-- them; then fees of 50 are shared, one for each token that is left.
abbrev pub halved : Log
halved =
    (addr 1, log.made)
    ∷ (addr 1, log.ended 1 [] 0)
    ∷ (addr 1, log.started (addr 2) (100 * 10 ^ 18) 100 (100 * 10 ^ 18) (100 * 10 ^ 18))
    ∷ (addr 1, log.ended 2 [] 100)
    ∷ (addr 1, log.slashed 50 100 (5 * 10 ^ 17))
    ∷ (addr 1, log.allocated (units (50 * 10 ^ 18)) (units (50 * 10 ^ 18)) 50)
    ∷ (addr 1, log.ended 3 (units (10 ^ 18)) 50)
    ∷ []

-- A rule that passes over the slash, since it is of the start's height, takes the whole stake times the
-- growth of the ratio.
abbrev pub passed_over : ℕ
passed_over = 100 * 10 ^ 18 * 10 ^ 18 / 10 ^ 18

-- what it withdraws is not fair
abbrev pub PassedOverIsUnfair : Type 0
PassedOverIsUnfair =
    (full outstanding : Money) → amount_of full uatom ≡ passed_over
    → IsFairReward halved (addr 2) (addr 1) full outstanding → ⊥

-- ---- a fraction that is cut

-- a third, cut, where it is to be rounded up
abbrev pub third_cut : ℕ
third_cut = 10 ^ 18 / 3

-- A validator with 3 tokens, all of one delegation. A slash takes one of them; fees of 20 are shared, ten
-- for each token that is left; and another slash takes one of the two, so that the value of the shares
-- limits the last stake alone.
abbrev pub third_taken : Log
third_taken =
    (addr 1, log.made)
    ∷ (addr 1, log.ended 1 [] 0)
    ∷ (addr 1, log.started (addr 2) (3 * 10 ^ 18) 3 (3 * 10 ^ 18) (3 * 10 ^ 18))
    ∷ (addr 1, log.ended 2 [] 3)
    ∷ (addr 1, log.slashed 1 3 third_cut)
    ∷ (addr 1, log.allocated (units (20 * 10 ^ 18)) (units (20 * 10 ^ 18)) 2)
    ∷ (addr 1, log.ended 3 (units (10 * 10 ^ 18)) 2)
    ∷ (addr 1, log.slashed 1 2 (5 * 10 ^ 17))
    ∷ (addr 1, log.ended 4 [] 1)
    ∷ []

-- the stake between the slashes by that fraction, which is one unit above 2
abbrev pub stake_between : ℕ
stake_between = 3 * 10 ^ 18 * (10 ^ 18 - third_cut) / 10 ^ 18

-- Its reward is ten units above 20, and not fair.
pub record CutFractionIsUnfair : Type 0 where
  pub stake : stake_between ≡ 2 * 10 ^ 18 + 1
  pub refused : (full outstanding : Money)
      → amount_of full uatom ≡ stake_between * (10 * 10 ^ 18) / 10 ^ 18
      → IsFairReward third_taken (addr 2) (addr 1) full outstanding → ⊥
