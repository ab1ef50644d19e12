-- What rounding keeps: of a slash the fraction and the burn, and of issued shares the tokens per share.
use Rattle.std.specs.Prelude.{◌≡◌, ℕ, ◌+◌, ◌*◌, ◌^◌, ◌<◌, ◌≤◌, Ok}
use Rattle.base_decimals.specs.Rounding.{cut}
use Rattle.base_decimals.specs.Decimals.{quo_up_of}
use Rattle.base_decimals.specs.Fractions.{fraction_of, IsAtMost, IsBelow}
use Rattle.base_shares.specs.Shares.{issued_shares}
use Rattle.base_shares.specs.Burns.{recorded_fraction, ratio_of, unit, plus}

-- a burn of these tokens has a recorded fraction that is a decimal, at least the exact one, less than one unit above it
-- and at most 1
pub record IsRecordedAbove (burn tokens : ℕ) : Type 0 where
  pub fits : quo_up_of (burn * 10 ^ 18) (tokens * 10 ^ 18) ≡ Ok (recorded_fraction burn tokens)
  pub at_least : IsAtMost (ratio_of burn tokens) (fraction_of (recorded_fraction burn tokens))
  pub within_a_unit : IsBelow (fraction_of (recorded_fraction burn tokens)) (plus (ratio_of burn tokens) unit)
  pub at_most_one : recorded_fraction burn tokens ≤ 10 ^ 18

-- of at most 10^18 tokens each burn is recorded so
abbrev pub FractionIsJustAbove : Type 0
FractionIsJustAbove = (burn tokens : ℕ) → burn ≤ tokens → 0 < tokens → tokens ≤ 10 ^ 18 → IsRecordedAbove burn tokens

-- the recorded fraction of the tokens, cut to a whole number, is what was burned
abbrev pub FractionGivesBurn : Type 0
FractionGivesBurn =
    (burn tokens : ℕ) → burn ≤ tokens → 0 < tokens → tokens ≤ 10 ^ 18
    → cut (recorded_fraction burn tokens * tokens) (10 ^ 18) ≡ burn

-- the tokens per share are not lowered by an amount and the shares issued for it
abbrev pub IssueNeverLowers : Type 0
IssueNeverLowers =
    (tokens shares amount issued : ℕ) → 0 < tokens → 0 < shares → issued_shares tokens shares amount ≡ Ok issued
    → IsAtMost (ratio_of tokens shares) (ratio_of (tokens + amount) (shares + issued))
