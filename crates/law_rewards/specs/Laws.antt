-- What holds of each reached account, and what a reward in lists of coins is in one denomination.
use Rattle.std.specs.Prelude.{ℕ, ◌+◌, ◌-◌, ◌*◌, ◌^◌, ◌≤◌, ◌<◌, ◌≡◌, List, map, All, Some, None, Ok}
use Rattle.base_decimals.specs.Fractions.{Fraction, fraction_of, IsAtMost, IsBelow}
use Rattle.base_coins.specs.Coins.{Money, IsMoney, amount_of}
use Rattle.base_shares.specs.Burns.{ratio_of, unit, plus}
use Rattle.base_shares.specs.Shares.{value_cut_of, value_even_of, amount_out}
use Rattle.base_roles.specs.declared.entities.StartingInfo.{StartingInfo}
use Rattle.base_roles.specs.Log.{LogEntry}
use Rattle.rule_modules.specs.Ideal.{Span, span_of, whole, ideal_reward, Brackets, overclaim_of}
use Rattle.rule_modules.specs.Laws.{claims_of}
use Rattle.rule_modules.specs.Periods.{Periods, ratio_at, last_ended, reward_of}
use Rattle.law_rewards.specs.Account.{Account, Deed, Start, IsReached, AreFitting, new_account, account_of, reward_now, reward_in, increment_of}
use Rattle.law_rewards.specs.Sharing.{shared_among}

-- The reward of a start lies in the bracket of its span: at most the allocations since then, each shared at once by the
-- ideal stake, and lower by at most the slack.
pub record IsStartBracketed (d : List ℕ) (a : Account) (s : Start) : Type 0 where
  pub span : Span
  pub is : span_of s.who a.history None ≡ Some span
  pub brackets : Brackets d span (reward_now d a s)

-- by how much rewards may exceed what is outstanding, in units of 10^-36
abbrev pub overclaim : List ℕ → Account → ℕ
overclaim d a = overclaim_of d a.history (ratio_at a.periods.ratios (last_ended a.periods))

-- what is outstanding, with the overclaim, is at least commission, current rewards and all claims, in units of 10^-36
abbrev pub CoversClaims : List ℕ → Account → Type 0
CoversClaims d a =
    10 ^ 18 * (a.commission + a.current) + claims_of d a.periods (map (λ s. s.info) a.starts) ≤ 10 ^ 18 * a.outstanding + overclaim d a

-- what an exhausted outstanding record cuts from a start's reward is at most the overclaim
abbrev pub IsCutWithin : List ℕ → Account → Start → Type 0
IsCutWithin d a s = 10 ^ 18 * (reward_now d a s - a.outstanding) ≤ overclaim d a

-- ---- single acts

-- The value of a part of the shares: cut it is at most the exact value and less than a unit below it; half to even it is at
-- most half a unit above it and at most a unit below it.
pub record IsCloseValue (tokens shares part : ℕ) : Type 0 where
  pub cut_below : IsAtMost (fraction_of (value_cut_of tokens shares part)) (ratio_of (part * tokens) shares)
  pub cut_within : IsBelow (ratio_of (part * tokens) shares) (plus (fraction_of (value_cut_of tokens shares part)) unit)
  pub even_below : IsAtMost (fraction_of (value_even_of tokens shares part)) (plus (ratio_of (part * tokens) shares) (ratio_of 1 (2 * 10 ^ 18)))
  pub even_within : IsAtMost (ratio_of (part * tokens) shares) (plus (fraction_of (value_even_of tokens shares part)) unit)

-- values of shares are close to the exact ones
abbrev pub ValuesAreClose : Type 0
ValuesAreClose = (tokens shares part : ℕ) → 0 < shares → IsCloseValue tokens shares part

-- the increment of the ratio is at most the exact quotient of the current rewards by the tokens, and less than a unit below it
abbrev pub IncrementsAreClose : Type 0
IncrementsAreClose =
    (current tokens : ℕ) → 0 < tokens
    → (increment_of current tokens * tokens ≤ current) × (current < increment_of current tokens * tokens + tokens)

-- shares that leave lower what the others are worth together by at most half a unit
abbrev pub RemovalsLowerByHalfAUnit : Type 0
RemovalsLowerByHalfAUnit =
    (tokens shares part : ℕ) → 0 < shares → part ≤ shares
    → IsAtMost (ratio_of ((shares - part) * tokens) shares) (plus (whole (tokens - amount_out tokens shares part)) (ratio_of 1 (2 * 10 ^ 18)))

-- When periods end, who starts and whose shares leave does not move an ideal reward, nor does
-- commission: with the same allocations to delegators and slashes it is the same.
abbrev pub MomentsDoNotMatter : Type 0
MomentsDoNotMatter =
    (d : List ℕ) (first : Fraction) (es es' : List LogEntry) → shared_among es ≡ shared_among es'
    → ideal_reward d (record { first = first; entries = es }) ≡ ideal_reward d (record { first = first; entries = es' })

-- ---- the statements

-- a validator that was just created is reached
abbrev pub NewIsReached : Type 0
NewIsReached = (d : List ℕ) (height : ℕ) → IsReached d (new_account height)

-- and so is what fitting deeds lead to from what is reached
abbrev pub DeedsLeadOn : Type 0
DeedsLeadOn = (d : List ℕ) (a : Account) (deeds : List Deed) → IsReached d a → AreFitting d a deeds → IsReached d (account_of d a deeds)

-- whenever a period has just ended, the reward of each start is bracketed
abbrev pub RewardsAreBracketed : Type 0
RewardsAreBracketed = (d : List ℕ) (a : Account) → IsReached d a → a.current ≡ 0 → All (IsStartBracketed d a) a.starts

-- at each moment what is outstanding covers all claims, but for the overclaim
abbrev pub ShortfallIsBounded : Type 0
ShortfallIsBounded = (d : List ℕ) (a : Account) → IsReached d a → CoversClaims d a

-- and a payment is cut by at most that
abbrev pub CutIsBounded : Type 0
CutIsBounded = (d : List ℕ) (a : Account) → IsReached d a → All (IsCutWithin d a) a.starts

-- the reward in lists of coins is in each denomination the reward in that denomination
abbrev pub RewardsGoByDenomination : Type 0
RewardsGoByDenomination =
    (d : List ℕ) (s : StartingInfo) (p : Periods) (last height value : ℕ) (full : Money)
    → All (λ r. IsMoney r.1) p.ratios → reward_of s p last height value ≡ Ok full
    → IsMoney full × (amount_of full d ≡ reward_in d s p last height value)
