-- Worked rows: two histories of a validator, each of fitting deeds, and what they come to.
use Rattle.std.specs.Prelude.{◌≡◌, ◌≢◌, ℕ, ◌*◌, ◌^◌, ◌≤◌, List, [], ◌∷◌, ◌++◌, map, Option, Some, None}
use Rattle.base_decimals.specs.Fractions.{Fraction, IsAtMost}
use Rattle.base_coins.specs.Coins.{Money, amount_of}
use Rattle.base_roles.specs.declared.facts.Fact.TheVariants as fact
use Rattle.base_roles.specs.Log.{Log}
use Rattle.base_roles.specs.Log as log
use Rattle.base_roles.specs.Staked.{Staked, delegation}
use Rattle.base_shares.specs.Burns.{ratio_of}
use Rattle.rule_modules.specs.Fixtures.{addr, uatom, decimals}
use Rattle.rule_modules.specs.Ideal.{Span, span_of, ideal_reward}
use Rattle.law_rewards.specs.Account.{Account, Deed, AreFitting, new_account, account_of, reward_now}
use Rattle.law_rewards.specs.Account as deed
use Rattle.law_rewards.specs.Laws.{overclaim}
use Rattle.law_rewards.specs.Running.{RunExactlyWhereHeld}
use Rattle.law_rewards.specs.Withdrawals.{IsFairReward, IsFairEntry, AreFair, IsSent, reward_paid, payments_of}

-- the end of a period without rewards
abbrev pub quiet_end : Deed
quiet_end = deed.ending [] []

-- ---- a delegation that is slashed twice

-- The validator that a delegation was redelegated to, as the worked row of the rules has it: it has 1,000,000; another
-- 1,000,000 come at height 5. At height 8 the slash of the source takes 50,000 of these, and then the validator itself
-- loses 100,000 of its 1,950,000.
abbrev pub twice_slashed : List Deed
twice_slashed =
    quiet_end
    ∷ deed.issue 1000000 (1000000 * 10 ^ 18)
    ∷ deed.beginning 0 (addr 2) (1000000 * 10 ^ 18)
    ∷ deed.block 5
    ∷ quiet_end
    ∷ deed.issue 1000000 (1000000 * 10 ^ 18)
    ∷ deed.beginning 1 (addr 3) (1000000 * 10 ^ 18)
    ∷ deed.block 8
    ∷ quiet_end
    ∷ deed.payment 1 (addr 3) [] []
    ∷ deed.beginning 1 (addr 3) (950000 * 10 ^ 18)
    ∷ deed.removal (50000 * 10 ^ 18)
    ∷ deed.slash 100000 [] []
    ∷ []

-- a fee of 1,850 is allocated in the next block, and the period ends: a ratio of 0.001
abbrev pub fees_behind : List Deed
fees_behind =
    deed.block 9
    ∷ deed.allocation 0 (decimals (1850 * 10 ^ 18)) (decimals (1850 * 10 ^ 18))
    ∷ deed.ending (decimals (10 ^ 15)) (decimals (10 ^ 15))
    ∷ []

-- after the slashes, and after the fees
abbrev pub slashed_account : Account
slashed_account = account_of uatom (new_account 0) twice_slashed

abbrev pub paid_account : Account
paid_account = account_of uatom slashed_account fees_behind

-- the rewards of all starts
abbrev pub rewards_of : Account → List ℕ
rewards_of a = map (reward_now uatom a) a.starts

-- the ideal reward of a delegator, and 0 / 0 without a span
abbrev pub ideal_in : Option Span → Fraction
ideal_in None = ratio_of 0 0
ideal_in (Some span) = ideal_reward uatom span

abbrev pub ideal_of_delegator : List ℕ → Account → Fraction
ideal_of_delegator who a = ideal_in (span_of who a.history None)

-- two fractions of one value
abbrev pub IsWorth : Fraction → Fraction → Type 0
IsWorth p q = IsAtMost p q × IsAtMost q p

-- In the block of the slashes the delegation that started there has no reward. With the fees it has
-- 901.282051282051281150, and its ideal reward is 1,850 * 950,000 / 1,950,000, which is 901.282051282051282051..
pub record SlashedTwice : Type 0 where
  pub fits : AreFitting uatom (new_account 0) (twice_slashed ++ fees_behind)
  pub tokens_are : paid_account.tokens ≡ 1850000
  pub at_once : rewards_of slashed_account ≡ 0 ∷ 0 ∷ []
  pub later : rewards_of paid_account ≡ 948717948717948717000 ∷ 901282051282051281150 ∷ []
  pub ideal : IsWorth (ideal_of_delegator (addr 3) paid_account) (ratio_of (1850 * 950000) 1950000)

-- ---- a history whose last payment is cut

-- a payment of the first start, which starts anew with fewer shares; the shares that it lost leave
abbrev pub undelegates_one : ℕ → ℕ → List Deed
undelegates_one height shares =
    deed.block height
    ∷ quiet_end
    ∷ deed.payment 0 (addr 4) [] []
    ∷ deed.beginning 0 (addr 4) shares
    ∷ deed.removal 2127659574468085106
    ∷ []

-- four delegations of 792, 63, 52 and 93; a slash of 530 of these 1,000; six times a delegator undelegates 1
abbrev pub before_the_fee : List Deed
before_the_fee =
    quiet_end ∷ deed.issue 792 (792 * 10 ^ 18) ∷ deed.beginning 0 (addr 1) (792 * 10 ^ 18)
    ∷ quiet_end ∷ deed.issue 63 (63 * 10 ^ 18) ∷ deed.beginning 0 (addr 2) (63 * 10 ^ 18)
    ∷ quiet_end ∷ deed.issue 52 (52 * 10 ^ 18) ∷ deed.beginning 0 (addr 3) (52 * 10 ^ 18)
    ∷ quiet_end ∷ deed.issue 93 (93 * 10 ^ 18) ∷ deed.beginning 0 (addr 4) (93 * 10 ^ 18)
    ∷ deed.block 1 ∷ deed.slash 530 [] []
    ∷ undelegates_one 2 90872340425531914894
    ++ undelegates_one 3 88744680851063829788
    ++ undelegates_one 4 86617021276595744682
    ++ undelegates_one 5 84489361702127659576
    ++ undelegates_one 6 82361702127659574470
    ++ undelegates_one 7 80234042553191489364

-- the ratio of the fee: 9 * 10^17 by 464 tokens
abbrev pub fee_ratio : Money
fee_ratio = decimals 1939655172413793103448275862068965

-- the end of a period behind it
abbrev pub later_end : Deed
later_end = deed.ending [] fee_ratio

-- the payment of the start at a place to its delegator, with its reward and what is outstanding
abbrev pub pays : ℕ → ℕ → ℕ → ℕ → Deed
pays place delegator full outstanding =
    deed.payment place (addr delegator) (decimals full) (decimals outstanding)

-- a fee of 9 * 10^17, a slash of 46 of the 464 tokens, and three of the four withdraw; the fourth is about to
abbrev pub behind_the_fee : List Deed
behind_the_fee =
    deed.block 8
    ∷ deed.allocation 0 (decimals (9 * 10 ^ 35)) (decimals (9 * 10 ^ 35))
    ∷ deed.slash 46 fee_ratio fee_ratio
    ∷ deed.block 9
    ∷ later_end ∷ pays 3 1 722017241379310344827586206896551531 900000000000000000000000000000000000
    ∷ later_end ∷ pays 2 2 57433189655172413793103448275862053 177982758620689655172413793103448469
    ∷ later_end ∷ pays 1 3 47405172413793103448275862068965504 120549568965517241379310344827586416
    ∷ later_end
    ∷ []

abbrev pub cut_account : Account
cut_account = account_of uatom (new_account 0) (before_the_fee ++ behind_the_fee)

-- The last reward exceeds what is outstanding by 1.94 * 10^15 units, within the overclaim of 1.16 * 10^16.
pub record LastPaymentIsCut : Type 0 where
  pub fits : AreFitting uatom (new_account 0) (before_the_fee ++ behind_the_fee)
  pub last : rewards_of cut_account ≡ 73144396551724137932974137931034463 ∷ []
  pub outstanding : cut_account.outstanding ≡ 73144396551724137931034482758620912
  pub over : overclaim uatom cut_account ≡ 11637931034482758620689655172413790

-- ---- withdrawals that are not fair

-- A validator with 100 tokens, all of one delegation, which the fees of 50 went to; then a withdrawal ends the period.
abbrev pub shared_fees : Log
shared_fees =
    (addr 1, log.made)
    ∷ (addr 1, log.ended 1 [] 0)
    ∷ (addr 1, log.started (addr 2) (100 * 10 ^ 18) 100 (100 * 10 ^ 18) (100 * 10 ^ 18))
    ∷ (addr 1, log.allocated ((uatom, 50 * 10 ^ 18) ∷ []) ((uatom, 50 * 10 ^ 18) ∷ []) 100)
    ∷ (addr 1, log.ended 2 ((uatom, 5 * 10 ^ 17) ∷ []) 100)
    ∷ []

-- There a withdrawal that pays nothing is not fair,
abbrev pub NothingIsUnfair : Type 0
NothingIsUnfair =
    (full outstanding : Money) → amount_of (reward_paid full outstanding) uatom ≡ 0
    → IsFairReward shared_fees (addr 2) (addr 1) full outstanding → ⊥

-- nor is one that pays twice as much,
abbrev pub TwiceIsUnfair : Type 0
TwiceIsUnfair =
    (full outstanding : Money) → 100 * 10 ^ 18 ≤ amount_of (reward_paid full outstanding) uatom
    → IsFairReward shared_fees (addr 2) (addr 1) full outstanding → ⊥

-- nor is one that says that another amount was outstanding,
abbrev pub OtherOutstandingIsUnfair : Type 0
OtherOutstandingIsUnfair =
    (full outstanding : Money) → amount_of outstanding uatom ≢ 50 * 10 ^ 18
    → IsFairReward shared_fees (addr 2) (addr 1) full outstanding → ⊥

-- the log behind the withdrawal of the 50
abbrev pub fees_withdrawn : Log
fees_withdrawn = shared_fees ++ (
  addr 1,
  log.withdrawn (addr 2) (addr 2) ((uatom, 50 * 10 ^ 18) ∷ []) ((uatom, 50 * 10 ^ 18) ∷ []),
) ∷ []

-- nor is a second one, whatever it pays,
abbrev pub AgainIsUnfair : Type 0
AgainIsUnfair =
    (full outstanding : Money) → IsFairReward fees_withdrawn (addr 2) (addr 1) full outstanding → ⊥

-- nor a new start of the delegation whose reward was not withdrawn.
abbrev pub UnpaidStartIsUnfair : Type 0
UnpaidStartIsUnfair =
    (shares tokens all stake : ℕ)
    → IsFairEntry shared_fees (addr 1) (log.started (addr 2) shares tokens all stake) → ⊥

-- Nor is a payment of coins that is told before they are sent.
abbrev pub UnsentIsUnfair : Type 0
UnsentIsUnfair =
    (who operator to : List ℕ) (reward coins : Money) → coins ≢ []
    → IsSent [] (fact.Paid who operator to reward coins) → ⊥

-- A rule that pays nothing for the last delegation of a validator that goes with it: the period ends,
-- the shares leave, and the start is dropped.
abbrev pub unpaid_leave : Log
unpaid_leave = (addr 1, log.left) ∷ []

-- Each entry that it logs is fair, and no payment is due by them; but by the log the delegator's
-- rewards still run, where it has no delegation.
pub record GoneUnpaidIsUnfair : Type 0 where
  pub entries : AreFair shared_fees unpaid_leave
  pub payments : payments_of unpaid_leave ≡ []
  pub refused : (s : Staked) → delegation s (addr 2) (addr 1) ≡ None
      → RunExactlyWhereHeld s (shared_fees ++ unpaid_leave) → ⊥
