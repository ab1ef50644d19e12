-- One validator and one denomination: what its records hold, what happened to it, and each deed of the rules that changes
-- either. Amounts, shares, stakes and ratios are decimals, each as its number of units of 10^-18; tokens are whole.
-- (Cosmos SDK, `x/distribution/keeper`; Ojha and Goes, F1 fee distribution.)
use Rattle.std.specs.Prelude.{ℕ, zero, suc, ◌+◌, ◌-◌, ◌*◌, ◌^◌, ◌==◌, ◌≤◌, ◌<◌, ◌≡◌, ◌≢◌, min, if◌then◌else◌, List, [], ◌∷◌, ◌++◌, length, map, sum, Option, Some, None, Ok}
use Rattle.std.specs.List.{AllByRecursion, slice_get, insert, remove}
use Rattle.base_decimals.specs.Rounding.{cut}
use Rattle.base_decimals.specs.Decimals.{digits_36}
use Rattle.base_coins.specs.Coins.{Money, amount_of}
use Rattle.base_shares.specs.Shares.{issued_shares, value_cut_of, value_even_of, amount_out}
use Rattle.base_roles.specs.declared.entities.StartingInfo.{StartingInfo}
use Rattle.base_roles.specs.Log.{LogEntry}
use Rattle.base_roles.specs.Log as log
use Rattle.rule_modules.specs.Periods.{Periods, Stretch, initial_records, ratio_at, last_ended, event_recorded, stretches_of}
use Rattle.rule_modules.specs.Slashing.{slash_fraction}

-- a delegation whose rewards run: the delegator, the shares, and where its rewards begin
pub record Start : Type 0 where
  pub who : List ℕ
  pub shares : ℕ
  pub info : StartingInfo

-- A validator: the height, its tokens and shares, its periods and the starts of its delegations; of one denomination the
-- current rewards, the commission and what is outstanding; and what happened since it was created, the latest last.
pub record Account : Type 0 where
  pub height : ℕ
  pub tokens : ℕ
  pub shares : ℕ
  pub current : ℕ
  pub commission : ℕ
  pub outstanding : ℕ
  pub periods : Periods
  pub starts : List Start
  pub history : List LogEntry

-- a validator that was just created at a height
abbrev pub new_account : ℕ → Account
new_account height = record {
  height = height;
  tokens = 0;
  shares = 0;
  current = 0;
  commission = 0;
  outstanding = 0;
  periods = initial_records;
  starts = [];
  history = [];
}

-- all shares whose rewards run
abbrev pub counted_shares : Account → ℕ
counted_shares a = sum (map (λ s. s.shares) a.starts)

-- ---- the reward in one denomination

-- the ratio of a period in a denomination
abbrev pub ratio_in : List ℕ → Periods → ℕ → ℕ
ratio_in d p period = amount_of (ratio_at p.ratios period) d

-- the product of two decimals, cut
abbrev pub product_cut : ℕ → ℕ → ℕ
product_cut a b = cut (a * b) (10 ^ 18)

-- what stretches give: the growth of the ratio over each times its stake, cut
abbrev pub earned_in : (ℕ → ℕ) → List Stretch → ℕ
earned_in ratio ts = sum (map (λ t. product_cut (ratio t.last - ratio t.after) t.stake) ts)

-- The reward of a start up to a period that ended, at a height, for shares of this value; nothing where the start has
-- this height (`CalculateDelegationRewards`).
abbrev pub reward_in : List ℕ → StartingInfo → Periods → ℕ → ℕ → ℕ → ℕ
reward_in d s p ending height value =
    if s.height == height then 0 else earned_in (ratio_in d p) (stretches_of s p.events ending value)

-- what a start's reward comes to, up to the last ended period
abbrev pub reward_now : List ℕ → Account → Start → ℕ
reward_now d a s = reward_in d s.info a.periods (last_ended a.periods) a.height (value_even_of a.tokens a.shares s.shares)

-- ---- the deeds

-- What the rules do to one validator: the next block; an allocation's commission, its whole and its
-- rest; the end of a period, with the increment and the new ratio; a slash, which ends the period too;
-- an amount with the shares issued for it; shares that leave; a start, at its place among the starts,
-- of a delegator's shares; the payment of the start at a place, which is then gone, with to whom it
-- goes, its full reward and what was outstanding; and the payment of commission.
pub data Deed : Type 0 where
  block : (height : ℕ) → Deed
  allocation : (commission : ℕ) (share rest : Money) → Deed
  ending : (increment ratio : Money) → Deed
  slash : (burn : ℕ) (increment ratio : Money) → Deed
  issue : (amount issued : ℕ) → Deed
  removal : (part : ℕ) → Deed
  beginning : (place : ℕ) (who : List ℕ) (shares : ℕ) → Deed
  payment : (place : ℕ) (payee : List ℕ) (full outstanding : Money) → Deed
  commission_payment : (coins : Money) → Deed

-- the increment of the ratio, the quotient of the current rewards by the tokens, cut; nothing without tokens
abbrev pub increment_of : ℕ → ℕ → ℕ
increment_of current zero = 0
increment_of current (suc t) = cut (digits_36 current (suc t * 10 ^ 18)) (10 ^ 18)

-- what goes to the pool as a period ends: without tokens the smaller of the current rewards and what is outstanding
abbrev pub lost_of : ℕ → ℕ → ℕ → ℕ
lost_of zero current outstanding = min current outstanding
lost_of (suc t) current outstanding = 0

-- a period ends (`IncrementValidatorPeriod`)
abbrev pub period_closed : Money → Money → Account → Account
period_closed increment ratio a = record a {
  current = 0;
  outstanding = a.outstanding - lost_of a.tokens a.current a.outstanding;
  periods = record {
    current = a.periods.current + 1;
    ratios = (a.periods.current, ratio) ∷ a.periods.ratios;
    events = a.periods.events;
  };
  history = a.history ++ log.ended a.periods.current increment a.tokens ∷ [];
}

-- a slash is recorded at the period that just ended, and burns (`updateValidatorSlashFraction`, `RemoveValidatorTokens`)
abbrev pub account_slashed : ℕ → Account → Account
account_slashed burn a = let fraction = slash_fraction burn a.tokens in record a {
  tokens = a.tokens - burn;
  periods = event_recorded a.height fraction a.periods;
  history = a.history ++ log.slashed burn a.tokens fraction ∷ [];
}

-- the start of a delegator's shares, with their value, cut (`initializeDelegation`)
abbrev pub start_made : Account → List ℕ → ℕ → Start
start_made a who shares = record {
  who = who;
  shares = shares;
  info = record { period = last_ended a.periods; stake = value_cut_of a.tokens a.shares shares; height = a.height };
}

-- whose a start is
abbrev pub owner_of : Option Start → List ℕ
owner_of None = []
owner_of (Some s) = s.who

-- the full reward of a start
abbrev pub full_of : List ℕ → Account → Option Start → ℕ
full_of d a None = 0
full_of d a (Some s) = reward_now d a s

-- what leaves with a payment: the reward, as far as what is outstanding goes (`withdrawDelegationRewards`)
abbrev pub payment_of : List ℕ → Account → Option Start → ℕ
payment_of d a None = 0
payment_of d a (Some s) = min (reward_now d a s) a.outstanding

-- what a deed makes of a validator, in a denomination
abbrev pub account_after : List ℕ → Account → Deed → Account
account_after d a (block height) = record a { height = height }
account_after d a (allocation commission share rest) = record a {
  current = a.current + amount_of rest d;
  commission = a.commission + commission;
  outstanding = a.outstanding + (commission + amount_of rest d);
  history = a.history ++ log.allocated share rest a.tokens ∷ [];
}
account_after d a (ending increment ratio) = period_closed increment ratio a
account_after d a (slash burn increment ratio) = account_slashed burn (period_closed increment ratio a)
account_after d a (issue amount issued) = record a { tokens = a.tokens + amount; shares = a.shares + issued }
account_after d a (removal part) = record a {
  tokens = a.tokens - amount_out a.tokens a.shares part;
  shares = a.shares - part;
  history = a.history ++ log.left ∷ [];
}
account_after d a (beginning place who shares) = record a {
  starts = insert a.starts place (start_made a who shares);
  history = a.history ++ log.started who shares a.tokens a.shares (value_cut_of a.tokens a.shares shares) ∷ [];
}
account_after d a (payment place payee full outstanding) = record a {
  outstanding = a.outstanding - payment_of d a (slice_get a.starts place);
  starts = remove a.starts place;
  history =
      a.history ++ log.withdrawn (owner_of (slice_get a.starts place)) payee full outstanding ∷ [];
}
account_after d a (commission_payment coins) = record a {
  commission = a.commission - amount_of coins d;
  outstanding = a.outstanding - amount_of coins d;
  history = a.history ++ log.commission coins ∷ [];
}

-- what deeds make of it
abbrev pub account_of : List ℕ → Account → List Deed → Account
account_of d a [] = a
account_of d a (deed ∷ deeds) = account_of d (account_after d a deed) deeds

-- ---- when a deed is fitting

-- the increment is the one of the rules, and the ratio is the last one with it
pub record IsNextRatio (d : List ℕ) (a : Account) (increment ratio : Money) : Type 0 where
  pub increment_is : amount_of increment d ≡ increment_of a.current a.tokens
  pub ratio_is : amount_of ratio d ≡ ratio_in d a.periods (last_ended a.periods) + amount_of increment d

-- a payment is of a start that stands, and tells its full reward and what is outstanding
pub record IsPaymentOf (d : List ℕ) (a : Account) (place : ℕ) (full outstanding : Money) : Type 0 where
  pub within : place < length a.starts
  pub full_is : amount_of full d ≡ full_of d a (slice_get a.starts place)
  pub outstanding_is : amount_of outstanding d ≡ a.outstanding

-- What the rules see to before each deed: heights ascend; an allocation is its commission and its
-- rest, and comes first in its block, so that no start is of its height; a slash is of at most 10^18
-- tokens and burns at most these; shares are issued and leave, and starts are made, right after a
-- period's end; all shares whose rewards run are the validator's, and nobody has two starts.
abbrev pub IsFitting : List ℕ → Account → Deed → Type 0
IsFitting d a (block height) = a.height < height
IsFitting d a (allocation commission share rest) =
    (commission + amount_of rest d ≡ amount_of share d)
    × AllByRecursion (λ s. s.info.height < a.height) a.starts
IsFitting d a (ending increment ratio) = IsNextRatio d a increment ratio
IsFitting d a (slash burn increment ratio) = IsNextRatio d a increment ratio × (0 < a.tokens) × (a.tokens ≤ 10 ^ 18) × (burn ≤ a.tokens)
IsFitting d a (issue amount issued) = (a.current ≡ 0) × (issued_shares a.tokens a.shares amount ≡ Ok issued)
IsFitting d a (removal part) = (a.current ≡ 0) × (0 < a.shares) × (counted_shares a + part ≤ a.shares)
IsFitting d a (beginning place who shares) =
    (a.current ≡ 0) × (0 < shares) × (counted_shares a + shares ≤ a.shares) × (place ≤ length a.starts)
    × AllByRecursion (λ s. who ≢ s.who) a.starts
IsFitting d a (payment place payee full outstanding) = IsPaymentOf d a place full outstanding
IsFitting d a (commission_payment coins) =
    (amount_of coins d ≤ a.commission) × (amount_of coins d ≤ a.outstanding)

-- each deed of a list is, where those before it led
abbrev pub AreFitting : List ℕ → Account → List Deed → Type 0
AreFitting d a [] = Unit {0}
AreFitting d a (deed ∷ deeds) = IsFitting d a deed × AreFitting d (account_after d a deed) deeds

-- fitting deeds lead to an account from that of a validator just created
pub record IsReached (d : List ℕ) (a : Account) : Type 0 where
  pub height : ℕ
  pub deeds : List Deed
  pub fitting : AreFitting d (new_account height) deeds
  pub is : account_of d (new_account height) deeds ≡ a
