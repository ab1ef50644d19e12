-- Periods, starts, slash events and the reward, as the F1 fee distribution paper has them (Ojha and Goes; `x/distribution/keeper`:
-- `validator.go`, `delegation.go`).
use Rattle.std.specs.Prelude.{ℕ, ◌+◌, ◌-◌, ◌*◌, ◌^◌, ◌==◌, ◌&&◌, min, cond, Bool, nat_lt, nat_le, if◌then◌else◌, List, [], ◌∷◌, ◌++◌, filter, map, Option, Some, None, unwrap_or, Result, Ok}
use Rattle.base_decimals.specs.declared.over.Over.{Over}
use Rattle.base_decimals.specs.Rounding.{cut}
use Rattle.base_decimals.specs.Decimals.{period_over}
use Rattle.base_types.specs.Orders.{addr_cmp}
use Rattle.base_coins.specs.Coins.{Money, coins_added, coins_taken, coins_mul_cut}
use Rattle.base_roles.specs.declared.entities.Historical.{Historical}
use Rattle.base_roles.specs.declared.entities.StartingInfo.{StartingInfo}
use Rattle.base_roles.specs.declared.entities.SlashEvent.{SlashEvent}
use Rattle.base_roles.specs.Entries.{at, with, without}
use Rattle.base_roles.specs.Orders.{pair_cmp, same_addr}
use Rattle.base_roles.specs.Flow.{◌>>=◌, ◌>>◌, stop_if}
use Rattle.rule_modules.specs.Amounts.{count_where}

-- Of one validator: the period that runs, the ratios of those that ended, the latest first, and the slash events, the
-- latest last. A ratio is the reward of one token since the validator was created.
pub record Periods : Type 0 where
  pub current : ℕ
  pub ratios : List (ℕ × Money)
  pub events : List SlashEvent

-- what rewards are told from: the periods of each operator, and where each delegation's rewards begin
pub record Rewards : Type 0 where
  pub periods : List (List ℕ × Periods)
  pub starts : List ((List ℕ × List ℕ) × StartingInfo)

-- a new validator: period 0 has ended with no reward, and period 1 runs (`initializeValidator`)
abbrev pub initial_records : Periods
initial_records = record { current = 1; ratios = (0, []) ∷ []; events = [] }

-- the periods of an operator
abbrev pub periods_of : Rewards → List ℕ → Periods
periods_of r operator = unwrap_or (at addr_cmp r.periods operator) initial_records

-- where the rewards of a delegation begin
abbrev pub start_of : Rewards → List ℕ → List ℕ → Option StartingInfo
start_of r delegator operator = at pair_cmp r.starts (operator, delegator)

-- the rewards with these periods of an operator
abbrev pub with_periods : List ℕ → Periods → Rewards → Rewards
with_periods operator p r = record r { periods = with addr_cmp r.periods operator p }

-- the rewards without those of an operator (`RemoveValidator`'s hook: `DeleteValidatorHistoricalRewards` and the others)
abbrev pub without_periods : List ℕ → Rewards → Rewards
without_periods operator r = record r { periods = without addr_cmp r.periods operator }

-- the rewards of a delegation begin anew (`SetDelegatorStartingInfo`)
abbrev pub with_start : List ℕ → List ℕ → StartingInfo → Rewards → Rewards
with_start delegator operator s r = record r { starts = with pair_cmp r.starts (operator, delegator) s }

-- no rewards of a delegation run (`DeleteDelegatorStartingInfo`)
abbrev pub without_start : List ℕ → List ℕ → Rewards → Rewards
without_start delegator operator r = record r { starts = without pair_cmp r.starts (operator, delegator) }

-- the ratio of a period, or of the nearest one below that stands
abbrev pub ratio_at : List (ℕ × Money) → ℕ → Money
ratio_at [] period = []
ratio_at (r ∷ rs) period = if nat_le r.0 period then r.1 else ratio_at rs period

-- The current period ends with an increment of the ratio (`IncrementValidatorPeriod`). Answers the new ratio. The sum
-- may be over, then the period may stand at its limit of 10^18 (own).
abbrev pub period_ended : Money → Periods → Result (Money × Periods) Over
period_ended increment p = do
  ratio ← coins_added (ratio_at p.ratios (p.current - 1)) increment
  stop_if (p.current == 10 ^ 18) period_over
  Ok (ratio, record { current = p.current + 1; ratios = (p.current, ratio) ∷ p.ratios; events = p.events })

-- the last ended period
abbrev pub last_ended : Periods → ℕ
last_ended p = p.current - 1

-- a slash at a height, recorded at the last ended period (`updateValidatorSlashFraction`)
abbrev pub event_recorded : ℕ → ℕ → Periods → Periods
event_recorded height fraction p = record p { events = p.events ++ record { height = height; period = last_ended p; fraction = fraction } ∷ [] }

-- ---- the reward

-- the periods after one up to another, through which a stake is the same
pub record Stretch : Type 0 where
  pub after : ℕ
  pub last : ℕ
  pub stake : ℕ

-- a stake after a slash, cut (`CalculateDelegationRewards`: `stake.MulTruncate(1 - fraction)`)
abbrev pub slashed_stake : ℕ → ℕ → ℕ
slashed_stake stake fraction = cut (stake * (10 ^ 18 - fraction)) (10 ^ 18)

-- Events divide the periods into stretches; in the last one the stake is at most the value of the shares (own: v0.47
-- panics where it is more than three units above).
abbrev pub stretches : ℕ → ℕ → ℕ → ℕ → List SlashEvent → List Stretch
stretches period stake ending value [] = record { after = period; last = ending; stake = min stake value } ∷ []
stretches period stake ending value (e ∷ es) =
    record { after = period; last = e.period; stake = stake } ∷ stretches e.period (slashed_stake stake e.fraction) ending value es

-- the same, where nothing limits the stake of the last one
abbrev pub unlimited_stretches : ℕ → ℕ → ℕ → List SlashEvent → List Stretch
unlimited_stretches period stake ending [] = record { after = period; last = ending; stake = stake } ∷ []
unlimited_stretches period stake ending (e ∷ es) =
    record { after = period; last = e.period; stake = stake } ∷ unlimited_stretches e.period (slashed_stake stake e.fraction) ending es

-- an event belongs to the time of a start: its height is not below, and its period is later
abbrev pub falls_after : StartingInfo → SlashEvent → Bool
falls_after s e = nat_le s.height e.height && nat_lt s.period e.period

-- the stretches of a start up to a period that ended
abbrev pub stretches_of : StartingInfo → List SlashEvent → ℕ → ℕ → List Stretch
stretches_of s events ending value = stretches s.period s.stake ending value (filter (falls_after s) events)

-- the same without a limit
abbrev pub unlimited_stretches_of : StartingInfo → List SlashEvent → ℕ → List Stretch
unlimited_stretches_of s events ending = unlimited_stretches s.period s.stake ending (filter (falls_after s) events)

-- What stretches give behind a total: the growth of the ratio over each times its stake, cut
-- (`calculateDelegationRewardsBetween`).
abbrev pub earned : (ℕ → Money) → List Stretch → Money → Result Money Over
earned ratio [] total = Ok total
earned ratio (t ∷ ts) total = do
  part ← coins_mul_cut (coins_taken (ratio t.last) (ratio t.after)) t.stake
  sum ← coins_added total part
  earned ratio ts sum

-- The reward of a start up to a period that ended, at a height, for shares of this value; nothing where the start has
-- this height (`CalculateDelegationRewards`).
abbrev pub reward_of : StartingInfo → Periods → ℕ → ℕ → ℕ → Result Money Over
reward_of s p ending height value =
    if s.height == height then Ok [] else earned (ratio_at p.ratios) (stretches_of s p.events ending value) []

-- the same, and nothing without a start
abbrev pub reward_at : Option StartingInfo → Periods → ℕ → ℕ → ℕ → Result Money Over
reward_at None p ending height value = Ok []
reward_at (Some s) p ending height value = reward_of s p ending height value

-- what the reward would be if the current period ended with this increment
abbrev pub reward_after : Option StartingInfo → Periods → Money → ℕ → ℕ → Result Money Over
reward_after s p increment height value = do
  (ratio, q) ← period_ended increment p
  reward_at s q (last_ended q) height value

-- ---- how many refer to a period

-- the starts of an operator's delegations
abbrev pub starts_of : Rewards → List ℕ → List StartingInfo
starts_of r operator = map (λ e. e.1) (filter (λ e. same_addr e.0.0 operator) r.starts)

-- The references of a period: one where it is the last ended, one for each start and each slash event at it
-- (`ValidatorHistoricalRewards.ReferenceCount`).
abbrev pub references_of : Periods → List StartingInfo → ℕ → ℕ
references_of p starts period =
    cond (p.current == period + 1) 1 0
    + (count_where (λ s. s.period == period) starts + count_where (λ e. e.period == period) p.events)

-- What is kept of a period: its ratio with the number of its references, and nothing where there are none (a record whose
-- count falls to 0 is deleted: `decrementReferenceCount`).
abbrev pub history_kept : Periods → List StartingInfo → ℕ → Option Historical
history_kept p starts period =
    let count = references_of p starts period in
    if count == 0 then None else Some (record { ratio = ratio_at p.ratios period; count = count })
