-- How the records that F1 keeps stand for plain ones, of which none is ever deleted; and what sound plain records meet.
use Rattle.std.specs.Prelude.{◌≡◌, ℕ, ◌^◌, ◌<◌, ◌≤◌, ◌==◌, true, if◌then◌else◌, List, [], All, AllPairs, Option, Some, None, is_some, option_map}
use Rattle.std.specs.List.Sorted.{IsStrictlySortedBy}
use Rattle.std.specs.Map.{keys_of}
use Rattle.base_types.specs.Orders.{addr_cmp}
use Rattle.base_coins.specs.Coins.{IsMoney, amount_of}
use Rattle.base_roles.specs.declared.entities.Historical.{Historical}
use Rattle.base_roles.specs.declared.entities.StartingInfo.{StartingInfo}
use Rattle.base_roles.specs.Entries.{at}
use Rattle.base_roles.specs.Orders.{pair_cmp}
use Rattle.rule_modules.specs.Periods.{Periods, Rewards, periods_of, start_of, starts_of, ratio_at, last_ended, references_of, history_kept}
use Rattle.mod_periods.specs.Kept.{Kept, current_of, record_of, events_of}

-- What sound periods of a validator meet, with the starts of its delegations.
pub record AreSound (p : Periods) (starts : List StartingInfo) : Type 0 where
  -- a period runs, and none is above 10^18
  pub running : 1 ≤ p.current
  pub bounded : p.current ≤ 10 ^ 18
  -- nothing refers to a period that has not ended
  pub ended : (period : ℕ) → p.current ≤ period → references_of p starts period ≡ 0
  -- a slash takes at most all
  pub fractions : All (λ e. e.fraction ≤ 10 ^ 18) p.events
  -- the periods of slash events grow with their heights, and differ
  pub ascend : AllPairs (λ a b. (a.height ≤ b.height) × (a.period < b.period)) p.events
  -- ratios are lists of coins, and do not fall as the period grows
  pub coins : (period : ℕ) → IsMoney (ratio_at p.ratios period)
  pub rise : (a b : ℕ) → a ≤ b → (denom : List ℕ) → amount_of (ratio_at p.ratios a) denom ≤ amount_of (ratio_at p.ratios b) denom

-- What sound rewards meet: keys ascend, each operator's periods are sound, and a start's operator has periods.
pub record IsSound (r : Rewards) : Type 0 where
  pub operators_ascend : IsStrictlySortedBy addr_cmp (keys_of r.periods)
  pub starts_ascend : IsStrictlySortedBy pair_cmp (keys_of r.starts)
  pub periods : (operator : List ℕ) (p : Periods) → at addr_cmp r.periods operator ≡ Some p → AreSound p (starts_of r operator)
  pub started : (operator delegator : List ℕ) → is_some (start_of r delegator operator) ≡ true → is_some (at addr_cmp r.periods operator) ≡ true

-- the record of a period, by the periods of its operator and the starts of its delegations
abbrev pub history_of : Option Periods → List StartingInfo → ℕ → Option Historical
history_of None starts period = None
history_of (Some p) starts period = history_kept p starts period

-- The records that are kept stand for plain ones: the period that runs is the same; of the ended periods exactly those
-- have a record to which something refers, with the ratio and the number of references; starts and slash events are
-- the same.
pub record KeepsRewards (k : Kept) (r : Rewards) : Type 0 where
  pub current : (operator : List ℕ) → current_of k operator ≡ option_map (λ p. p.current) (at addr_cmp r.periods operator)
  pub historical : (operator : List ℕ) (period : ℕ) → record_of k operator period ≡ history_of (at addr_cmp r.periods operator) (starts_of r operator) period
  pub starts : k.starts ≡ r.starts
  pub events : (operator : List ℕ) → events_of k operator ≡ (periods_of r operator).events
  pub sound : IsSound r

-- records are sound where they stand for sound plain ones
abbrev pub IsKept : Kept → Type 0
IsKept k = (r : Rewards) × KeepsRewards k r

-- nothing is rewarded
abbrev pub no_rewards : Rewards
no_rewards = record { periods = []; starts = [] }

-- how many refer to a period of an operator with these periods and starts, and none where it has no periods
abbrev pub references_in : Option Periods → List StartingInfo → ℕ → ℕ
references_in None starts period = 0
references_in (Some p) starts period = references_of p starts period

-- how many refer to a period of an operator, in plain records
abbrev pub references_at : Rewards → List ℕ → ℕ → ℕ
references_at r operator period = references_in (at addr_cmp r.periods operator) (starts_of r operator) period

-- the number, where it is above 0
abbrev pub if_some : ℕ → Option ℕ
if_some n = if n == 0 then None else Some n

-- a start behind the last ended period
abbrev pub started_at : Periods → ℕ → ℕ → StartingInfo
started_at p stake height = record { period = last_ended p; stake = stake; height = height }
