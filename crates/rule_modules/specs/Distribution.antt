-- Distribution: ending and starting periods, recording slashes, withdrawing rewards, and what its hooks tell
-- (`x/distribution/keeper`: `validator.go`, `delegation.go`, `hooks.go`).
use Rattle.std.specs.Prelude.{ℕ, ◌*◌, ◌^◌, ◌==◌, if◌then◌else◌, List, [], ◌∷◌, ◌++◌, unwrap_or, Result, Ok, Err}
use Rattle.base_decimals.specs.declared.over.Over.{Over}
use Rattle.base_types.specs.declared.account.Account.TheVariants as account
use Rattle.base_types.specs.declared.account.Module.TheVariants as holder
use Rattle.base_types.specs.Orders.{addr_cmp}
use Rattle.base_coins.specs.Coins.{Money, coins_quo_cut, smaller_of, whole_coins, fractions}
use Rattle.base_shares.specs.Shares.{value_even_of, value_cut_of}
use Rattle.base_roles.specs.declared.entities.StartingInfo.{StartingInfo}
use Rattle.base_roles.specs.declared.entities.Validator.{Validator}
use Rattle.base_roles.specs.declared.facts.Fact.TheVariants as fact
use Rattle.base_roles.specs.Entries.{at}
use Rattle.base_roles.specs.Items.{no_purse}
use Rattle.base_roles.specs.Log.{Log}
use Rattle.base_roles.specs.Log as log
use Rattle.base_roles.specs.Flow.{◌>>=◌}
use Rattle.base_roles.specs.World.{View, Told, gives, exceeds, noted, sent}
use Rattle.base_roles.specs.declared.calls.Hook.{Hook}
use Rattle.base_roles.specs.declared.calls.Hook.TheVariants as hook
use Rattle.rule_modules.specs.Amounts.{is_empty, over_facts}
use Rattle.rule_modules.specs.Periods.{Rewards, initial_records, periods_of, start_of, with_periods, without_periods, with_start, without_start, period_ended, last_ended, event_recorded, reward_at}
use Rattle.rule_modules.specs.Purses.{Purses, purse_of, with_purse, pooled_told, current_emptied, current_pooled, paid_out, closed}

-- what distribution holds: periods and starts, purses and pool, and to whom payments go
pub record Shared : Type 0 where
  pub rewards : Rewards
  pub purses : Purses
  pub withdraw : List (List ℕ × List ℕ)

-- nothing yet
abbrev pub nothing_shared : Shared
nothing_shared = record { rewards = record { periods = []; starts = [] }; purses = record { purses = []; pool = [] }; withdraw = [] }

-- the address to which payments of an address go, by itself its own (`GetDelegatorWithdrawAddr`)
abbrev pub payee_of : Shared → List ℕ → List ℕ
payee_of d delegator = unwrap_or (at addr_cmp d.withdraw delegator) delegator

-- payments from the distribution account go to the payee
abbrev pub paid_to : List ℕ → Money → View → View
paid_to to coins v = sent (account.Module holder.Distribution) (account.User to) coins v

-- A period's end empties the current rewards: into the increment of the ratio, which is their quotient by the tokens, or
-- into the pool where there are no tokens (`IncrementValidatorPeriod`). Answers the
-- increment, and what joined the pool.
abbrev pub current_taken : Validator → Purses → Result (Money × Money × Purses) Over
current_taken val p =
    if val.tokens == 0 then (do
      (lost, q) ← current_pooled val.operator p
      Ok ([], lost, q))
    else (do
      increment ← coins_quo_cut (purse_of p val.operator).current (val.tokens * 10 ^ 18)
      Ok (increment, [], current_emptied val.operator p))

-- Ending a validator's period (`IncrementValidatorPeriod`). Answers the period that ended.
abbrev pub ended : Validator → Shared → View → Result (ℕ × Shared × View × Log) Over
ended val d v = do
  (increment, lost, purses) ← current_taken val d.purses
  (ratio, p) ← period_ended increment (periods_of d.rewards val.operator)
  let period = last_ended p
  let v1 = noted (fact.Period val.operator period ratio) (over_facts (pooled_told lost) v)
  Ok (period, record d { rewards = with_periods val.operator p d.rewards; purses = purses }, v1, (val.operator, log.ended period increment val.tokens) ∷ [])

-- Starting a delegation's rewards behind the last ended period, with the value of its shares, cut
-- (`initializeDelegation`).
abbrev pub started : Validator → List ℕ → ℕ → Shared → View → Shared × View × Log
started val delegator shares d v =
    let period = last_ended (periods_of d.rewards val.operator) in
    let stake = value_cut_of val.tokens val.shares shares in
    let info : StartingInfo = record { period = period; stake = stake; height = v.ctx.height } in (
      record d { rewards = with_start delegator val.operator info d.rewards },
      noted (fact.Started delegator val.operator period stake) v,
      (val.operator, log.started delegator shares val.tokens val.shares stake) ∷ [],
    )

-- A slash ends the period and is recorded at it (`updateValidatorSlashFraction`).
abbrev pub slash_recorded : Validator → ℕ → Shared → View → Result (Shared × View × Log) Over
slash_recorded val fraction d v = do
  (period, d1, v1, l) ← ended val d v
  let p = event_recorded v1.ctx.height fraction (periods_of d1.rewards val.operator)
  Ok (record d1 { rewards = with_periods val.operator p d1.rewards }, v1, l)

-- How each withdrawal begins: the period ends. Answers the reward up to it, of which what is outstanding may not cover all.
abbrev pub reward_due : Validator → List ℕ → ℕ → Shared → View → Result (Money × Shared × View × Log) Over
reward_due val delegator shares d v = do
  (ending, d1, v1, l) ← ended val d v
  let value = value_even_of val.tokens val.shares shares
  full ← reward_at (start_of d1.rewards delegator val.operator) (periods_of d1.rewards val.operator) ending v1.ctx.height value
  Ok (full, d1, v1, l)

-- Withdrawing a delegation's reward (`withdrawDelegationRewards`): the period ends; the reward, as far as what is
-- outstanding goes, leaves; its whole coins are paid, its fractions join the pool; the start is gone. The full reward and
-- what was outstanding are logged behind the period's end. Answers the coins that were paid.
abbrev pub reward_withdrawn : Validator → List ℕ → ℕ → Shared → View → Result (Money × Shared × View × Log) Over
reward_withdrawn val delegator shares d v = do
  (full, d1, v1, l) ← reward_due val delegator shares d v
  (reward, p) ← paid_out val.operator full d1.purses
  let coins = whole_coins reward
  let to = payee_of d1 delegator
  let entry = log.withdrawn delegator to full (purse_of d1.purses val.operator).outstanding
  let v2 = over_facts (pooled_told (fractions reward)) (paid_to to coins v1)
  let d2 = record d1 { rewards = without_start delegator val.operator d1.rewards; purses = p }
  Ok (coins, d2, noted (fact.Paid delegator val.operator to reward coins) v2, l ++ (val.operator, entry) ∷ [])

-- the same, and its rewards start anew (`WithdrawDelegationRewards`)
abbrev pub reward_renewed : Validator → List ℕ → ℕ → Shared → View → Result (Money × Shared × View × Log) Over
reward_renewed val delegator shares d v = do
  (coins, d1, v1, l) ← reward_withdrawn val delegator shares d v
  let (d2, v2, more) = started val delegator shares d1 v1
  Ok (coins, d2, v2, l ++ more)

-- What a withdrawal now would take from what is outstanding; it changes nothing.
abbrev pub pending : Validator → List ℕ → ℕ → Shared → View → Result Money Over
pending val delegator shares d v = do
  (full, d1, v1, l) ← reward_due val delegator shares d v
  Ok (smaller_of full (purse_of d1.purses val.operator).outstanding)

-- Removing a validator: its purse is closed, and its records go (`AfterValidatorRemoved`).
abbrev pub records_removed : Validator → Shared → View → Result (Shared × View) Over
records_removed val d v = do
  (coins, rest, p) ← closed val.operator d.purses
  let to = payee_of d val.operator
  let v1 = paid_to to coins v
  let v2 = (if is_empty coins then v1 else noted (fact.Commission val.operator to coins) v1)
  Ok (record d { rewards = without_periods val.operator d.rewards; purses = p }, over_facts (pooled_told rest) v2)

-- A new validator has its initial records and an empty purse (`initializeValidator`).
abbrev pub records_made : Validator → Shared → Shared
records_made val d = record d { rewards = with_periods val.operator initial_records d.rewards; purses = with_purse val.operator no_purse d.purses }

-- ---- the hooks

-- a rule's answer, as hooks tell it
abbrev pub told_of : Result (Shared × View × Log) Over → Told Shared
told_of (Ok p) = gives p.0 p.1 p.2
told_of (Err over) = exceeds over

-- what a rule leaves, apart from what it answers
abbrev pub left_by : {A : Type 0} → Result (A × Shared × View × Log) Over → Result (Shared × View × Log) Over
left_by (Ok p) = Ok (p.1, p.2, p.3)
left_by (Err over) = Err over

-- the same of a rule that logs nothing
abbrev pub unlogged : Result (Shared × View) Over → Result (Shared × View × Log) Over
unlogged (Ok p) = Ok (p.0, p.1, [])
unlogged (Err over) = Err over

-- What distribution's hooks tell (`hooks.go`): a created validator's records are made and a removed one's go; before a
-- new delegation its period ends, before a change the reward is withdrawn, after it a start is made; a slash is recorded.
abbrev pub distribution_told : Shared → Hook → View → Told Shared
distribution_told d (hook.Created val) v = gives (records_made val d) v ((val.operator, log.made) ∷ [])
distribution_told d (hook.Removed val) v = told_of (unlogged (records_removed val d v))
distribution_told d (hook.Bonded val) v = gives d v []
distribution_told d (hook.Starting val delegator) v = told_of (left_by (ended val d v))
distribution_told d (hook.Modifying val delegator shares) v = told_of (left_by (reward_withdrawn val delegator shares d v))
distribution_told d (hook.Modified val delegator shares) v = told_of (Ok (started val delegator shares d v))
distribution_told d (hook.Slashing val fraction) v = told_of (slash_recorded val fraction d v)
