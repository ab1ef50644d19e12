-- Whose rewards run, by the log: of no delegation without a start, so of none without a validator.
use Rattle.std.specs.Prelude.{◌≡◌, ℕ, List, [], is_some, None}
use Rattle.base_roles.specs.Log.{Log, LogEntry}
use Rattle.base_roles.specs.Log as log
use Rattle.base_roles.specs.Staked.{Staked, validator_at, delegation}
use Rattle.rule_modules.specs.Chain.{State, shared_in}
use Rattle.rule_modules.specs.Distribution.{Shared}
use Rattle.rule_modules.specs.Ideal.{span_of, history_of}
use Rattle.rule_modules.specs.StepLaws.{KeptByMessages, KeptByBlocks}
use Rattle.rule_modules.specs.Periods.{start_of}
use Rattle.rule_modules.specs.Sound.{IsSound}
use Rattle.law_rewards.specs.States.{AreReached}
use Rattle.law_rewards.specs.Withdrawals.{AreInTurn}

-- ---- what is kept

-- Where a validator is made, no rewards run under its operator, so those of a validator that stood
-- there before were withdrawn.
abbrev pub IsMadeAtRest : Log → List ℕ → LogEntry → Type 0
IsMadeAtRest l operator log.made =
    (who : List ℕ) → span_of who (history_of operator l []) None ≡ None
IsMadeAtRest l operator _ = Unit {0}

-- so it is with each entry behind a log, by the log up to it
abbrev pub AreMadeAtRest : Log → Log → Type 0
AreMadeAtRest l more = AreInTurn (λ before e. IsMadeAtRest before e.0 e.1) l more

-- By a log rewards run only from starts that stand: without one a delegator has no span, whether a
-- validator stands under the operator or not. And validators were made at rest.
pub record RunFromStarts (d : Shared) (l : Log) : Type 0 where
  pub rest : (who operator : List ℕ) → start_of d.rewards who operator ≡ None
      → span_of who (history_of operator l []) None ≡ None
  pub made : AreMadeAtRest [] l

-- so it is in a state
abbrev pub AreStarted : State → Type 0
AreStarted w = RunFromStarts (shared_in w) w.log

-- and so it stays
abbrev pub StartedStays : State → State → Type 0
StartedStays old new = AreStarted old → AreStarted new

-- in each message that is not refused, and in the fee,
abbrev pub MessagesKeepStarted : Type 0
MessagesKeepStarted = KeptByMessages StartedStays

-- and in all parts of a block.
abbrev pub BlocksKeepStarted : Type 0
BlocksKeepStarted = KeptByBlocks StartedStays

-- ---- what follows in a sound state

-- Where no validator stands under an operator, no delegator's rewards run there. So who had a
-- delegation to a validator that went has withdrawn.
abbrev pub NoneRunsWithoutValidator : Type 0
NoneRunsWithoutValidator =
    (w : State) (who operator : List ℕ) → IsSound w → AreStarted w
    → validator_at w.mine.staked operator ≡ None
    → span_of who (history_of operator w.log []) None ≡ None

-- By a log each delegator's rewards run exactly where it has a delegation, under every operator.
abbrev pub RunExactlyWhereHeld : Staked → Log → Type 0
RunExactlyWhereHeld s l =
    (who operator : List ℕ) → is_some (span_of who (history_of operator l []) None)
    ≡ is_some (delegation s who operator)

-- so it is where accounts are reached, too
abbrev pub RewardsRunExactlyWhereHeld : Type 0
RewardsRunExactlyWhereHeld =
    (w : State) → IsSound w → AreReached w → AreStarted w → RunExactlyWhereHeld w.mine.staked w.log
