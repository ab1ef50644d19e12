-- What is right of a payment that a statement is made of.
use Rattle.std.specs.Prelude.{◌≡◌, ℕ, true, List, [], Contains, Ok}
use Rattle.base_coins.specs.Coins.{Money, amount_of}
use Rattle.base_decimals.specs.Fractions.{Fraction}
use Rattle.base_roles.specs.Log.{Log, LogEntry}
use Rattle.rule_modules.specs.Amounts.{count_where}
use Rattle.rule_modules.specs.Ideal.{Span, history_of, is_left}
use Rattle.law_rewards.specs.Withdrawals.{IsFairReward, raised_in, reward_paid}
use Rattle.mod_statement.specs.declared.statement.Statement.{Statement}
use Rattle.mod_statement.specs.Answers.{IsAnswer}
use Rattle.mod_statement.specs.Covers.{AreAtLeast, slack_due}
use Rattle.mod_statement.specs.Slack.{denoms_of}
use Rattle.mod_tracking.specs.declared.tracker.Pair.{Pair}
use Rattle.mod_tracking.specs.Stating.{statement_of}
use Rattle.mod_tracking.specs.Tracking.{Payment}
use Rattle.law_statements.specs.Resting.{RestsOnLog}

-- how far a reward may lie below the ideal one of a span of a validator's history, with what all its rewards may be short of
abbrev pub shortfall_of : List ℕ → Span → List LogEntry → Fraction
shortfall_of d s history = slack_due d s (count_where is_left s.entries) (count_where is_left history) (raised_in d history)

-- A payment rests on the log up to it. So the statement that is made of it is right; and in each denomination that its entries list,
-- its slack is at least the exact one of the delegation's span and the overclaim of the moment.
pub record IsStatedRightly (p : Pair) (height : ℕ) (l : Log) (pay : Payment) : Type 0 where
  pub rests : RestsOnLog p l pay.rests_on
  pub right : (s : Statement) → statement_of p height pay ≡ Ok s → IsAnswer s true
  pub covers : (s : Statement) (d : List ℕ) → statement_of p height pay ≡ Ok s → Contains (denoms_of pay.rests_on.ratio pay.rests_on.entries) d
      → AreAtLeast (amount_of s.slack d) (shortfall_of d rests.span (history_of p.operator l []))

-- The statement of a payment is right that rests on the log up to it, where it is of a withdrawal that is fair by that log.
abbrev pub FairPaymentsAreStatedRightly : Type 0
FairPaymentsAreStatedRightly =
    (p : Pair) (height : ℕ) (l : Log) (pay : Payment) (full outstanding : Money)
    → IsFairReward l p.delegator p.operator full outstanding
    → pay.reward ≡ reward_paid full outstanding
    → RestsOnLog p l pay.rests_on
    → IsStatedRightly p height l pay
