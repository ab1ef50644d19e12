-- What the laws say of a withdrawal as it happens: the reward in full, what of it is paid, and what is told.
use Rattle.std.specs.Prelude.{◌≡◌, ℕ, ◌+◌, ◌-◌, ◌*◌, ◌^◌, ◌≤◌, Bool, true, false, List, [], ◌∷◌, ◌++◌, map, filter, min, sum, Some, None}
use Rattle.base_decimals.specs.Fractions.{fraction_of, IsAtMost, IsBelow}
use Rattle.base_types.specs.declared.account.Account.TheVariants as account
use Rattle.base_types.specs.declared.account.Module.TheVariants as holder
use Rattle.base_coins.specs.Coins.{Money, IsMoney, amount_of, smaller_of, whole_coins, fractions}
use Rattle.base_shares.specs.Burns.{plus}
use Rattle.base_roles.specs.declared.facts.Fact.{Fact}
use Rattle.base_roles.specs.declared.facts.Fact.TheVariants as fact
use Rattle.base_roles.specs.Holdings.{transfer_told}
use Rattle.base_roles.specs.Log.{Log, LogEntry}
use Rattle.base_roles.specs.Log as log
use Rattle.rule_modules.specs.Amounts.{count_where}
use Rattle.rule_modules.specs.Ideal.{Span, Brackets, span_of, history_of, ideal_reward, slack_of, is_left}
use Rattle.rule_modules.specs.Purses.{pooled_told}
use Rattle.law_rewards.specs.Account.{lost_of}

-- ---- the last ratio, by the log

-- by how much an entry raises the ratio
abbrev pub risen : List ℕ → LogEntry → ℕ
risen d (log.ended period increment tokens) = amount_of increment d
risen d _ = 0

-- all increments together, which the last ratio is
abbrev pub raised_in : List ℕ → List LogEntry → ℕ
raised_in d entries = sum (map (risen d) entries)

-- by how much rewards may exceed what is outstanding, by the log alone, in units of 10^-36
abbrev pub overclaim_in : List ℕ → List LogEntry → ℕ
overclaim_in d entries = count_where is_left entries * raised_in d entries

-- ---- what is outstanding, by the log

-- what is outstanding for a validator, and what of it are current rewards
pub record Outstanding : Type 0 where
  pub all : ℕ
  pub current : ℕ

abbrev pub none_outstanding : Outstanding
none_outstanding = record { all = 0; current = 0 }

-- What an entry makes of it: an allocation adds its share, the rest of it to the current rewards;
-- these go as a period ends, without tokens to the pool; a withdrawal takes its reward, as far as
-- there is; and what is paid of commission goes.
abbrev pub outstanding_after : List ℕ → Outstanding → LogEntry → Outstanding
outstanding_after d o (log.allocated share rest tokens) = record {
  all = o.all + amount_of share d;
  current = o.current + amount_of rest d;
}
outstanding_after d o (log.ended period increment tokens) = record {
  all = o.all - lost_of tokens o.current o.all;
  current = 0;
}
outstanding_after d o (log.withdrawn who payee full outstanding) =
    record o { all = o.all - min (amount_of full d) o.all }
outstanding_after d o (log.commission coins) = record o { all = o.all - amount_of coins d }
outstanding_after d o _ = o

-- what entries make of it
abbrev pub outstanding_over : List ℕ → Outstanding → List LogEntry → Outstanding
outstanding_over d o [] = o
outstanding_over d o (e ∷ es) = outstanding_over d (outstanding_after d o e) es

-- what is outstanding for a validator, by what happened since it was made
abbrev pub outstanding_in : List ℕ → List LogEntry → ℕ
outstanding_in d es = (outstanding_over d none_outstanding es).all

-- ---- what is logged

-- A logged withdrawal is fair, by the log up to it: the delegation's rewards run, so there is a
-- span; in each denomination the full reward lies in its bracket; what was outstanding is what the
-- log comes to, and cuts it by at most the overclaim of that moment.
pub record IsFairReward (l : Log) (who operator : List ℕ) (full outstanding : Money) : Type 0 where
  pub full_is : IsMoney full
  pub span : Span
  pub is : span_of who (history_of operator l []) None ≡ Some span
  pub bracketed : (d : List ℕ) → Brackets d span (amount_of full d)
  pub outstanding_is : (d : List ℕ)
      → amount_of outstanding d ≡ outstanding_in d (history_of operator l [])
  pub cut : (d : List ℕ) → 10 ^ 18 * (amount_of full d - amount_of outstanding d) ≤ overclaim_in d (history_of operator l [])

-- what a withdrawal pays: the smaller of the full reward and of what was outstanding, and of that the
-- whole coins
abbrev pub reward_paid : Money → Money → Money
reward_paid full outstanding = smaller_of full outstanding

abbrev pub coins_paid : Money → Money → Money
coins_paid full outstanding = whole_coins (reward_paid full outstanding)

-- The coins of a fair withdrawal are at most the ideal reward; and where what was outstanding was not
-- exhausted, that is below the coins and one whole coin more and the slack.
pub record IsCloseToIdeal (l : Log) (who operator : List ℕ) (full outstanding : Money) (f : IsFairReward l who operator full outstanding) (d : List ℕ) : Type 0 where
  pub at_most : IsAtMost (fraction_of (amount_of (coins_paid full outstanding) d * 10 ^ 18)) (ideal_reward d f.span)
  pub above : amount_of full d ≤ amount_of outstanding d
      → IsBelow (ideal_reward d f.span) (plus (fraction_of ((amount_of (coins_paid full outstanding) d + 1) * 10 ^ 18)) (slack_of d f.span))

-- An entry of a validator is fair by the log up to it: a withdrawal is, as said; and where a
-- delegation's rewards start they do not run, so where it had a start its reward was withdrawn since.
abbrev pub IsFairEntry : Log → List ℕ → LogEntry → Type 0
IsFairEntry l operator (log.withdrawn who payee full outstanding) =
    IsFairReward l who operator full outstanding
IsFairEntry l operator (log.started who shares tokens all stake) =
    span_of who (history_of operator l []) None ≡ None
IsFairEntry l operator _ = Unit {0}

-- each item behind a list is so, by all items before it
abbrev pub AreInTurn : {A : Type 0} → (List A → A → Type 0) → List A → List A → Type 0
AreInTurn P before [] = Unit {0}
AreInTurn P before (x ∷ xs) = P before x × AreInTurn P (before ++ x ∷ []) xs

-- each entry behind a log is fair, by the log up to it
abbrev pub AreFair : Log → Log → Type 0
AreFair l more = AreInTurn (λ before e. IsFairEntry before e.0 e.1) l more

-- ---- what is told of it

-- what is told of an entry: of a withdrawal its payment to the payee, of all else no payment
abbrev pub paid_by : List ℕ → LogEntry → List Fact
paid_by operator (log.withdrawn who payee full outstanding) =
    fact.Paid who operator payee (reward_paid full outstanding) (coins_paid full outstanding) ∷ []
paid_by operator _ = []

-- the payments of a log's withdrawals, in their order
abbrev pub payments_of : Log → List Fact
payments_of [] = []
payments_of (e ∷ l) = paid_by e.0 e.1 ++ payments_of l

-- a payment of a delegation's reward
abbrev pub is_payment : Fact → Bool
is_payment (fact.Paid who operator to reward coins) = true
is_payment _ = false

-- those among facts, in their order
abbrev pub payments_in : List Fact → List Fact
payments_in facts = filter is_payment facts

-- Right before a payment is told, its coins go from the distribution account to the payee, and its
-- fractions join the pool.
abbrev pub IsSent : List Fact → Fact → Type 0
IsSent before (fact.Paid who operator to reward coins) =
    (first : List Fact) × (before ≡ pooled_told (fractions reward)
    (transfer_told (account.Module holder.Distribution) (account.User to) coins first))
IsSent before _ = Unit {0}

-- so it is with each payment among facts behind others
abbrev pub AreSent : List Fact → List Fact → Type 0
AreSent before facts = AreInTurn IsSent before facts
