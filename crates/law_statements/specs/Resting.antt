-- What the entries of a payment rest on, by the log of its validator.
use Rattle.std.specs.Prelude.{◌≡◌, ℕ, ◌+◌, ◌*◌, ◌≤◌, List, [], ◌∷◌, All, Some, None, count_by}
use Rattle.base_coins.specs.Coins.{amount_of}
use Rattle.base_shares.specs.Burns.{ratio_of}
use Rattle.base_roles.specs.Log.{Log, LogEntry}
use Rattle.base_roles.specs.Log as log
use Rattle.rule_modules.specs.Amounts.{count_where}
use Rattle.rule_modules.specs.Ideal.{Span, history_of, is_left, span_of}
use Rattle.law_rewards.specs.Withdrawals.{raised_in}
use Rattle.mod_statement.specs.declared.entry.Entry.{Entry}
use Rattle.mod_statement.specs.declared.entry.Entry.TheVariants.{Started, Allocated, Ended, Slashed, Touched}
use Rattle.mod_statement.specs.Entries.{HasMoney, is_touch}
use Rattle.mod_tracking.specs.declared.tracker.Pair.{Pair}
use Rattle.mod_tracking.specs.Tracking.{Tracked}

-- What of a log a statement has, in its order: of an allocation what is the delegators', the end of a period, and a slash.
abbrev pub entries_in : List LogEntry → List Entry
entries_in [] = []
entries_in (log.allocated share rest tokens ∷ es) = Allocated rest tokens ∷ entries_in es
entries_in (log.ended period increment tokens ∷ es) = Ended ∷ entries_in es
entries_in (log.slashed burn tokens fraction ∷ es) = Slashed burn tokens ∷ entries_in es
entries_in (e ∷ es) = entries_in es

-- entries without those of shares that were about to change
abbrev pub untouched : List Entry → List Entry
untouched [] = []
untouched (Touched ∷ es) = untouched es
untouched (e ∷ es) = e ∷ untouched es

-- The entries of a span of the log: its start, and behind it what the log has, in its order. Shares left in the span at most once
-- more than they were about to change.
pub record IsSpanOf (s : Span) (es : List Entry) : Type 0 where
  pub shares : ℕ
  pub tokens : ℕ
  pub total : ℕ
  pub rest : List Entry
  pub is : es ≡ Started shares tokens total ∷ rest
  pub first : s.first ≡ ratio_of (shares * tokens) total
  pub same : untouched rest ≡ entries_in s.entries
  pub few : count_where is_left s.entries ≤ count_by is_touch es + 1
  pub money : All HasMoney es

-- What stands of a pair, by a log: its entries are those of the delegation's span, since its last start; shares left the validator at
-- most as often as they were about to change, since it was made; and its ratio is what all increments since then come to.
pub record RestsOnLog (p : Pair) (l : Log) (t : Tracked) : Type 0 where
  pub span : Span
  pub span_is : span_of p.delegator (history_of p.operator l []) None ≡ Some span
  pub entries : IsSpanOf span t.entries
  pub removals : count_where is_left (history_of p.operator l []) ≤ t.removals
  pub ratio : (d : List ℕ) → amount_of t.ratio d ≡ raised_in d (history_of p.operator l [])
