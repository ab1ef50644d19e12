-- What a checked statement says of the exact ideal reward of its entries, which shares each block's
-- fees at once and rounds nothing.
use Rattle.std.specs.Prelude.{◌≡◌, ℕ, ◌+◌, ◌*◌, ◌<◌, ◌≤◌, List, [], ◌∷◌, map, All, Ok}
use Rattle.base_decimals.specs.Fractions.{fraction_of, IsAtMost}
use Rattle.base_coins.specs.Coins.{amount_of}
use Rattle.base_shares.specs.Burns.{ratio_of}
use Rattle.base_roles.specs.Log.{LogEntry}
use Rattle.base_roles.specs.Log as log
use Rattle.rule_modules.specs.Ideal.{Span, ideal_reward}
use Rattle.mod_statement.specs.declared.entry.Entry.{Entry}
use Rattle.mod_statement.specs.declared.entry.Entry.TheVariants.{Started, Allocated, Ended, Slashed, Touched}
use Rattle.mod_statement.specs.declared.bounds.Bounds.{Bounds}
use Rattle.mod_statement.specs.declared.statement.Statement.{Statement}
use Rattle.mod_statement.specs.Entries.{HasMoney}
use Rattle.mod_statement.specs.Bounds.{bounds_of}
use Rattle.mod_statement.specs.Answers.{IsRight}

-- An entry as a validator's log has it, with what an ideal reward looks at: of an allocation the
-- coins behind commission and the tokens, of a slash its burn and the tokens. Where shares are
-- about to change, some may leave.
abbrev pub logged : Entry → LogEntry
logged (Started shares tokens total) = log.started [] shares tokens total 0
logged (Allocated coins tokens) = log.allocated [] coins tokens
logged Ended = log.ended 0 [] 0
logged (Slashed burned tokens) = log.slashed burned tokens 0
logged Touched = log.left

-- the span of entries behind a start of shares of all, with tokens: the exact worth of the shares,
-- and the entries
abbrev pub logged_span : ℕ → ℕ → ℕ → List Entry → Span
logged_span shares tokens total rest = record {
  first = ratio_of (shares * tokens) total;
  entries = map logged rest;
}

-- the span of entries, of which the first is a start
abbrev pub span_stated : List Entry → Span
span_stated (Started shares tokens total ∷ rest) = logged_span shares tokens total rest
span_stated es = logged_span 0 0 1 es

-- In a denomination the exact ideal reward lies between the bounds, and the reward is at most the
-- high one and at least the low one less the slack.
pub record IsBracketedIn (s : Statement) (d : List ℕ) : Type 0 where
  pub ideal_is : 0 < (ideal_reward d (span_stated s.entries)).denominator
  pub low : IsAtMost (fraction_of (amount_of s.low d)) (ideal_reward d (span_stated s.entries))
  pub high : IsAtMost (ideal_reward d (span_stated s.entries)) (fraction_of (amount_of s.high d))
  pub at_most : amount_of s.reward d ≤ amount_of s.high d
  pub at_least : amount_of s.low d ≤ amount_of s.reward d + amount_of s.slack d

-- and so it is in each
abbrev pub IsBracketed : Statement → Type 0
IsBracketed s = (d : List ℕ) → IsBracketedIn s d

-- The bounds of entries lie about their exact ideal reward, so a statement that is right is
-- bracketed.
abbrev pub RightIsBracketed : Type 0
RightIsBracketed =
    (s : Statement) (due : Bounds) → All HasMoney s.entries
    → bounds_of s.entries s.removals s.ratio ≡ Ok due
    → IsRight s due → IsBracketed s
