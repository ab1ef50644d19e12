-- What sharing each block's fees at once in exact fractions would give, and by how much rounding may lie below it. The program
-- settles lazily from differences of rounded ratios (the F1 fee distribution paper); here nothing is rounded.
use Rattle.std.specs.Prelude.{ℕ, ◌+◌, ◌-◌, ◌*◌, ◌<◌, ◌==◌, if◌then◌else◌, Bool, true, false, List, [], ◌∷◌, ◌++◌, Option, Some, None, Result, Ok}
use Rattle.base_decimals.specs.declared.over.Over.{Over}
use Rattle.base_decimals.specs.Fractions.{Fraction, fraction_of, IsAtMost}
use Rattle.base_coins.specs.Coins.{Money, amount_of}
use Rattle.base_shares.specs.Burns.{ratio_of, unit, plus}
use Rattle.base_roles.specs.declared.entities.Validator.{Validator}
use Rattle.base_roles.specs.Log.{Log, LogEntry}
use Rattle.base_roles.specs.Log as log
use Rattle.base_roles.specs.Orders.{same_addr}
use Rattle.base_roles.specs.Flow.{◌>>=◌}
use Rattle.base_roles.specs.World.{View}
use Rattle.rule_modules.specs.Amounts.{count_where}
use Rattle.rule_modules.specs.Distribution.{Shared, reward_due}

-- a whole number as a fraction
abbrev pub whole : ℕ → Fraction
whole n = ratio_of n 1

-- the product of two fractions
abbrev pub times : Fraction → Fraction → Fraction
times p q = record { numerator = p.numerator * q.numerator; denominator = p.denominator * q.denominator }

-- the sum and the product, between what they are of
infixl 6 ◌⊕◌
abbrev pub ◌⊕◌ : Fraction → Fraction → Fraction
p ⊕ q = plus p q

infixl 7 ◌⊗◌
abbrev pub ◌⊗◌ : Fraction → Fraction → Fraction
p ⊗ q = times p q

-- ---- the entries of a span

-- an entry behind those of its validator; its making begins anew
abbrev pub behind : List LogEntry → LogEntry → List LogEntry
behind es log.made = []
behind es e = es ++ e ∷ []

-- what happened to a validator since it was made
abbrev pub history_of : List ℕ → Log → List LogEntry → List LogEntry
history_of operator [] es = es
history_of operator (e ∷ l) es = history_of operator l (if same_addr e.0 operator then behind es e.1 else es)

-- the ideal stake at a start, and what happened behind it
pub record Span : Type 0 where
  pub first : Fraction
  pub entries : List LogEntry

-- a span with one more entry
abbrev pub longer : LogEntry → Option Span → Option Span
longer e None = None
longer e (Some s) = Some (record s { entries = s.entries ++ e ∷ [] })

-- A delegator's start begins a span anew, with the exact value of its shares, and its withdrawal ends it; those of others
-- and payments of commission are nothing to it, and all else makes it longer.
abbrev pub span_with : List ℕ → LogEntry → Option Span → Option Span
span_with delegator (log.started other shares tokens all stake) s =
    if same_addr other delegator then Some (record { first = ratio_of (shares * tokens) all; entries = [] }) else s
span_with delegator (log.withdrawn other payee full outstanding) s = if same_addr other delegator then None else s
span_with delegator (log.commission coins) s = s
span_with delegator log.made s = None
span_with delegator e s = longer e s

-- the span from a delegator's last start on, where its reward was not withdrawn since
abbrev pub span_of : List ℕ → List LogEntry → Option Span → Option Span
span_of delegator [] s = s
span_of delegator (e ∷ es) s = span_of delegator es (span_with delegator e s)

-- ---- the ideal of a span, in one denomination

-- Slashes divide a span into stretches, counted from 1. The reward and the slack are those so far, the slack without the
-- stretch that is open; the rate is what one token was given in it, `ended` the periods that ended in it; `left` is how
-- often shares left in the span.
pub record Ideal : Type 0 where
  pub stake : Fraction
  pub reward : Fraction
  pub rate : Fraction
  pub slack : Fraction
  pub stretch : ℕ
  pub ended : ℕ
  pub left : ℕ

-- a span of no entries
abbrev pub ideal_start : Fraction → Ideal
ideal_start first = record { stake = first; reward = whole 0; rate = whole 0; slack = whole 0; stretch = 1; ended = 0; left = 0 }

-- the slack of the open stretch, in units: one, the first stake for each ended period, and its number times one more than
-- the first stake for the rate
abbrev pub stretch_slack : Fraction → Ideal → Fraction
stretch_slack first i = whole 1 ⊕ first ⊗ whole i.ended ⊕ whole i.stretch ⊗ (whole 1 ⊕ first) ⊗ i.rate

-- an allocation is shared by stake; without tokens nobody has a share
abbrev pub shared_out : ℕ → ℕ → Ideal → Ideal
shared_out raw tokens i = if tokens == 0 then i else record i {
  reward = i.reward ⊕ fraction_of raw ⊗ i.stake ⊗ ratio_of 1 tokens;
  rate = i.rate ⊕ fraction_of raw ⊗ ratio_of 1 tokens;
}

-- a slash takes the burn's part of the stake, exactly, and opens another stretch
abbrev pub stretch_closed : Fraction → ℕ → ℕ → Ideal → Ideal
stretch_closed first burn tokens i = record i {
  stake = i.stake ⊗ ratio_of (tokens - burn) tokens;
  rate = whole 0;
  slack = i.slack ⊕ stretch_slack first i;
  stretch = i.stretch + 1;
  ended = 0;
}

-- what one more entry makes of it
abbrev pub ideal_after : List ℕ → Fraction → Ideal → LogEntry → Ideal
ideal_after d first i log.made = i
ideal_after d first i (log.allocated share rest tokens) = shared_out (amount_of rest d) tokens i
ideal_after d first i (log.ended period increment tokens) = record i { ended = i.ended + 1 }
ideal_after d first i (log.started delegator shares tokens all stake) = i
ideal_after d first i (log.slashed burn tokens fraction) = stretch_closed first burn tokens i
ideal_after d first i log.left = record i { left = i.left + 1 }
ideal_after d first i (log.withdrawn delegator payee full outstanding) = i
ideal_after d first i (log.commission coins) = i

-- what more entries make of it
abbrev pub ideal_over : List ℕ → Fraction → Ideal → List LogEntry → Ideal
ideal_over d first i [] = i
ideal_over d first i (e ∷ es) = ideal_over d first (ideal_after d first i e) es

-- the ideal of a span
abbrev pub ideal_of : List ℕ → Span → Ideal
ideal_of d s = ideal_over d s.first (ideal_start s.first) s.entries

-- the stake at the end of a span, where each slash took exactly its part
abbrev pub ideal_stake : List ℕ → Span → Fraction
ideal_stake d s = (ideal_of d s).stake

-- the reward of a span: of each allocation the part of the stake in the tokens
abbrev pub ideal_reward : List ℕ → Span → Fraction
ideal_reward d s = (ideal_of d s).reward

-- How far a reward may lie below the ideal one: a unit times the slack of all stretches, and once more for the last
-- rate as often as shares left in the span, and once.
abbrev pub slack_of : List ℕ → Span → Fraction
slack_of d s =
    let i = ideal_of d s in
    unit ⊗ (i.slack ⊕ stretch_slack s.first i ⊕ whole (i.left + 1) ⊗ i.rate)

-- a reward, in units, is at most the ideal one, and at least that less the slack; both are fractions
pub record Brackets (d : List ℕ) (s : Span) (raw : ℕ) : Type 0 where
  pub reward_is : 0 < (ideal_reward d s).denominator
  pub slack_is : 0 < (slack_of d s).denominator
  pub at_most : IsAtMost (fraction_of raw) (ideal_reward d s)
  pub at_least : IsAtMost (ideal_reward d s) (fraction_of raw ⊕ slack_of d s)

-- The reward that a withdrawal now would come to, before the smaller of it and what is outstanding is taken, with the
-- log up to there.
abbrev pub claimed : Validator → List ℕ → ℕ → Shared → View → Log → Result (Money × Log) Over
claimed val delegator shares d v l = do
  (full, d1, v1, more) ← reward_due val delegator shares d v
  Ok (full, l ++ more)

-- ---- the overclaim

-- shares left the validator
abbrev pub is_left : LogEntry → Bool
is_left log.left = true
is_left _ = false

-- By how much all rewards of a validator may exceed what is outstanding, in units of 10^-36: as often as shares left it,
-- the last ratio.
abbrev pub overclaim_of : List ℕ → List LogEntry → Money → ℕ
overclaim_of d entries last_ratio = count_where is_left entries * amount_of last_ratio d
