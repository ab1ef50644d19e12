-- What the slack of a statement covers: how far rounding may put a reward below the exact ideal one,
-- and by how much all rewards of its validator may be short.
use Rattle.std.specs.Prelude.{◌≡◌, ℕ, ◌+◌, ◌<◌, ◌≤◌, List, Contains, count_by, Ok}
use Rattle.base_decimals.specs.Fractions.{Fraction, fraction_of, IsAtMost}
use Rattle.base_coins.specs.Coins.{amount_of}
use Rattle.base_shares.specs.Burns.{unit}
use Rattle.rule_modules.specs.Ideal.{Span, ◌⊕◌, ◌⊗◌, whole, ideal_of, stretch_slack}
use Rattle.mod_statement.specs.declared.bounds.Bounds.{Bounds}
use Rattle.mod_statement.specs.declared.statement.Statement.{Statement}
use Rattle.mod_statement.specs.Entries.{is_touch}
use Rattle.mod_statement.specs.Slack.{denoms_of}
use Rattle.mod_statement.specs.Bounds.{bounds_of}
use Rattle.mod_statement.specs.Answers.{IsRight}
use Rattle.mod_statement.specs.Bracketed.{span_stated}

-- The slack of a span's ideal reward, where shares left so often in the span, with the overclaim,
-- where they left the validator so often in all and its last ratio is this.
abbrev pub slack_due : List ℕ → Span → ℕ → ℕ → ℕ → Fraction
slack_due d s left lost ratio =
    let i = ideal_of d s in
    let within = i.slack ⊕ stretch_slack s.first i ⊕ whole (left + 1) ⊗ i.rate in
    unit ⊗ (within ⊕ whole lost ⊗ fraction_of ratio)

-- so many units are at least an exact slack, which is a fraction
pub record AreAtLeast (n : ℕ) (slack : Fraction) : Type 0 where
  pub exact_is : 0 < slack.denominator
  pub at_least : IsAtMost slack (fraction_of n)

-- The slack of a statement that is right covers it in each denomination that it lists, where shares
-- left at most once more in the span than they were about to change there, and at most as often in all
-- as they were about to.
abbrev pub SlackCovers : Type 0
SlackCovers =
    (s : Statement) (due : Bounds) → bounds_of s.entries s.removals s.ratio ≡ Ok due → IsRight s due
    → (d : List ℕ) → Contains (denoms_of s.ratio s.entries) d
    → (left lost : ℕ) → left ≤ count_by is_touch s.entries + 1 → lost ≤ s.removals
    → AreAtLeast (amount_of s.slack d)
    (slack_due d (span_stated s.entries) left lost (amount_of s.ratio d))
