-- A statement is right where its payment is of a fair withdrawal and rests on the log up to it.
use Rattle.std.proofs.Common.{◌≡◌, ◌∙◌, ℕ, zero, suc, ◌+◌, ◌-◌, ◌*◌, ◌^◌, ◌<◌, ◌≤◌, ◌⊎◌, inl, inr, min, Option, Some, List, [], ◌∷◌, refl, sym, ap, subst, arith, mul-le-mul_right, le_of_mul-le-mul_right, Contains, Result, Ok, Err, true}
use Rattle.base_coins.{specs.{Coins.{Money, amount_of}, Steps.{◌>>=◌}}, proofs.Amounts.amount-all}
use Rattle.base_coins.proofs.Order.{rises_from_money}
use Rattle.base_decimals.specs.Fractions.{Fraction, fraction_of, IsAtMost}
use Rattle.base_shares.specs.Burns.{unit}
use Rattle.base_roles.specs.Log.{Log, LogEntry}
use Rattle.rule_modules.specs.Amounts.{count_where}
use Rattle.rule_modules.specs.Ideal.{Brackets, Ideal, Span, ◌⊕◌, ◌⊗◌, history_of, ideal_of, ideal_reward, is_left, slack_of, stretch_slack, whole}
use Rattle.rule_modules.proofs.GoingLemmas.{same_ok}
use Rattle.law_rewards.specs.Withdrawals.{IsFairReward, raised_in, reward_paid}
use Rattle.mod_statement.specs.declared.{entry.Entry.Entry, fault.StatementFault.StatementFault}
use Rattle.mod_statement.specs.{declared.statement.Statement.Statement, Answers.{IsAnswer, IsRight, stated}}
use Rattle.mod_statement.specs.{Bounds.bounds_of, Bracketed.span_stated, Covers.{AreAtLeast, slack_due}}
use Rattle.mod_statement.{specs.Slack.denoms_of, proofs.{Bracketing.{BoundsLie, bounds_lie}, Exact.both_positive}}
use Rattle.mod_statement.proofs.Listing.{slack_covers}
use Rattle.mod_tracking.specs.{declared.tracker.Pair.Pair, Stating.statement_of, Tracking.Payment}
use Rattle.law_statements.specs.{Resting.{IsSpanOf, RestsOnLog}, Rightly.{FairPaymentsAreStatedRightly, shortfall_of}}
use Rattle.law_statements.proofs.Ideals.{kept, left_is, same_first, same_kept}
use Rattle.law_statements.proofs.Listed.{Absent, listed_or_absent, nothing_ideal}

-- ---- numbers

-- a reward of which the ideal is at least the full one
at_most_plain : (reward full high num den u : ℕ) → reward ≤ full → 0 < den → full * den ≤ num * u → num * u ≤ high * den → reward ≤ high
at_most_plain reward full high num den u less some below above =
    let e : full * den ≤ high * den = omega arith in
    let k : full ≤ high = le_of_mul-le-mul_right e some in
    omega arith

-- a low bound of which the ideal is at most the full reward with its slack, and what was cut is at most the overclaim
at_least_plain : (low reward gone full slack num den w n lost u : ℕ) → 0 < den → 0 < w → 0 < u → full ≤ reward + gone → low * den ≤ num * u
    → num * (u * (u * w)) ≤ (full * (u * w) + 1 * n * u) * den → u * gone ≤ lost → 1 * (n * (1 * u) + lost * w) * u ≤ slack * (u * (w * (1 * u))) → low ≤ reward + slack
at_least_plain low reward gone full slack num den w n lost u some_den some_w some_u less below above cut covers =
    let e1 : low * den * (u * w) ≤ num * u * (u * w) = mul-le-mul_right (u * w) below in
    let e2 : low * (u * w) * den ≤ (full * (u * w) + n * u) * den = omega arith in
    let e3 : low * (u * w) ≤ full * (u * w) + n * u = le_of_mul-le-mul_right e2 some_den in
    let e4 : (n * u + lost * w) * u ≤ slack * (w * u) * u = omega arith in
    let e5 : n * u + lost * w ≤ slack * (w * u) = le_of_mul-le-mul_right e4 some_u in
    let e6 : u * gone * w ≤ lost * w = mul-le-mul_right w cut in
    let e7 : full * (u * w) ≤ (reward + gone) * (u * w) = mul-le-mul_right (u * w) less in
    let e8 : low * (u * w) ≤ (reward + slack) * (u * w) = omega arith in
    le_of_mul-le-mul_right e8 (both_positive u w some_u some_w)

-- of nothing nothing is due
nothing_plain : (low num den u : ℕ) → 0 < den → low * den ≤ num * u → num ≡ 0 → low ≤ 0
nothing_plain low num den u some h none =
    let e : low * den ≤ 0 * den = omega (arith, subst (λ n. low * den ≤ n * u) none h) in
    le_of_mul-le-mul_right e some

between_plain : (low high num den u : ℕ) → 0 < den → low * den ≤ num * u → num * u ≤ high * den → low ≤ high
between_plain low high num den u some below above = let e : low * den ≤ high * den = omega arith in le_of_mul-le-mul_right e some

itself : (a : ℕ) → a ≤ a
itself a = omega arith

and_more : (a b c : ℕ) → a ≤ b → a ≤ b + c
and_more a b c h = omega arith

from_nothing : (a b c : ℕ) → a ≤ 0 → a ≤ b + c
from_nothing a b c h = omega arith

the_smaller : (a b : ℕ) → min a b ≤ a
the_smaller a b = omega arith

with_rest : (a b : ℕ) → a ≤ min a b + (a - b)
with_rest a b = omega arith

some_factor : (a b : ℕ) → 0 < a * b → 0 < b
some_factor a zero h = absurd (omega (arith, h))
some_factor a (suc b) h = omega arith

-- ---- the slack

-- the slack of all stretches, in units, where shares left so often
abbrev within : Fraction → ℕ → Ideal → Fraction
within first left i = i.slack ⊕ stretch_slack first i ⊕ whole (left + 1) ⊗ i.rate

-- what a result is of
abbrev Of : {A E : Type 0} → Result A E → Type 0
Of {A} {E} r = A

module _ (p : Pair) (height : ℕ) (l : Log) (pay : Payment) (r : RestsOnLog p l pay.rests_on)
    (due : Of (bounds_of pay.rests_on.entries pay.rests_on.removals pay.rests_on.ratio)) (bounded : bounds_of pay.rests_on.entries pay.rests_on.removals pay.rests_on.ratio ≡ Ok due) where
  abbrev es : List Entry
  es = pay.rests_on.entries

  abbrev history : List LogEntry
  history = history_of p.operator l []

  abbrev s : Span
  s = r.span

  abbrev left : ℕ
  left = count_where is_left s.entries

  abbrev lost : ℕ
  lost = count_where is_left history

  lies : (d : List ℕ) → BoundsLie d es due
  lies d = bounds_lie d es pay.rests_on.removals pay.rests_on.ratio due r.entries.money bounded

  same_reward : (d : List ℕ) → ideal_reward d (span_stated es) ≡ ideal_reward d s
  same_reward d = ap (λ (i : Ideal). i.reward) (sym (same_kept d s es r.entries))

  -- the statement of a reward
  abbrev of_reward : Money → Statement
  of_reward reward = stated p.delegator p.operator height reward pay.rests_on.removals pay.rests_on.ratio es due

  -- that of all that is due at most is right, so the slack covers
  highest_right : IsRight (of_reward due.high) due
  highest_right = record {
    low_is = refl;
    high_is = refl;
    slack_is = refl;
    at_most = λ d. itself (amount_of due.high d);
    at_least = λ d. (
        let b : BoundsLie d es due = lies d in
        let e : amount_of due.low d ≤ amount_of due.high d =
        between_plain (amount_of due.low d) (amount_of due.high d) (ideal_reward d (span_stated es)).numerator (ideal_reward d (span_stated es)).denominator (10 ^ 18) b.ideal_is b.low b.high in
        and_more (amount_of due.low d) (amount_of due.high d) (amount_of due.slack d) e);
  }

  same_shortfall : (d : List ℕ) → slack_due d (span_stated es) left lost (amount_of pay.rests_on.ratio d) ≡ shortfall_of d s history
  same_shortfall d =
      ap (λ (n : ℕ). slack_due d (span_stated es) left lost n) (r.ratio d)
      ∙ ap (λ (x : Fraction). unit ⊗ (within x left (kept (ideal_of d (span_stated es))) ⊕ whole lost ⊗ fraction_of (raised_in d history))) (sym (same_first d s es r.entries))
      ∙ ap (λ (i : Ideal). unit ⊗ (within s.first left i ⊕ whole lost ⊗ fraction_of (raised_in d history))) (sym (same_kept d s es r.entries))

  covered : (d : List ℕ) → Contains (denoms_of pay.rests_on.ratio es) d → AreAtLeast (amount_of due.slack d) (shortfall_of d s history)
  covered d listed =
      subst (AreAtLeast (amount_of due.slack d)) (same_shortfall d)
      (slack_covers (of_reward due.high) due bounded highest_right d listed left lost r.entries.few r.removals)

  -- ---- a fair withdrawal

  module _ (full outstanding : Money) (f : IsFairReward l p.delegator p.operator full outstanding) (reward_is : pay.reward ≡ reward_paid full outstanding) where
    same_span : f.span ≡ s
    same_span = same_some f.span s f.is r.span_is
      where
        same_some : {A : Type 0} {o : Option A} (x y : A) → o ≡ Some x → o ≡ Some y → x ≡ y
        same_some x y h k = cc

    bracket : (d : List ℕ) → Brackets d s (amount_of full d)
    bracket d = subst (λ (x : Span). Brackets d x (amount_of full d)) same_span (f.bracketed d)

    paid : (d : List ℕ) → amount_of pay.reward d ≡ min (amount_of full d) (amount_of outstanding d)
    paid d =
        ap (λ (m : Money). amount_of m d) reward_is
        ∙ amount-all (λ c n. min n (amount_of outstanding c)) (λ c. omega arith) full d (rises_from_money full f.full_is)

    at_most : (d : List ℕ) → amount_of pay.reward d ≤ amount_of due.high d
    at_most d =
        let b : BoundsLie d es due = lies d in
        let i : Fraction = ideal_reward d (span_stated es) in
        let k : IsAtMost (fraction_of (amount_of full d)) i = subst (λ (x : Fraction). IsAtMost (fraction_of (amount_of full d)) x) (sym (same_reward d)) (bracket d).at_most in
        let less : amount_of pay.reward d ≤ amount_of full d = subst (λ (n : ℕ). n ≤ amount_of full d) (sym (paid d)) (the_smaller (amount_of full d) (amount_of outstanding d)) in
        at_most_plain (amount_of pay.reward d) (amount_of full d) (amount_of due.high d) i.numerator i.denominator (10 ^ 18) less b.ideal_is k b.high

    at_least_listed : (d : List ℕ) → Contains (denoms_of pay.rests_on.ratio es) d → amount_of due.low d ≤ amount_of pay.reward d + amount_of due.slack d
    at_least_listed d listed =
        let b : BoundsLie d es due = lies d in
        let i : Fraction = ideal_reward d (span_stated es) in
        let w : Fraction = within s.first left (ideal_of d s) in
        let k : Brackets d s (amount_of full d) = bracket d in
        let slack_is : slack_of d s ≡ unit ⊗ w = ap (λ (n : ℕ). unit ⊗ within s.first n (ideal_of d s)) (left_is d s es r.entries) in
        let some : 0 < w.denominator = some_factor (10 ^ 18) w.denominator (subst (λ (x : Fraction). 0 < x.denominator) slack_is k.slack_is) in
        let above : IsAtMost i (fraction_of (amount_of full d) ⊕ unit ⊗ w) =
        subst (λ (x : Fraction). IsAtMost x (fraction_of (amount_of full d) ⊕ unit ⊗ w)) (sym (same_reward d))
        (subst (λ (x : Fraction). IsAtMost (ideal_reward d s) (fraction_of (amount_of full d) ⊕ x)) slack_is k.at_least) in
        let c : AreAtLeast (amount_of due.slack d) (shortfall_of d s history) = covered d listed in
        let less : amount_of full d ≤ amount_of pay.reward d + (amount_of full d - amount_of outstanding d) =
        subst (λ (n : ℕ). amount_of full d ≤ n + (amount_of full d - amount_of outstanding d)) (sym (paid d)) (with_rest (amount_of full d) (amount_of outstanding d)) in
        at_least_plain (amount_of due.low d) (amount_of pay.reward d) (amount_of full d - amount_of outstanding d) (amount_of full d) (amount_of due.slack d) i.numerator i.denominator w.denominator w.numerator
        (lost * raised_in d history) (10 ^ 18) b.ideal_is some (omega arith) less b.low above (f.cut d) c.at_least

    at_least_absent : (d : List ℕ) → Absent d es → amount_of due.low d ≤ amount_of pay.reward d + amount_of due.slack d
    at_least_absent d absent =
        let b : BoundsLie d es due = lies d in
        let h : IsSpanOf s es = r.entries in
        let there : Absent d h.rest = subst (Absent d) h.is absent in
        let none : (ideal_reward d (span_stated es)).numerator ≡ 0 =
        ap (λ (x : List Entry). (ideal_reward d (span_stated x)).numerator) h.is ∙ nothing_ideal d h.shares h.tokens h.total h.rest there in
        let e : amount_of due.low d ≤ 0 = nothing_plain (amount_of due.low d) (ideal_reward d (span_stated es)).numerator (ideal_reward d (span_stated es)).denominator (10 ^ 18) b.ideal_is b.low none in
        from_nothing (amount_of due.low d) (amount_of pay.reward d) (amount_of due.slack d) e

    at_least : (d : List ℕ) → amount_of due.low d ≤ amount_of pay.reward d + amount_of due.slack d
    at_least d = by (listed_or_absent d pay.rests_on.ratio es)
      where
        by : Absent d es ⊎ Contains (denoms_of pay.rests_on.ratio es) d → amount_of due.low d ≤ amount_of pay.reward d + amount_of due.slack d
        by (inl absent) = at_least_absent d absent
        by (inr listed) = at_least_listed d listed

    rightly : IsRight (of_reward pay.reward) due
    rightly = record { low_is = refl; high_is = refl; slack_is = refl; at_most = at_most; at_least = at_least }

    answer : IsAnswer (of_reward pay.reward) true
    answer = record { due = due; due_is = bounded; yes_is = (λ yes. rightly, λ right. refl) }

-- a statement that is made has bounds
made_of : (p : Pair) (height : ℕ) (pay : Payment) (s : Statement) → statement_of p height pay ≡ Ok s
    → (due : Of (bounds_of pay.rests_on.entries pay.rests_on.removals pay.rests_on.ratio)) × (bounds_of pay.rests_on.entries pay.rests_on.removals pay.rests_on.ratio ≡ Ok due)
    × (stated p.delegator p.operator height pay.reward pay.rests_on.removals pay.rests_on.ratio pay.rests_on.entries due ≡ s)
made_of p height pay s h = by (bounds_of pay.rests_on.entries pay.rests_on.removals pay.rests_on.ratio) h
  where
    by : (q : Result (Of (bounds_of pay.rests_on.entries pay.rests_on.removals pay.rests_on.ratio)) StatementFault)
        → (q >>= λ due. Ok (stated p.delegator p.operator height pay.reward pay.rests_on.removals pay.rests_on.ratio pay.rests_on.entries due)) ≡ Ok s
        → (due : Of (bounds_of pay.rests_on.entries pay.rests_on.removals pay.rests_on.ratio)) × (q ≡ Ok due)
        × (stated p.delegator p.operator height pay.reward pay.rests_on.removals pay.rests_on.ratio pay.rests_on.entries due ≡ s)
    by (Ok due) k = (due, refl, same_ok _ s k)
    by (Err why) k = absurd cc

pub fair_payments_are_stated_rightly : FairPaymentsAreStatedRightly
fair_payments_are_stated_rightly = λ p height l pay full outstanding f reward_is r. record {
  rests = r;
  right = λ s made. (
      let m = made_of p height pay s made in
      subst (λ (x : Statement). IsAnswer x true) m.2 (answer p height l pay r m.0 m.1 full outstanding f reward_is));
  covers = λ s d made listed. (
      let m = made_of p height pay s made in
      subst (λ (x : Statement). AreAtLeast (amount_of x.slack d) (shortfall_of d r.span (history_of p.operator l []))) m.2 (covered p height l pay r m.0 m.1 d listed));
}
