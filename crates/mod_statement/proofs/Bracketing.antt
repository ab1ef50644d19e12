-- The bounds of entries lie about their exact ideal reward.
use Rattle.std.proofs.Common.{◌≡◌, ℕ, ◌+◌, ◌-◌, ◌*◌, ◌^◌, ◌<◌, ◌≤◌, ◌==◌, ◌&&◌, Bool, true, false, List, [], ◌∷◌, map, refl, sym, subst, arith, Ok, All, if◌then◌else◌, nat_lt, nat_le, ltb-true}
use Rattle.std.proofs.lemmas.{Bool.{and_parts, Decides.nat_tests}, List.Elements.{All-head, All-tail}}
use Rattle.base_decimals.specs.{Fractions.{Fraction, fraction_of}, Rounding.{cut, up}}
use Rattle.base_decimals.proofs.Nearest.{up_above, up_least}
use Rattle.base_shares.{proofs.Roundings.{cut_low, cut_most}, specs.Burns.ratio_of}
use Rattle.base_coins.{specs.{Steps.{◌>>=◌}, Coins.{Money, IsMoney, amount_of}}, proofs.Order.{Rises, rises_from_money}}
use Rattle.base_coins.proofs.Amounts.{ok, same_ok, bind_ok}
use Rattle.rule_modules.specs.Ideal.{Ideal, ◌⊕◌, ◌⊗◌, ideal_after, ideal_over, ideal_reward, ideal_start, stretch_closed}
use Rattle.mod_statement.specs.declared.entry.Entry.{Entry, TheVariants.{Started, Allocated, Ended, Slashed, Touched}}
use Rattle.mod_statement.specs.declared.{bounds.Bounds.Bounds, stakes.Stakes.Stakes, sums.Sums.Sums}
use Rattle.mod_statement.specs.Entries.{AreBehind, HasMoney, is_behind, stakes_worth}
use Rattle.mod_statement.specs.{Sums.{coins_shared, no_sums, sums_after, sums_over, sums_slashed}, Slack.slack_coins}
use Rattle.mod_statement.specs.{Bounds.{bounds_of, bounds_over}, Bracketed.{RightIsBracketed, logged, span_stated}}
use Rattle.mod_statement.proofs.Spans.{IsSpan, span_bounds}
use Rattle.mod_statement.proofs.Shared.{Shares, shares_of, adds_rises, adds_amount, least_of, most_of}
use Rattle.mod_statement.proofs.Exact.{low_joined, high_joined, low_left, high_left, both_positive}

-- the sums at a place of a span, about the exact stake and the exact reward up to there
pub record LieAbout (d : List ℕ) (s : Sums) (i : Ideal) : Type 0 where
  pub low_rises : Rises s.low
  pub high_rises : Rises s.high
  pub stake_is : 0 < i.stake.denominator
  pub reward_is : 0 < i.reward.denominator
  pub lower : s.stakes.lower * i.stake.denominator ≤ i.stake.numerator * 10 ^ 18
  pub upper : i.stake.numerator * 10 ^ 18 ≤ s.stakes.upper * i.stake.denominator
  pub low : amount_of s.low d * i.reward.denominator ≤ i.reward.numerator * 10 ^ 18
  pub high : i.reward.numerator * 10 ^ 18 ≤ amount_of s.high d * i.reward.denominator

-- ---- an allocation

some_tokens : (tokens : ℕ) → (tokens == 0) ≡ false → 0 < tokens
some_tokens tokens h = grind (arith, nat_tests)

le_zero : (a : ℕ) → a ≤ 0 → a ≡ 0
le_zero a h = omega arith

le_from : (a b c : ℕ) → a ≡ b → b ≤ c → a ≤ c
le_from a b c e h = omega arith

le_to : (a b c : ℕ) → a ≡ b → c ≤ b → c ≤ a
le_to a b c e h = omega arith

-- the exact reward with a share in it
abbrev shared_reward : ℕ → ℕ → Ideal → Fraction
shared_reward f tokens i = record {
  numerator = i.reward.numerator * (10 ^ 18 * i.stake.denominator * tokens) + f * i.stake.numerator * 1 * i.reward.denominator;
  denominator = i.reward.denominator * (10 ^ 18 * i.stake.denominator * tokens);
}

nothing_least : (stake tokens : ℕ) → 0 < tokens * 10 ^ 18 → least_of stake tokens 0 ≡ 0
nothing_least stake tokens some = omega (arith, cut_most (0 * stake) (tokens * 10 ^ 18) 0 some (omega arith))

nothing_most : (stake tokens : ℕ) → 0 < tokens * 10 ^ 18 → most_of stake tokens 0 ≡ 0
nothing_most stake tokens some = le_zero (most_of stake tokens 0) (up_least (0 * stake) (tokens * 10 ^ 18) 0 some (omega arith))

no_factor : (n m f p x u : ℕ) → (n * x + f * p * 1 * m) * u ≡ (n * x + f * p * m) * u
no_factor n m f p x u = omega arith

allocated_some : (d : List ℕ) (tokens : ℕ) (s next : Sums) (coins : Money) (i j : Ideal) → 0 < tokens → Rises coins
    → j.stake ≡ i.stake → j.reward ≡ shared_reward (amount_of coins d) tokens i
    → Shares tokens s coins next → LieAbout d s i → LieAbout d next j
allocated_some d tokens s next coins i j some money stake_same reward_is h about =
    let f : ℕ = amount_of coins d in
    let n : ℕ = i.reward.numerator in
    let m : ℕ = i.reward.denominator in
    let p : ℕ = i.stake.numerator in
    let q : ℕ = i.stake.denominator in
    let scaled : 0 < tokens * 10 ^ 18 = omega arith in
    let least : ℕ = least_of s.stakes.lower tokens f in
    let most : ℕ = most_of s.stakes.upper tokens f in
    let low_is : amount_of next.low d ≡ amount_of s.low d + least =
    adds_amount (least_of s.stakes.lower tokens) (nothing_least s.stakes.lower tokens scaled) s.low next.low coins d about.low_rises money h.low in
    let high_is : amount_of next.high d ≡ amount_of s.high d + most =
    adds_amount (most_of s.stakes.upper tokens) (nothing_most s.stakes.upper tokens scaled) s.high next.high coins d about.high_rises money h.high in
    let low_fact : (amount_of s.low d + least) * (m * (10 ^ 18 * q * tokens)) ≤ (n * (10 ^ 18 * q * tokens) + f * p * m) * 10 ^ 18 =
    low_joined (amount_of s.low d) least f s.stakes.lower n m p q tokens (10 ^ 18) about.low about.lower (cut_low (f * s.stakes.lower) (tokens * 10 ^ 18) scaled) in
    let high_fact : (n * (10 ^ 18 * q * tokens) + f * p * m) * 10 ^ 18 ≤ (amount_of s.high d + most) * (m * (10 ^ 18 * q * tokens)) =
    high_joined (amount_of s.high d) most f s.stakes.upper n m p q tokens (10 ^ 18) about.high about.upper (up_above (f * s.stakes.upper) (tokens * 10 ^ 18) scaled) in
    let one_more : (n * (10 ^ 18 * q * tokens) + f * p * 1 * m) * 10 ^ 18 ≡ (n * (10 ^ 18 * q * tokens) + f * p * m) * 10 ^ 18 = no_factor n m f p (10 ^ 18 * q * tokens) (10 ^ 18) in
    record {
      low_rises = adds_rises (least_of s.stakes.lower tokens) s.low next.low coins about.low_rises h.low;
      high_rises = adds_rises (most_of s.stakes.upper tokens) s.high next.high coins about.high_rises h.high;
      stake_is = subst (λ (k : Fraction). 0 < k.denominator) (sym stake_same) about.stake_is;
      reward_is = subst (λ (k : Fraction). 0 < k.denominator) (sym reward_is)
          (both_positive m (10 ^ 18 * q * tokens) about.reward_is (both_positive (10 ^ 18 * q) tokens (both_positive (10 ^ 18) q (omega arith) about.stake_is) some));
      lower = subst (λ (k : Fraction). next.stakes.lower * k.denominator ≤ k.numerator * 10 ^ 18) (sym stake_same)
          (subst (λ (k : Stakes). k.lower * q ≤ p * 10 ^ 18) (sym h.stakes_are) about.lower);
      upper = subst (λ (k : Fraction). k.numerator * 10 ^ 18 ≤ next.stakes.upper * k.denominator) (sym stake_same)
          (subst (λ (k : Stakes). p * 10 ^ 18 ≤ k.upper * q) (sym h.stakes_are) about.upper);
      low = subst (λ (k : Fraction). amount_of next.low d * k.denominator ≤ k.numerator * 10 ^ 18) (sym reward_is)
          (subst (λ (k : ℕ). k * (m * (10 ^ 18 * q * tokens)) ≤ (n * (10 ^ 18 * q * tokens) + f * p * 1 * m) * 10 ^ 18) (sym low_is)
          (le_to _ _ _ one_more low_fact));
      high = subst (λ (k : Fraction). k.numerator * 10 ^ 18 ≤ amount_of next.high d * k.denominator) (sym reward_is)
          (subst (λ (k : ℕ). (n * (10 ^ 18 * q * tokens) + f * p * 1 * m) * 10 ^ 18 ≤ k * (m * (10 ^ 18 * q * tokens))) (sym high_is)
          (le_from _ _ _ one_more high_fact));
    }

allocated_test : (t : Bool) (d : List ℕ) (tokens : ℕ) (s next : Sums) (coins : Money) (i : Ideal) → (tokens == 0) ≡ t → IsMoney coins
    → (if t then ok s else coins_shared tokens s coins) ≡ ok next → LieAbout d s i
    → LieAbout d next (if t then i else record i {
      reward = i.reward ⊕ fraction_of (amount_of coins d) ⊗ i.stake ⊗ ratio_of 1 tokens;
      rate = i.rate ⊕ fraction_of (amount_of coins d) ⊗ ratio_of 1 tokens;
    })
allocated_test true d tokens s next coins i none money h about = subst (λ n. LieAbout d n i) (same_ok h) about
allocated_test false d tokens s next coins i none money h about =
    allocated_some d tokens s next coins i (record i {
      reward = i.reward ⊕ fraction_of (amount_of coins d) ⊗ i.stake ⊗ ratio_of 1 tokens;
      rate = i.rate ⊕ fraction_of (amount_of coins d) ⊗ ratio_of 1 tokens;
    }) (some_tokens tokens none) (rises_from_money coins money) refl refl (shares_of tokens s next coins h) about

-- ---- the other entries

-- what changes neither the stake nor the reward
same_ideal : (d : List ℕ) (s : Sums) (i j : Ideal) → j.stake ≡ i.stake → j.reward ≡ i.reward → LieAbout d s i → LieAbout d s j
same_ideal d s i j stake_same reward_same about = record {
  low_rises = about.low_rises;
  high_rises = about.high_rises;
  stake_is = subst (λ (k : Fraction). 0 < k.denominator) (sym stake_same) about.stake_is;
  reward_is = subst (λ (k : Fraction). 0 < k.denominator) (sym reward_same) about.reward_is;
  lower = subst (λ (k : Fraction). s.stakes.lower * k.denominator ≤ k.numerator * 10 ^ 18) (sym stake_same) about.lower;
  upper = subst (λ (k : Fraction). k.numerator * 10 ^ 18 ≤ s.stakes.upper * k.denominator) (sym stake_same) about.upper;
  low = subst (λ (k : Fraction). amount_of s.low d * k.denominator ≤ k.numerator * 10 ^ 18) (sym reward_same) about.low;
  high = subst (λ (k : Fraction). k.numerator * 10 ^ 18 ≤ amount_of s.high d * k.denominator) (sym reward_same) about.high;
}

-- the exact stake behind a slash
abbrev left_stake : ℕ → ℕ → Ideal → Fraction
left_stake burned tokens i = record { numerator = i.stake.numerator * (tokens - burned); denominator = i.stake.denominator * tokens }

slashed_about : (d : List ℕ) (burned tokens : ℕ) (s : Sums) (i j : Ideal) → 0 < tokens → j.stake ≡ left_stake burned tokens i → j.reward ≡ i.reward
    → LieAbout d s i → LieAbout d (sums_slashed burned tokens s) j
slashed_about d burned tokens s i j some stake_is reward_same about =
    let p : ℕ = i.stake.numerator in
    let q : ℕ = i.stake.denominator in
    let left : ℕ = tokens - burned in
    let lower_fact : cut (s.stakes.lower * left) tokens * (q * tokens) ≤ p * left * 10 ^ 18 =
    low_left (cut (s.stakes.lower * left) tokens) s.stakes.lower p q left tokens (10 ^ 18) about.lower (cut_low (s.stakes.lower * left) tokens some) in
    let upper_fact : p * left * 10 ^ 18 ≤ up (s.stakes.upper * left) tokens * (q * tokens) =
    high_left (up (s.stakes.upper * left) tokens) s.stakes.upper p q left tokens (10 ^ 18) about.upper (up_above (s.stakes.upper * left) tokens some) in
    record {
      low_rises = about.low_rises;
      high_rises = about.high_rises;
      stake_is = subst (λ (k : Fraction). 0 < k.denominator) (sym stake_is) (both_positive q tokens about.stake_is some);
      reward_is = subst (λ (k : Fraction). 0 < k.denominator) (sym reward_same) about.reward_is;
      lower = subst (λ (k : Fraction). cut (s.stakes.lower * left) tokens * k.denominator ≤ k.numerator * 10 ^ 18) (sym stake_is) lower_fact;
      upper = subst (λ (k : Fraction). k.numerator * 10 ^ 18 ≤ up (s.stakes.upper * left) tokens * k.denominator) (sym stake_is) upper_fact;
      low = subst (λ (k : Fraction). amount_of s.low d * k.denominator ≤ k.numerator * 10 ^ 18) (sym reward_same) about.low;
      high = subst (λ (k : Fraction). k.numerator * 10 ^ 18 ≤ amount_of s.high d * k.denominator) (sym reward_same) about.high;
    }

-- a slash that may stand behind a start is of some tokens
slash_of_some : (burned tokens : ℕ) → (nat_lt 0 tokens && nat_le tokens (10 ^ 18) && nat_le burned tokens) ≡ true → 0 < tokens
slash_of_some burned tokens h =
    let (both, burns) = and_parts (nat_lt 0 tokens && nat_le tokens (10 ^ 18)) (nat_le burned tokens) h in
    let (some, most) = and_parts (nat_lt 0 tokens) (nat_le tokens (10 ^ 18)) both in
    ltb-true 0 tokens some

-- ---- one entry, and all of them

one_entry : (d : List ℕ) (first : Fraction) (s next : Sums) (e : Entry) (i : Ideal) → is_behind e ≡ true → HasMoney e → sums_after s e ≡ Ok next
    → LieAbout d s i → LieAbout d next (ideal_after d first i (logged e))
one_entry d first s next (Started shares tokens total) i b m h about = subst (λ n. LieAbout d n i) (same_ok h) about
one_entry d first s next (Allocated coins tokens) i b m h about = allocated_test (tokens == 0) d tokens s next coins i refl m h about
one_entry d first s next Ended i b m h about = subst (λ n. LieAbout d n (record i { ended = i.ended + 1 })) (same_ok h) (same_ideal d s i (record i { ended = i.ended + 1 }) refl refl about)
one_entry d first s next (Slashed burned tokens) i b m h about =
    subst (λ n. LieAbout d n (stretch_closed first burned tokens i)) (same_ok h)
    (slashed_about d burned tokens s i (stretch_closed first burned tokens i) (slash_of_some burned tokens b) refl refl about)
one_entry d first s next Touched i b m h about = subst (λ n. LieAbout d n (record i { left = i.left + 1 })) (same_ok h) (same_ideal d s i (record i { left = i.left + 1 }) refl refl about)

pub all_entries : (d : List ℕ) (first : Fraction) (es : List Entry) (s out : Sums) (i : Ideal) → AreBehind es → All HasMoney es → sums_over s es ≡ Ok out
    → LieAbout d s i → LieAbout d out (ideal_over d first i (map logged es))
all_entries d first [] s out i b m h about = subst (λ n. LieAbout d n i) (same_ok h) about
all_entries d first (e ∷ es) s out i b m h about =
    let (next, here, later) = bind_ok (sums_after s e) (λ n. sums_over n es) out h in
    all_entries d first es next out (ideal_after d first i (logged e)) (All-tail (λ x. is_behind x ≡ true) e es b) (All-tail HasMoney e es m) later
    (one_entry d first s next e i (All-head (λ x. is_behind x ≡ true) e es b) (All-head HasMoney e es m) here about)

-- ---- the start

pub start_about : (d : List ℕ) (shares tokens total : ℕ) → 0 < total → LieAbout d (no_sums (stakes_worth shares tokens total)) (ideal_start (ratio_of (shares * tokens) total))
start_about d shares tokens total some =
    let low_fact : cut (tokens * 10 ^ 18 * shares) total * total ≤ tokens * 10 ^ 18 * shares = cut_low (tokens * 10 ^ 18 * shares) total some in
    let high_fact : tokens * 10 ^ 18 * shares ≤ up (tokens * 10 ^ 18 * shares) total * total = up_above (tokens * 10 ^ 18 * shares) total some in
    let turned : tokens * 10 ^ 18 * shares ≡ shares * tokens * 10 ^ 18 = omega arith in
    record {
      low_rises = tt;
      high_rises = tt;
      stake_is = some;
      reward_is = omega arith;
      lower = subst (λ n. cut (tokens * 10 ^ 18 * shares) total * total ≤ n) turned low_fact;
      upper = subst (λ n. n ≤ up (tokens * 10 ^ 18 * shares) total * total) turned high_fact;
      low = omega arith;
      high = omega arith;
    }

-- ---- the bounds of a span

-- the bounds lie about the exact ideal reward
pub record BoundsLie (d : List ℕ) (es : List Entry) (due : Bounds) : Type 0 where
  pub ideal_is : 0 < (ideal_reward d (span_stated es)).denominator
  pub low : amount_of due.low d * (ideal_reward d (span_stated es)).denominator ≤ (ideal_reward d (span_stated es)).numerator * 10 ^ 18
  pub high : (ideal_reward d (span_stated es)).numerator * 10 ^ 18 ≤ amount_of due.high d * (ideal_reward d (span_stated es)).denominator

span_lies : (d : List ℕ) (shares tokens total : ℕ) (rest : List Entry) (removals : ℕ) (ratio : Money) (due : Bounds) → 0 < total → AreBehind rest → All HasMoney rest
    → bounds_over (stakes_worth shares tokens total) rest removals ratio ≡ Ok due → BoundsLie d (Started shares tokens total ∷ rest) due
span_lies d shares tokens total rest removals ratio due some b m h =
    let start : Stakes = stakes_worth shares tokens total in
    let first : Fraction = ratio_of (shares * tokens) total in
    let (sums, sums_is, h1) = bind_ok (sums_over (no_sums start) rest)
    (λ sums. slack_coins start.upper rest removals ratio >>= λ slack. let r : Bounds = record { low = sums.low; high = sums.high; slack = slack } in ok r) due h in
    let (slack, slack_is, h2) = bind_ok (slack_coins start.upper rest removals ratio)
    (λ slack. let r : Bounds = record { low = sums.low; high = sums.high; slack = slack } in ok r) due h1 in
    let made : Bounds = record { low = sums.low; high = sums.high; slack = slack } in
    let is : made ≡ due = same_ok {x = made} h2 in
    let about : LieAbout d sums (ideal_over d first (ideal_start first) (map logged rest)) =
    all_entries d first rest (no_sums start) sums (ideal_start first) b m sums_is (start_about d shares tokens total some) in
    subst (BoundsLie d (Started shares tokens total ∷ rest)) is (record { ideal_is = about.reward_is; low = about.low; high = about.high })

pub bounds_lie : (d : List ℕ) (es : List Entry) (removals : ℕ) (ratio : Money) (due : Bounds) → All HasMoney es → bounds_of es removals ratio ≡ Ok due → BoundsLie d es due
bounds_lie d es removals ratio due m h =
    let b : IsSpan es removals ratio due = span_bounds es removals ratio due h in
    let money : All HasMoney b.rest = All-tail HasMoney (Started b.shares b.tokens b.total) b.rest (subst (All HasMoney) b.is m) in
    subst (λ (l : List Entry). BoundsLie d l due) (sym b.is) (span_lies d b.shares b.tokens b.total b.rest removals ratio due b.some b.behind money b.due_is)

-- ---- a statement that is right

pub right_is_bracketed : RightIsBracketed
right_is_bracketed = λ s due m is right d.
    let lies : BoundsLie d s.entries due = bounds_lie d s.entries s.removals s.ratio due m is in
    record {
      ideal_is = lies.ideal_is;
      low = subst (λ (c : Money). amount_of c d * (ideal_reward d (span_stated s.entries)).denominator ≤ (ideal_reward d (span_stated s.entries)).numerator * 10 ^ 18) (sym right.low_is) lies.low;
      high = subst (λ (c : Money). (ideal_reward d (span_stated s.entries)).numerator * 10 ^ 18 ≤ amount_of c d * (ideal_reward d (span_stated s.entries)).denominator) (sym right.high_is) lies.high;
      at_most = right.at_most d;
      at_least = right.at_least d;
    }
