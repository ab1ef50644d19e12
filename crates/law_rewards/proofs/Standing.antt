-- The fractions of the ideal, and the numerators over one denominator that stand for them.
use Rattle.std.proofs.Common.{◌≡◌, ℕ, zero, suc, ◌+◌, ◌-◌, ◌*◌, ◌<◌, ◌≤◌, ◌==◌, false, cond, List, refl, arith, ap, subst, sym, mul-le-mul_right, le_of_mul-le-mul_right, mul-pos, lit<}
use Rattle.base_decimals.specs.Fractions.{Fraction, fraction_of, IsAtMost}
use Rattle.base_shares.specs.Burns.{ratio_of, unit, plus}
use Rattle.rule_modules.specs.Ideal.{Span, Ideal, Brackets, whole, times, ideal_start, ideal_of, stretch_slack, shared_out, stretch_closed}
use Rattle.law_rewards.proofs.{Rounding.{one, one_pos}, Exact.{Exact, exact_start, exact_allocated, exact_slashed}}
use Rattle.law_rewards.proofs.Keeping.{Bounds}

-- n / x is the start's stake
pub record Stands (n x : ℕ) (e : Exact) (i : Ideal) : Type 0 where
  pub den_pos : 0 < e.den
  pub stake_pos : 0 < i.stake.denominator
  pub reward_pos : 0 < i.reward.denominator
  pub rate_pos : 0 < i.rate.denominator
  slack_pos : 0 < i.slack.denominator
  pub stretch : i.stretch ≡ e.slashes + 1
  pub ended : i.ended ≡ e.ended
  pub left : i.left ≡ e.left
  pub stake : i.stake.numerator * (x * e.den) ≡ n * e.kept * i.stake.denominator
  pub reward : i.reward.numerator * (one * x * e.den) ≡ n * (e.closed + e.opened) * i.reward.denominator
  pub rate : i.rate.numerator * (one * e.den) ≡ e.shared * i.rate.denominator
  pub slack : i.slack.numerator * (one * x * e.den) ≡ (e.slashes * one * x * e.den + one * n * e.ended_before * e.den + (x + n) * e.weighted) * i.slack.denominator

reward_step : (u x den t rt rb n g st sb f kept : ℕ) → rt * (u * x * den) ≡ n * g * rb → st * (x * den) ≡ n * kept * sb
    → (rt * (u * sb * t) + f * st * 1 * rb) * (u * x * (den * t)) ≡ n * (g * t + f * kept) * (rb * (u * sb * t))
reward_step u x den t rt rb n g st sb f kept e1 e2 =
    omega (arith, ap (λ m. m * (u * sb * t * t)) e1, ap (λ m. m * (f * rb * u * t)) e2)

-- what an allocation among some tokens gives
abbrev shared_some : ℕ → ℕ → Ideal → Ideal
shared_some raw t i = record i {
  reward = plus i.reward (times (times (fraction_of raw) i.stake) (ratio_of 1 (suc t)));
  rate = plus i.rate (times (fraction_of raw) (ratio_of 1 (suc t)));
}

shared_by : (raw t : ℕ) (i : Ideal) → shared_out raw (suc t) i ≡ shared_some raw t i
shared_by raw t i = let e : (suc t == 0) ≡ false = grind arith in ap (λ b. cond b i (shared_some raw t i)) e

pub stands_allocated : (n x amount tokens : ℕ) (e : Exact) (i : Ideal) → Stands n x e i → Stands n x (exact_allocated e amount tokens) (shared_out amount tokens i)
stands_allocated n x amount zero e i s = s
stands_allocated n x amount (suc t) e i s = subst (λ j. Stands n x (exact_allocated e amount (suc t)) j) (sym (shared_by amount t i)) (record {
  den_pos = mul-pos s.den_pos (omega arith);
  stake_pos = s.stake_pos;
  reward_pos = mul-pos s.reward_pos (mul-pos (mul-pos one_pos s.stake_pos) (omega arith));
  rate_pos = mul-pos s.rate_pos (mul-pos one_pos (omega arith));
  slack_pos = s.slack_pos;
  stretch = s.stretch;
  ended = s.ended;
  left = s.left;
  stake = omega (arith, ap (λ m. m * suc t) s.stake);
  reward = omega (arith, reward_step one x e.den (suc t) i.reward.numerator i.reward.denominator n (e.closed + e.opened) i.stake.numerator i.stake.denominator amount e.kept s.reward s.stake);
  rate = omega (arith, ap (λ m. m * (one * suc t * suc t)) s.rate);
  slack = omega (arith, ap (λ m. m * suc t) s.slack);
})

-- the slack of one more stretch: c of the stretches before, p ended in this one, w weighted rates
slack_step : (u x den n rt rb st sb c p pb w shared : ℕ)
    → rt * (u * den) ≡ shared * rb
    → st * (u * x * den) ≡ (c * u * x * den + u * n * pb * den + (x + n) * w) * sb
    → (st * (1 * (x * 1) * (1 * (1 * x) * rb)) + ((1 * (x * 1) + n * p * 1) * (1 * (1 * x) * rb) + (c + 1) * (1 * x + n * 1) * rt * (1 * (x * 1))) * sb) * (u * x * den)
    ≡ ((c + 1) * u * x * den + u * n * (pb + p) * den + (x + n) * (w + (c + 1) * shared)) * (sb * (1 * (x * 1) * (1 * (1 * x) * rb)))
slack_step u x den n rt rb st sb c p pb w shared e1 e2 =
    omega (arith, ap (λ m. m * (x * x * rb)) e2, ap (λ m. m * ((c + 1) * x * x * x * sb)) e1, ap (λ m. m * ((c + 1) * n * x * x * sb)) e1)

slack_now : (n x : ℕ) (e : Exact) (i : Ideal) → Stands n x e i
    → (plus i.slack (stretch_slack (ratio_of n x) i)).numerator * (one * x * e.den)
    ≡ ((e.slashes + 1) * one * x * e.den + one * n * (e.ended_before + e.ended) * e.den + (x + n) * (e.weighted + (e.slashes + 1) * e.shared)) * (plus i.slack (stretch_slack (ratio_of n x) i)).denominator
slack_now n x e i s = rw (s.stretch, s.ended) (slack_step one x e.den n i.rate.numerator i.rate.denominator i.slack.numerator i.slack.denominator e.slashes e.ended e.ended_before e.weighted e.shared s.rate s.slack)

slack_below_pos : (n x : ℕ) (e : Exact) (i : Ideal) → 0 < x → Stands n x e i → 0 < (plus i.slack (stretch_slack (ratio_of n x) i)).denominator
slack_below_pos n x e i pos s = mul-pos s.slack_pos (mul-pos (mul-pos (lit< tt) (mul-pos pos (lit< tt))) (mul-pos (mul-pos (lit< tt) (mul-pos (lit< tt) pos)) s.rate_pos))

pub stands_slashed : (n x burn tokens : ℕ) (e : Exact) (i : Ideal) → 0 < x → 0 < tokens → Stands n x e i
    → Stands n x (exact_slashed e burn tokens) (stretch_closed (ratio_of n x) burn tokens i)
stands_slashed n x burn tokens e i pos some s = record {
  den_pos = mul-pos s.den_pos some;
  stake_pos = mul-pos s.stake_pos some;
  reward_pos = s.reward_pos;
  rate_pos = lit< tt;
  slack_pos = slack_below_pos n x e i pos s;
  stretch = omega (arith, s.stretch);
  ended = refl;
  left = s.left;
  stake = omega (arith, ap (λ m. m * (tokens * (tokens - burn))) s.stake);
  reward = omega (arith, ap (λ m. m * tokens) s.reward);
  rate = omega arith;
  slack = omega (arith, ap (λ m. m * tokens) (slack_now n x e i s));
}

pub stands_ended : (n x : ℕ) (e : Exact) (i : Ideal) → Stands n x e i → Stands n x (record e { ended = e.ended + 1 }) (record i { ended = i.ended + 1 })
stands_ended n x e i s = record {
  den_pos = s.den_pos;
  stake_pos = s.stake_pos;
  reward_pos = s.reward_pos;
  rate_pos = s.rate_pos;
  slack_pos = s.slack_pos;
  stretch = s.stretch;
  ended = omega (arith, s.ended);
  left = s.left;
  stake = s.stake;
  reward = s.reward;
  rate = s.rate;
  slack = s.slack;
}

pub stands_left : (n x : ℕ) (e : Exact) (i : Ideal) → Stands n x e i → Stands n x (record e { left = e.left + 1 }) (record i { left = i.left + 1 })
stands_left n x e i s = record {
  den_pos = s.den_pos;
  stake_pos = s.stake_pos;
  reward_pos = s.reward_pos;
  rate_pos = s.rate_pos;
  slack_pos = s.slack_pos;
  stretch = s.stretch;
  ended = s.ended;
  left = omega (arith, s.left);
  stake = s.stake;
  reward = s.reward;
  rate = s.rate;
  slack = s.slack;
}

pub stands_start : (n x : ℕ) → 0 < x → Stands n x exact_start (ideal_start (ratio_of n x))
stands_start n x pos = record {
  den_pos = lit< tt;
  stake_pos = pos;
  reward_pos = lit< tt;
  rate_pos = lit< tt;
  slack_pos = lit< tt;
  stretch = refl;
  ended = refl;
  left = refl;
  stake = omega arith;
  reward = omega arith;
  rate = refl;
  slack = omega arith;
}

-- ---- the bounds, as fractions

high_step : (u n x den g rt rb reward : ℕ) → 0 < x * den * u → u * reward * x * den ≤ n * u * g → rt * (u * x * den) ≡ n * g * rb → reward * rb ≤ rt * u
high_step u n x den g rt rb reward pos h e =
    let m : (u * reward * x * den) * rb ≤ (n * u * g) * rb = mul-le-mul_right rb h in
    let m2 : (reward * rb) * (x * den * u) ≤ (rt * u) * (x * den * u) = omega (arith, ap (λ q. q * u) e) in
    le_of_mul-le-mul_right m2 pos

at_most_ideal : (n x reward : ℕ) (e : Exact) (i : Ideal) → 0 < x → Stands n x e i → Bounds (n * one) x e reward → IsAtMost (fraction_of reward) i.reward
at_most_ideal n x reward e i pos s b =
    high_step one n x e.den (e.closed + e.opened) i.reward.numerator i.reward.denominator reward (mul-pos (mul-pos pos s.den_pos) one_pos) b.high s.reward

-- the slack that an ideal gives
abbrev slack_with : Fraction → Ideal → Fraction
slack_with first i = times unit (plus (plus i.slack (stretch_slack first i)) (times (whole (i.left + 1)) i.rate))

-- slack so far lt / lb and the rate vt / vb stand for l and shared
low_step : (u n x den g rt rb reward lt lb vt vb k l shared : ℕ) → 0 < x * den * u
    → u * (n * u) * g ≤ u * u * reward * x * den + (l * u + k * u * x * shared)
    → rt * (u * x * den) ≡ n * g * rb
    → lt * (u * x * den) ≡ l * lb
    → vt * (u * den) ≡ shared * vb
    → rt * (u * (u * (lb * (1 * vb)))) ≤ (reward * (u * (lb * (1 * vb))) + 1 * (lt * (1 * vb) + k * vt * lb) * u) * rb
low_step u n x den g rt rb reward lt lb vt vb k l shared pos h e1 e2 e3 =
    let m : (u * (n * u) * g) * (rb * lb * vb) ≤ (u * u * reward * x * den + (l * u + k * u * x * shared)) * (rb * lb * vb) = mul-le-mul_right (rb * lb * vb) h in
    let m2 : (rt * (u * (u * (lb * (1 * vb))))) * (x * den * u) ≤ ((reward * (u * (lb * (1 * vb))) + 1 * (lt * (1 * vb) + k * vt * lb) * u) * rb) * (x * den * u) =
    omega (arith, ap (λ q. q * (u * u * lb * vb)) e1, ap (λ q. q * (u * vb * rb)) e2, ap (λ q. q * (u * x * k * lb * rb)) e3) in
    le_of_mul-le-mul_right m2 pos

at_least_ideal : (n x reward : ℕ) (e : Exact) (i : Ideal) → 0 < x → Stands n x e i → Bounds (n * one) x e reward
    → IsAtMost i.reward (plus (fraction_of reward) (slack_with (ratio_of n x) i))
at_least_ideal n x reward e i pos s b =
    let sl : Fraction = plus i.slack (stretch_slack (ratio_of n x) i) in
    rw s.left (low_step one n x e.den (e.closed + e.opened) i.reward.numerator i.reward.denominator reward sl.numerator sl.denominator i.rate.numerator i.rate.denominator (e.left + 1)
    ((e.slashes + 1) * one * x * e.den + one * n * (e.ended_before + e.ended) * e.den + (x + n) * (e.weighted + (e.slashes + 1) * e.shared)) e.shared
    (mul-pos (mul-pos pos s.den_pos) one_pos) (omega (arith, b.low)) s.reward (slack_now n x e i s) s.rate)

-- the fractions are fractions: nothing is divided by 0
pub slack_pos : (n x : ℕ) (e : Exact) (i : Ideal) → 0 < x → Stands n x e i → 0 < (slack_with (ratio_of n x) i).denominator
slack_pos n x e i pos s = mul-pos one_pos (mul-pos (slack_below_pos n x e i pos s) (mul-pos (lit< tt) s.rate_pos))

-- a reward within the bounds is bracketed
pub brackets_from : (d : List ℕ) (s : Span) (e : Exact) (reward : ℕ) → 0 < s.first.denominator
    → Stands s.first.numerator s.first.denominator e (ideal_of d s) → Bounds (s.first.numerator * one) s.first.denominator e reward → Brackets d s reward
brackets_from d s e reward pos k b = record {
  reward_is = k.reward_pos;
  slack_is = slack_pos s.first.numerator s.first.denominator e (ideal_of d s) pos k;
  at_most = at_most_ideal s.first.numerator s.first.denominator reward e (ideal_of d s) pos k b;
  at_least = at_least_ideal s.first.numerator s.first.denominator reward e (ideal_of d s) pos k b;
}
