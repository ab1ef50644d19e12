-- What stands between the code's numbers and the ideal's, at each moment of a span.
use Rattle.std.proofs.Common.{◌≡◌, ℕ, zero, suc, ◌+◌, ◌-◌, ◌*◌, ◌<◌, ◌≤◌, refl, arith, ap, mul-le-mul_right, le_of_mul-le-mul_right, min, le_trans, mul-pos, mul-le-mul, lit<, ◌⊎◌, inl, inr}
use Rattle.base_shares.specs.{Shares.{value_cut_of, value_even_of}, Burns.recorded_fraction}
use Rattle.base_shares.proofs.Fractions.{fraction_low, fraction_high, fraction_most}
use Rattle.rule_modules.specs.Periods.{slashed_stake}
use Rattle.law_rewards.specs.Account.{product_cut, increment_of}
use Rattle.law_rewards.proofs.Rounding.{one, one_pos, floor_low, floor_high, value_cut_low, value_cut_high, value_even_low, increment_low, increment_high}
use Rattle.law_rewards.proofs.Steps.{close_high, close_low, slash_high, slash_low, slash_value, end_high, end_low, clamp_gap, start_low, fraction_gap}
use Rattle.law_rewards.proofs.Exact.{Reckoned, stretch_paid, reckoned_reward, Exact, exact_start, exact_allocated, exact_slashed}

-- a / x is the ideal stake at the start; mine are the delegator's shares
pub record Keeps (a x mine tokens shares current : ℕ) (e : Exact) (r : Reckoned) : Type 0 where
  pub pend : ℕ
  pub den_pos : 0 < e.den
  pub small : e.kept ≤ e.den
  pub product : e.opened * e.den ≡ e.shared * e.kept
  pub pend_is : 0 < tokens → pend * tokens ≡ current * e.den
  pub pend_none : tokens ≡ 0 → pend ≡ 0
  pub rise_high : r.rise * e.den + pend ≤ e.shared
  pub rise_low : e.shared ≤ (r.rise + e.ended) * e.den + pend
  pub stake_high : r.stake * x * e.den ≤ a * e.kept
  pub stake_low : one * a * e.kept ≤ one * r.stake * x * e.den + (e.slashes + 1) * (one * x + a) * e.den
  pub paid_high : one * r.paid * x * e.den ≤ a * e.closed
  pub paid_low : one * a * e.closed ≤ one * one * r.paid * x * e.den + e.slashes * (one * one * x * e.den) + one * a * e.ended_before * e.den + (one * x + a) * e.weighted
  pub holds : mine ≤ shares
  pub value : a * e.kept * shares ≤ (mine * tokens * one + e.left * shares) * (x * e.den)

-- nothing is pending right after the end of a period
pub none_pending : (pend t c den : ℕ) → (0 < t → pend * t ≡ c * den) → (t ≡ 0 → pend ≡ 0) → c ≡ 0 → pend ≡ 0
none_pending pend zero c den f g h = g refl
none_pending pend (suc t) c den f g h =
    let e : pend * suc t ≡ c * den = f (omega arith) in
    let k : c * den ≡ 0 * den = ap (λ n. n * den) h in
    let m : pend * suc t ≤ 0 * suc t = omega arith in
    let n : pend ≤ 0 = le_of_mul-le-mul_right m (omega arith) in
    omega arith

pub keeps_allocates : (a x mine tokens shares current amount : ℕ) (e : Exact) (r : Reckoned)
    → Keeps a x mine tokens shares current e r
    → Keeps a x mine tokens shares (current + amount) (exact_allocated e amount tokens) r
keeps_allocates a x mine zero shares current amount e r k = record {
  pend = k.pend;
  den_pos = k.den_pos;
  small = k.small;
  product = k.product;
  pend_is = λ h. absurd (omega arith);
  pend_none = k.pend_none;
  rise_high = k.rise_high;
  rise_low = k.rise_low;
  stake_high = k.stake_high;
  stake_low = k.stake_low;
  paid_high = k.paid_high;
  paid_low = k.paid_low;
  holds = k.holds;
  value = k.value;
}
keeps_allocates a x mine (suc t) shares current amount e r k = record {
  pend = k.pend * suc t + amount * e.den;
  den_pos = omega (arith, mul-le-mul_right (suc t) k.den_pos);
  small = mul-le-mul_right (suc t) k.small;
  product = omega (arith, ap (λ n. n * (suc t * suc t)) k.product);
  pend_is = λ h. omega (arith, ap (λ n. n * suc t) (k.pend_is h));
  pend_none = λ h. absurd (omega arith);
  rise_high = omega (arith, mul-le-mul_right (suc t) k.rise_high);
  rise_low = omega (arith, mul-le-mul_right (suc t) k.rise_low);
  stake_high = omega (arith, mul-le-mul_right (suc t) k.stake_high);
  stake_low = omega (arith, mul-le-mul_right (suc t) k.stake_low);
  paid_high = omega (arith, mul-le-mul_right (suc t) k.paid_high);
  paid_low = omega (arith, mul-le-mul_right (suc t) k.paid_low);
  holds = k.holds;
  value = omega (arith, mul-le-mul_right (suc t) k.value);
}

pub keeps_ends : (a x mine tokens shares current : ℕ) (e : Exact) (r : Reckoned)
    → Keeps a x mine tokens shares current e r
    → Keeps a x mine tokens shares 0 (record e { ended = e.ended + 1 }) (record r { rise = r.rise + increment_of current tokens })
keeps_ends a x mine zero shares current e r k =
    let none : k.pend ≡ 0 = k.pend_none refl in record {
      pend = 0;
      den_pos = k.den_pos;
      small = k.small;
      product = k.product;
      pend_is = λ h. absurd (omega arith);
      pend_none = λ h. refl;
      rise_high = omega (arith, k.rise_high, none);
      rise_low = omega (arith, k.rise_low, none);
      stake_high = k.stake_high;
      stake_low = k.stake_low;
      paid_high = k.paid_high;
      paid_low = k.paid_low;
      holds = k.holds;
      value = k.value;
    }
keeps_ends a x mine (suc t) shares current e r k = record {
  pend = 0;
  den_pos = k.den_pos;
  small = k.small;
  product = k.product;
  pend_is = λ h. omega arith;
  pend_none = λ h. refl;
  rise_high = omega (arith, end_high e.den e.shared r.rise k.pend current (suc t) (increment_of current (suc t)) (omega arith) k.rise_high (k.pend_is (omega arith)) (increment_low current t));
  rise_low = omega (arith, end_low e.den e.shared r.rise e.ended k.pend current (suc t) (increment_of current (suc t)) (omega arith) k.rise_low (k.pend_is (omega arith)) (increment_high current t));
  stake_high = k.stake_high;
  stake_low = k.stake_low;
  paid_high = k.paid_high;
  paid_low = k.paid_low;
  holds = k.holds;
  value = k.value;
}

pub keeps_slashes : (a x mine tokens shares current burn : ℕ) (e : Exact) (r : Reckoned)
    → current ≡ 0 → 0 < tokens → tokens ≤ one → burn ≤ tokens
    → Keeps a x mine tokens shares current e r
    → Keeps a x mine (tokens - burn) shares current
    (exact_slashed e burn tokens) (stretch_paid r (recorded_fraction burn tokens))
keeps_slashes a x mine tokens shares current burn e r c0 some few less k =
    let f : ℕ = recorded_fraction burn tokens in
    let gap : ((one - f) * tokens ≤ one * (tokens - burn)) × (one * (tokens - burn) ≤ (one - f) * tokens + tokens) =
    fraction_gap one f tokens burn (fraction_most burn tokens less some) less (fraction_low burn tokens some few) (fraction_high burn tokens some) in
    let none : k.pend ≡ 0 = none_pending k.pend tokens current e.den k.pend_is k.pend_none c0 in
    let high : r.rise * e.den ≤ e.shared = omega (arith, k.rise_high) in
    let low : e.shared ≤ (r.rise + e.ended) * e.den = omega (arith, k.rise_low, none) in
    let paid : ℕ = product_cut r.rise r.stake in
    let closed_high : one * paid * x * e.den ≤ a * e.opened =
    close_high one a x e.den e.kept e.opened e.shared r.rise r.stake paid k.den_pos k.product high k.stake_high (floor_low (r.rise * r.stake) one) in
    let closed_low : one * a * e.opened ≤ one * one * paid * x * e.den + one * one * x * e.den + one * a * e.ended * e.den + ((e.slashes + 1) * (one * x + a)) * e.shared =
    close_low one a x e.den e.kept e.opened e.shared r.rise e.ended r.stake paid ((e.slashes + 1) * (one * x + a)) k.den_pos k.product k.small high low k.stake_low (floor_high (r.rise * r.stake) one one_pos) in
    record {
      pend = 0;
      den_pos = mul-pos k.den_pos some;
      small = mul-le-mul k.small (omega arith);
      product = omega arith;
      pend_is = λ h. omega (arith, ap (λ n. n * (e.den * tokens)) c0);
      pend_none = λ h. refl;
      rise_high = omega arith;
      rise_low = omega arith;
      stake_high = slash_high one a x e.den e.kept r.stake (slashed_stake r.stake f) (one - f) (tokens - burn) tokens one_pos gap.0 (floor_low (r.stake * (one - f)) one) k.stake_high;
      stake_low = slash_low one a x e.den e.kept r.stake (slashed_stake r.stake f) (one - f) (tokens - burn) tokens (e.slashes + 1) (omega arith) k.small gap.1 (floor_high (r.stake * (one - f)) one one_pos) k.stake_high k.stake_low;
      paid_high = omega (arith, mul-le-mul_right tokens k.paid_high, mul-le-mul_right tokens closed_high);
      paid_low = omega (arith, mul-le-mul_right tokens k.paid_low, mul-le-mul_right tokens closed_low);
      holds = k.holds;
      value = slash_value one a x e.den e.kept mine e.left shares (tokens - burn) tokens (omega arith) k.value;
    }

-- tokens and shares change right after the end of a period
pub keeps_pool : (a x mine tokens shares current tokens' shares' left' : ℕ) (e : Exact) (r : Reckoned)
    → current ≡ 0 → mine ≤ shares'
    → a * e.kept * shares' ≤ (mine * tokens' * one + left' * shares') * (x * e.den)
    → Keeps a x mine tokens shares current e r
    → Keeps a x mine tokens' shares' current (record e { left = left' }) r
keeps_pool a x mine tokens shares current tokens' shares' left' e r c0 holds val k =
    let none : k.pend ≡ 0 = none_pending k.pend tokens current e.den k.pend_is k.pend_none c0 in record {
      pend = 0;
      den_pos = k.den_pos;
      small = k.small;
      product = k.product;
      pend_is = λ h. omega (arith, ap (λ n. n * e.den) c0);
      pend_none = λ h. refl;
      rise_high = omega (arith, k.rise_high);
      rise_low = omega (arith, k.rise_low, none);
      stake_high = k.stake_high;
      stake_low = k.stake_low;
      paid_high = k.paid_high;
      paid_low = k.paid_low;
      holds = holds;
      value = val;
    }

-- ---- the start and the end of a span

pub keeps_start : (mine tokens shares current : ℕ) → current ≡ 0 → 0 < mine → mine ≤ shares
    → Keeps (mine * tokens * one) shares mine tokens shares current exact_start (record { stake = value_cut_of tokens shares mine; rise = 0; paid = 0 })
keeps_start mine tokens shares current c0 pos holds =
    let st : ℕ = value_cut_of tokens shares mine in
    let high : st * shares ≤ mine * tokens * one = value_cut_low tokens shares mine in
    let low : mine * tokens * one < st * shares + shares = value_cut_high tokens shares mine (omega arith) in
    let low' : one * (mine * tokens * one) ≤ one * st * shares + (one * shares + mine * tokens * one) = start_low one (mine * tokens * one) shares st low in
    record {
      pend = 0;
      den_pos = lit< tt;
      small = omega arith;
      product = refl;
      pend_is = λ h. omega arith;
      pend_none = λ h. refl;
      rise_high = omega arith;
      rise_low = omega arith;
      stake_high = omega arith;
      stake_low = omega arith;
      paid_high = omega arith;
      paid_low = omega arith;
      holds = holds;
      value = omega arith;
    }

cases_le : (m n : ℕ) → (m ≤ n) ⊎ (n ≤ m)
cases_le m n = grind arith

-- whichever of the two the stake is, its bound is within both
lowest : (u a x den closed opened shared n p pb w k paid rise stake value : ℕ) (cuts : ℕ → ℕ)
    → u * a * closed ≤ u * u * paid * x * den + n * (u * u * x * den) + u * a * pb * den + (u * x + a) * w
    → u * a * opened ≤ u * u * cuts stake * x * den + u * u * x * den + u * a * p * den + ((n + 1) * (u * x + a)) * shared
    → u * a * opened ≤ u * u * cuts value * x * den + u * u * x * den + u * a * p * den + ((k + 1) * u * x) * shared
    → u * a * (closed + opened) ≤ u * u * (paid + cuts (min stake value)) * x * den
    + ((n + 1) * (u * u * x * den) + u * a * (pb + p) * den + (u * x + a) * (w + (n + 1) * shared) + (k + 1) * u * x * shared)
lowest u a x den closed opened shared n p pb w k paid rise stake value cuts h without clamped =
    elim (cases_le stake value) [
      | inl less ↦ (let same : cuts (min stake value) ≡ cuts stake = ap cuts (omega arith) in rw same (omega arith))
      | inr more ↦ (let same : cuts (min stake value) ≡ cuts value = ap cuts (omega arith) in rw same (omega arith))
    ]

-- the reward against the ideal, multiplied out
pub record Bounds (a x : ℕ) (e : Exact) (reward : ℕ) : Type 0 where
  pub den_pos : 0 < e.den
  pub high : one * reward * x * e.den ≤ a * (e.closed + e.opened)
  pub low : one * a * (e.closed + e.opened) ≤ one * one * reward * x * e.den
      + ((e.slashes + 1) * (one * one * x * e.den) + one * a * (e.ended_before + e.ended) * e.den + (one * x + a) * (e.weighted + (e.slashes + 1) * e.shared) + (e.left + 1) * one * x * e.shared)

min_below : (m n : ℕ) → min m n ≤ m
min_below m n = omega arith

pub bounds : (a x mine tokens shares current : ℕ) (e : Exact) (r : Reckoned) → current ≡ 0 → 0 < mine → Keeps a x mine tokens shares current e r
    → Bounds a x e (reckoned_reward r (value_even_of tokens shares mine))
bounds a x mine tokens shares current e r c0 pos k =
    let value : ℕ = value_even_of tokens shares mine in
    let st : ℕ = min r.stake value in
    let paid : ℕ = product_cut r.rise st in
    let none : k.pend ≡ 0 = none_pending k.pend tokens current e.den k.pend_is k.pend_none c0 in
    let some : 0 < shares = omega (arith, k.holds) in
    let high : r.rise * e.den ≤ e.shared = omega (arith, k.rise_high) in
    let low : e.shared ≤ (r.rise + e.ended) * e.den = omega (arith, k.rise_low, none) in
    let st_high : st * x * e.den ≤ a * e.kept = le_trans (mul-le-mul_right e.den (mul-le-mul_right x (min_below r.stake value))) k.stake_high in
    let last_high : one * paid * x * e.den ≤ a * e.opened =
    close_high one a x e.den e.kept e.opened e.shared r.rise st paid k.den_pos k.product high st_high (floor_low (r.rise * st) one) in
    let without : one * a * e.opened ≤ one * one * product_cut r.rise r.stake * x * e.den + one * one * x * e.den + one * a * e.ended * e.den + ((e.slashes + 1) * (one * x + a)) * e.shared =
    close_low one a x e.den e.kept e.opened e.shared r.rise e.ended r.stake (product_cut r.rise r.stake) ((e.slashes + 1) * (one * x + a)) k.den_pos k.product k.small high low k.stake_low (floor_high (r.rise * r.stake) one one_pos) in
    let clamped : one * a * e.opened ≤ one * one * product_cut r.rise value * x * e.den + one * one * x * e.den + one * a * e.ended * e.den + ((e.left + 1) * one * x) * e.shared =
    close_low one a x e.den e.kept e.opened e.shared r.rise e.ended value (product_cut r.rise value) ((e.left + 1) * one * x) k.den_pos k.product k.small high low
    (clamp_gap one a x e.den e.kept mine e.left shares tokens value some (value_even_low tokens shares mine some) k.value) (floor_high (r.rise * value) one one_pos) in
    record {
      den_pos = k.den_pos;
      high = omega (arith, k.paid_high, last_high);
      low = lowest one a x e.den e.closed e.opened e.shared e.slashes e.ended e.ended_before e.weighted e.left r.paid r.rise r.stake value (product_cut r.rise) k.paid_low without clamped;
    }
