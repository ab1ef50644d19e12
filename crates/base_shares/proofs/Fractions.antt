-- The recorded fraction of a burn, and what it gives back.
use Rattle.std.proofs.Math.Nat.{mul-le-mul_right, le_of_mul-le-mul_right, lt_of_mul-lt-mul_right}
use Rattle.std.proofs.lemmas.Grind.{common_steps}
use Rattle.std.proofs.Common.{◌≡◌, ℕ, ◌+◌, ◌*◌, ◌^◌, ◌<◌, ◌≤◌, Ok, arith}
use Rattle.base_decimals.{specs.Decimals.{whole_of, digits_36, quo_up_of}, proofs.Nearest.up_above}
use Rattle.base_shares.specs.{Burns.recorded_fraction, Laws.{FractionIsJustAbove, FractionGivesBurn}}
use Rattle.base_shares.proofs.Roundings.{cut_low, cut_high, up_high, cut_is}

-- Let one have d units. q is the quotient n / t, cut at two times the digits of a unit, and f is q rounded upward to
-- units. Then f is at least n / t, less than one unit above it, and at most one.
pub above_of : (n t d q f : ℕ) → 0 < d → t ≤ d → n * d * (d * d) < q * (t * d) + t * d → q ≤ f * d → n * d ≤ f * t
above_of n t d q f some few h k =
    let scaled : (n * (d * d)) * d < (q * t + t) * d = omega arith in
    let digits : n * (d * d) < q * t + t = lt_of_mul-lt-mul_right _ scaled in
    let upward : q * t ≤ f * d * t = mul-le-mul_right t k in
    let near : (n * d) * d < (f * t + 1) * d = omega arith in
    let last : n * d < f * t + 1 = lt_of_mul-lt-mul_right _ near in
    omega arith

pub within_of : (n t d q f : ℕ) → 0 < d → 0 < t → q * (t * d) ≤ n * d * (d * d) → f * d < q + d → f * t < n * d + t
within_of n t d q f some more h k =
    let scaled : (q * t) * d ≤ (n * (d * d)) * d = omega arith in
    let digits : q * t ≤ n * (d * d) = le_of_mul-le-mul_right scaled some in
    let upward : (f * d + 1) * t ≤ (q + d) * t = mul-le-mul_right t (omega arith) in
    let near : (f * t) * d < (n * d + t) * d = omega arith in
    lt_of_mul-lt-mul_right _ near

pub one_of : (n t d f : ℕ) → 0 < t → n ≤ t → f * t < n * d + t → f ≤ d
one_of n t d f some within h =
    let whole : n * d ≤ t * d = mul-le-mul_right d within in
    let near : f * t < (d + 1) * t = omega arith in
    let last : f < d + 1 = lt_of_mul-lt-mul_right _ near in
    omega arith

-- as raw numbers: at least the exact fraction
pub fraction_low : (burn tokens : ℕ) → 0 < tokens → tokens ≤ 10 ^ 18 → burn * 10 ^ 18 ≤ recorded_fraction burn tokens * tokens
fraction_low burn tokens some few =
    let digits : ℕ = digits_36 (burn * 10 ^ 18) (tokens * 10 ^ 18) in
    let high : burn * 10 ^ 18 * 10 ^ 36 < digits * (tokens * 10 ^ 18) + tokens * 10 ^ 18 =
    cut_high (burn * 10 ^ 18 * 10 ^ 36) (tokens * 10 ^ 18) (omega arith) in
    above_of burn tokens (10 ^ 18) digits (recorded_fraction burn tokens) (omega arith) few (omega arith)
    (up_above digits (10 ^ 18) (omega arith))

-- less than one unit above it
pub fraction_high : (burn tokens : ℕ) → 0 < tokens → recorded_fraction burn tokens * tokens < burn * 10 ^ 18 + tokens
fraction_high burn tokens some =
    let digits : ℕ = digits_36 (burn * 10 ^ 18) (tokens * 10 ^ 18) in
    let low : digits * (tokens * 10 ^ 18) ≤ burn * 10 ^ 18 * 10 ^ 36 =
    cut_low (burn * 10 ^ 18 * 10 ^ 36) (tokens * 10 ^ 18) (omega arith) in
    within_of burn tokens (10 ^ 18) digits (recorded_fraction burn tokens) (omega arith) some (omega arith)
    (up_high digits (10 ^ 18) (omega arith))

-- at most 1
pub fraction_most : (burn tokens : ℕ) → burn ≤ tokens → 0 < tokens → recorded_fraction burn tokens ≤ 10 ^ 18
fraction_most burn tokens within some = one_of burn tokens (10 ^ 18) (recorded_fraction burn tokens) some within (fraction_high burn tokens some)

-- so it is a decimal
pub fraction_fits : (burn tokens : ℕ) → burn ≤ tokens → 0 < tokens → quo_up_of (burn * 10 ^ 18) (tokens * 10 ^ 18) ≡ Ok (recorded_fraction burn tokens)
fraction_fits burn tokens within some =
    let small : recorded_fraction burn tokens < 10 ^ 38 = omega (arith, fraction_most burn tokens within some) in
    grind (arith, common_steps)

pub fraction_is_just_above : FractionIsJustAbove
fraction_is_just_above = λ burn tokens within some few. record {
  fits = fraction_fits burn tokens within some;
  at_least = omega (arith, fraction_low burn tokens some few);
  within_a_unit = omega (arith, fraction_high burn tokens some);
  at_most_one = fraction_most burn tokens within some;
}

-- the burn is the one whole number of units just below
pub fraction_gives_burn : FractionGivesBurn
fraction_gives_burn = λ burn tokens within some few.
    cut_is (recorded_fraction burn tokens * tokens) (10 ^ 18) burn (omega arith) (fraction_low burn tokens some few)
    (omega (arith, fraction_high burn tokens some))
