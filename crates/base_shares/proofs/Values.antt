-- The value of a part of the shares is at most that of all of them, the tokens.
use Rattle.std.proofs.Math.Nat.{mul-le-mul_right}
use Rattle.std.proofs.Common.{ℕ, ◌*◌, ◌^◌, ◌<◌, ◌≤◌, arith}
use Rattle.base_decimals.specs.Decimals.{digits_36, trunc_of}
use Rattle.base_shares.{specs.Shares.{value_even_of, value_cut_of}, proofs.Roundings.{cut_most, even_most}}

-- 36 digits of the value, as whole units of 10^-18 and 18 digits more
pub digits_most : (tokens shares part : ℕ) → 0 < shares → part ≤ shares → digits_36 (part * tokens) shares ≤ tokens * 10 ^ 18 * 10 ^ 18
digits_most tokens shares part some within =
    cut_most (part * tokens * 10 ^ 36) shares (tokens * 10 ^ 18 * 10 ^ 18) some
    (omega (arith, mul-le-mul_right (tokens * 10 ^ 36) within))

pub value_even_most : (tokens shares part : ℕ) → 0 < shares → part ≤ shares → value_even_of tokens shares part ≤ tokens * 10 ^ 18
value_even_most tokens shares part some within =
    even_most (digits_36 (part * tokens) shares) (10 ^ 18) (tokens * 10 ^ 18) (omega arith) (digits_most tokens shares part some within)

pub value_cut_most : (tokens shares part : ℕ) → 0 < shares → part ≤ shares → value_cut_of tokens shares part ≤ tokens * 10 ^ 18
value_cut_most tokens shares part some within =
    cut_most (digits_36 (part * tokens) shares) (10 ^ 18) (tokens * 10 ^ 18) (omega arith) (digits_most tokens shares part some within)

-- so it is a decimal
pub value_even_fits : (tokens shares part : ℕ) → tokens ≤ 10 ^ 18 → 0 < shares → part ≤ shares → value_even_of tokens shares part < 10 ^ 38
value_even_fits tokens shares part few some within = omega (arith, value_even_most tokens shares part some within)

pub value_cut_fits : (tokens shares part : ℕ) → tokens ≤ 10 ^ 18 → 0 < shares → part ≤ shares → value_cut_of tokens shares part < 10 ^ 38
value_cut_fits tokens shares part few some within = omega (arith, value_cut_most tokens shares part some within)

-- and its whole part is at most the tokens
pub value_whole_most : (tokens shares part : ℕ) → 0 < shares → part ≤ shares → trunc_of (value_even_of tokens shares part) ≤ tokens
value_whole_most tokens shares part some within =
    cut_most (value_even_of tokens shares part) (10 ^ 18) tokens (omega arith) (value_even_most tokens shares part some within)
