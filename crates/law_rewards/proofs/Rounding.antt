-- How far values of shares, increments of the ratio and cut products are from their exact fractions.
use Rattle.std.proofs.Common.{ℕ, suc, ◌+◌, ◌*◌, ◌^◌, ◌<◌, ◌≤◌, arith, div-add-mod', mod-lt, mul-le-mul_right, le_of_mul-le-mul_right, lt_of_mul-lt-mul_right}
use Rattle.base_decimals.specs.{Rounding.{cut, even}, Decimals.digits_36}
use Rattle.base_shares.specs.Shares.{value_cut_of, value_even_of}
use Rattle.law_rewards.specs.Account.{increment_of}

-- one, as a decimal's number of units
abbrev pub one : ℕ
one = 10 ^ 18

pub one_pos : 0 < one
one_pos = omega arith

pub floor_low : (a c : ℕ) → cut a c * c ≤ a
floor_low a c = omega (arith, div-add-mod' a c)

pub floor_high : (a c : ℕ) → 0 < c → a < cut a c * c + c
floor_high a c h = omega (arith, div-add-mod' a c, mod-lt a h)

pub even_low : (a c : ℕ) → 0 < c → 2 * a ≤ 2 * (even a c * c) + c
even_low a c h = grind (arith, div-add-mod' a c, mod-lt a h)

pub even_high : (a c : ℕ) → 0 < c → 2 * (even a c * c) ≤ 2 * a + c
even_high a c h = grind (arith, div-add-mod' a c, mod-lt a h)

-- ---- quotients, with any number d of units in one: q has 36 digits, r and v have 18

pub cut_twice_low : (a b d q r : ℕ) → 0 < d → q * b ≤ a * (d * d) → r * d ≤ q → r * b ≤ a * d
cut_twice_low a b d q r pos h k =
    let k' : r * d * b ≤ q * b = mul-le-mul_right b k in
    let e : r * b * d ≤ a * d * d = omega arith in
    le_of_mul-le-mul_right e pos

pub cut_twice_high : (a b d q r : ℕ) → 0 < d → a * (d * d) < q * b + b → q < r * d + d → a * d < r * b + b
cut_twice_high a b d q r pos h k =
    let k' : (q + 1) * b ≤ (r * d + d) * b = mul-le-mul_right b (omega arith) in
    let e : (a * d) * d < (r * b + b) * d = omega arith in
    lt_of_mul-lt-mul_right _ e

pub even_twice_high : (a b d q v : ℕ) → 0 < d → q * b ≤ a * (d * d) → 2 * (v * d) ≤ 2 * q + d → 2 * (v * b) ≤ 2 * (a * d) + b
even_twice_high a b d q v pos h k =
    let k' : 2 * (v * d) * b ≤ (2 * q + d) * b = mul-le-mul_right b k in
    let e : (2 * (v * b)) * d ≤ (2 * (a * d) + b) * d = omega arith in
    le_of_mul-le-mul_right e pos

pub even_twice_low : (a b d q v : ℕ) → 1 < d → a * (d * d) < q * b + b → 2 * q ≤ 2 * (v * d) + d → a * d ≤ v * b + b
even_twice_low a b d q v pos h k =
    let k' : (2 * q + 2) * b ≤ (2 * (v * d) + d + 2) * b = mul-le-mul_right b (omega arith) in
    let k2 : 2 * b ≤ d * b = mul-le-mul_right b pos in
    let e : (a * d) * d ≤ (v * b + b) * d = omega arith in
    le_of_mul-le-mul_right e (omega arith)

-- ---- the value of s of x shares with t tokens

digits_low : (a b : ℕ) → digits_36 a b * b ≤ a * (one * one)
digits_low a b = omega (arith, floor_low (a * 10 ^ 36) b)

digits_high : (a b : ℕ) → 0 < b → a * (one * one) < digits_36 a b * b + b
digits_high a b pos = omega (arith, floor_high (a * 10 ^ 36) b pos)

pub value_cut_low : (t x s : ℕ) → value_cut_of t x s * x ≤ s * t * one
value_cut_low t x s = cut_twice_low (s * t) x one (digits_36 (s * t) x) (value_cut_of t x s) one_pos
    (digits_low (s * t) x) (floor_low (digits_36 (s * t) x) one)

pub value_cut_high : (t x s : ℕ) → 0 < x → s * t * one < value_cut_of t x s * x + x
value_cut_high t x s pos = cut_twice_high (s * t) x one (digits_36 (s * t) x) (value_cut_of t x s) one_pos
    (digits_high (s * t) x pos) (floor_high (digits_36 (s * t) x) one one_pos)

pub value_even_high : (t x s : ℕ) → 2 * (value_even_of t x s * x) ≤ 2 * (s * t * one) + x
value_even_high t x s = even_twice_high (s * t) x one (digits_36 (s * t) x) (value_even_of t x s) one_pos
    (digits_low (s * t) x) (even_high (digits_36 (s * t) x) one one_pos)

pub value_even_low : (t x s : ℕ) → 0 < x → s * t * one ≤ value_even_of t x s * x + x
value_even_low t x s pos = even_twice_low (s * t) x one (digits_36 (s * t) x) (value_even_of t x s) (omega arith)
    (digits_high (s * t) x pos) (even_low (digits_36 (s * t) x) one one_pos)

-- ---- the increment of the ratio

pub increment_low : (current t : ℕ) → increment_of current (suc t) * suc t ≤ current
increment_low c t =
    let i : ℕ = increment_of c (suc t) in
    let h : i * (suc t * one) ≤ c * one =
    cut_twice_low c (suc t * one) one (digits_36 c (suc t * one)) i one_pos (digits_low c (suc t * one)) (floor_low (digits_36 c (suc t * one)) one) in
    let h' : (i * suc t) * one ≤ c * one = omega arith in
    le_of_mul-le-mul_right h' one_pos

pub increment_high : (current t : ℕ) → current < increment_of current (suc t) * suc t + suc t
increment_high c t =
    let i : ℕ = increment_of c (suc t) in
    let pos : 0 < suc t * one = omega arith in
    let h : c * one < i * (suc t * one) + suc t * one =
    cut_twice_high c (suc t * one) one (digits_36 c (suc t * one)) i one_pos (digits_high c (suc t * one) pos) (floor_high (digits_36 c (suc t * one)) one one_pos) in
    let h' : c * one < (i * suc t + suc t) * one = omega arith in
    lt_of_mul-lt-mul_right one h'
