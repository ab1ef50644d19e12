-- How far a total lies from the exact one: less than a unit for each value that was rounded.
use Rattle.std.proofs.Math.Nat.{mul-le-mul_right, mul-le-mul_left, le_of_mul-le-mul_right, lt_of_mul-lt-mul_right}
use Rattle.std.proofs.lemmas.{Nat.mod_below, Bool.{cases_lt, cases_order}}
use Rattle.std.proofs.Common.{◌≡◌, ℕ, ◌+◌, ◌-◌, ◌*◌, ◌/◌, ◌%◌, ◌^◌, ◌<◌, ◌≤◌, Bool, true, false, cond, List, [], ◌∷◌, length, inl, inr, sym, subst, arith, sum_by}
use Rattle.base_decimals.specs.{Rounding.even, Decimals.digits_36}
use Rattle.base_decimals.proofs.Nearest.{parts, even_below, even_above, even_tie}
use Rattle.base_shares.{specs.Shares.value_even_of, proofs.Roundings.{cut_low, cut_high}}
use Rattle.mod_tally.{specs.Tally.{Delegations, shares_in}, proofs.Sums.sum_next}

-- ---- one value

-- the nearest whole number is at most half away
even_up : (a c : ℕ) → 0 < c → 2 * (even a c * c) ≤ 2 * a + c
even_up a c some =
    elim (cases_order (2 * (a % c)) c) [
      | inl tie ↦ rw (even_tie a c tie) (elim (cases_lt ((a / c) % 2) 1) [
        | inl none ↦ let e : a / c + (a / c) % 2 ≡ a / c = omega arith in rw e (omega (arith, parts a c some))
        | inr one ↦ let e : a / c + (a / c) % 2 ≡ a / c + 1 = omega arith in rw e (omega (arith, parts a c some))
      ])
      | inr (inl low) ↦ rw (even_below a c low) (omega (arith, parts a c some))
      | inr (inr high) ↦ rw (even_above a c high) (omega (arith, parts a c some))
    ]

even_down : (a c : ℕ) → 0 < c → 2 * a ≤ 2 * (even a c * c) + c
even_down a c some =
    elim (cases_order (2 * (a % c)) c) [
      | inl tie ↦ rw (even_tie a c tie) (elim (cases_lt ((a / c) % 2) 1) [
        | inl none ↦ let e : a / c + (a / c) % 2 ≡ a / c = omega arith in rw e (omega (arith, parts a c some))
        | inr one ↦ let e : a / c + (a / c) % 2 ≡ a / c + 1 = omega arith in rw e (omega (arith, parts a c some))
      ])
      | inr (inl low) ↦ rw (even_below a c low) (omega (arith, parts a c some))
      | inr (inr high) ↦ rw (even_above a c high) (omega (arith, parts a c some, mod_below a c some))
    ]

-- Let one have d units. q is n / x with twice the digits of a unit, cut, and m is q rounded to units.
up_of : (n x q m d : ℕ) → 0 < x → 0 < d → q * x ≤ n * (d * d) → 2 * (m * d) ≤ 2 * q + d → m * x + 1 ≤ n * d + x
up_of n x q m d more some low near =
    let scaled : 2 * (m * d) * x ≤ (2 * q + d) * x = mul-le-mul_right x near in
    let whole : (2 * (m * x)) * d ≤ (2 * (n * d) + x) * d = omega arith in
    let last : 2 * (m * x) ≤ 2 * (n * d) + x = le_of_mul-le-mul_right whole some in
    omega arith

down_of : (n x q m d : ℕ) → 0 < x → 2 ≤ d → n * (d * d) < q * x + x → 2 * q ≤ 2 * (m * d) + d → n * d + 1 ≤ m * x + x
down_of n x q m d more some high near =
    let scaled : 2 * q * x ≤ (2 * (m * d) + d) * x = mul-le-mul_right x near in
    let twice : 2 * x ≤ d * x = mul-le-mul_right x some in
    let whole : (n * d) * d < (m * x + x) * d = omega arith in
    let last : n * d < m * x + x = lt_of_mul-lt-mul_right d whole in
    omega arith

-- ---- values at one validator

-- A total of n values is near so many of the shares, of which there are x with t tokens.
pub record IsNear (t x n total shares : ℕ) : Type 0 where
  pub up : total * x + n ≤ shares * t * 10 ^ 18 + n * x
  pub down : shares * t * 10 ^ 18 + n ≤ total * x + n * x

pub near_value : (t x part : ℕ) → 0 < x → IsNear t x 1 (value_even_of t x part) part
near_value t x part some =
    let digits : ℕ = digits_36 (part * t) x in
    let low : digits * x ≤ part * t * 10 ^ 36 = cut_low (part * t * 10 ^ 36) x some in
    let high : part * t * 10 ^ 36 < digits * x + x = cut_high (part * t * 10 ^ 36) x some in
    let up : value_even_of t x part * x + 1 ≤ part * t * 10 ^ 18 + x = up_of (part * t) x digits (value_even_of t x part) (10 ^ 18) some (omega arith) (omega arith) (even_up digits (10 ^ 18) (omega arith)) in
    let down : part * t * 10 ^ 18 + 1 ≤ value_even_of t x part * x + x = down_of (part * t) x digits (value_even_of t x part) (10 ^ 18) some (omega arith) (omega arith) (even_down digits (10 ^ 18) (omega arith)) in
    record { up = omega arith; down = omega arith }

pub near_nothing : (t x : ℕ) → IsNear t x 0 0 0
near_nothing t x = record { up = omega arith; down = omega arith }

pub near_both : (t x m n a b p q : ℕ) → IsNear t x m a p → IsNear t x n b q → IsNear t x (m + n) (a + b) (p + q)
near_both t x m n a b p q h k = record { up = omega (arith, h.up, k.up); down = omega (arith, h.down, k.down) }

-- what is near stays near under other names
near_as : (t x m n a b p q : ℕ) → m ≡ n → a ≡ b → p ≡ q → IsNear t x m a p → IsNear t x n b q
near_as t x m n a b p q e f g h = subst (λ (z : ℕ). IsNear t x n b z) g (subst (λ (z : ℕ). IsNear t x n z p) f (subst (λ (z : ℕ). IsNear t x z a p) e h))

-- the values of delegations
pub near_values : (t x : ℕ) (ds : Delegations) → 0 < x → IsNear t x (length ds) (sum_by (λ d. value_even_of t x d.1) ds) (shares_in ds)
near_values t x [] some = near_nothing t x
near_values t x (d ∷ ds) some =
    near_as t x (1 + length ds) (length (d ∷ ds)) (value_even_of t x d.1 + sum_by (λ e. value_even_of t x e.1) ds) (sum_by (λ e. value_even_of t x e.1) (d ∷ ds)) (d.1 + shares_in ds) (shares_in (d ∷ ds))
    (omega arith) (sym (sum_next (λ e. value_even_of t x e.1) d ds)) (sym (sum_next (λ e. e.1) d ds))
    (near_both t x 1 (length ds) (value_even_of t x d.1) (sum_by (λ e. value_even_of t x e.1) ds) d.1 (shares_in ds) (near_value t x d.1 some) (near_values t x ds some))

-- a value that is there, or none
pub near_if : (t x part : ℕ) (b : Bool) → 0 < x → IsNear t x (cond b 1 0) (cond b (value_even_of t x part) 0) (cond b part 0)
near_if t x part true some = near_value t x part some
near_if t x part false some = near_nothing t x

-- a total of a part of the shares is at most the tokens, and a unit for each value
pub near_most : (t x n total shares : ℕ) → 0 < x → shares ≤ x → IsNear t x n total shares → total ≤ t * 10 ^ 18 + n
near_most t x n total shares some part h =
    let all : shares * (t * 10 ^ 18) ≤ x * (t * 10 ^ 18) = mul-le-mul_right (t * 10 ^ 18) part in
    let up : total * x + n ≤ shares * t * 10 ^ 18 + n * x = h.up in
    let scaled : total * x ≤ (t * 10 ^ 18 + n) * x = omega arith in
    le_of_mul-le-mul_right scaled some
