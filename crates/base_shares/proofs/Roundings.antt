-- How far a rounded whole number is from its fraction.
use Rattle.std.proofs.lemmas.{Nat.mod_below, Bool.{cases_lt, cases_order}}
use Rattle.std.proofs.Common.{◌≡◌, ℕ, ◌+◌, ◌-◌, ◌*◌, ◌/◌, ◌%◌, ◌<◌, ◌≤◌, inl, inr, arith}
use Rattle.base_decimals.{specs.Rounding.{cut, up, even}, proofs.Quotients.quotient_is}
use Rattle.base_decimals.proofs.Nearest.{parts, up_whole, up_part, factor_le, factor_lt, even_below, even_above, even_tie}

pub cut_low : (a c : ℕ) → 0 < c → cut a c * c ≤ a
cut_low a c some = omega (arith, parts a c some)

pub cut_high : (a c : ℕ) → 0 < c → a < cut a c * c + c
cut_high a c some = omega (arith, parts a c some, mod_below a c some)

pub up_high : (a c : ℕ) → 0 < c → up a c * c < a + c
up_high a c some =
    elim (cases_lt 0 (a % c)) [
      | inl part ↦ rw (up_part a c part) (omega (arith, parts a c some))
      | inr none ↦ rw (up_whole a c (omega arith)) (omega (arith, parts a c some))
    ]

-- what is at most a whole number is rounded to at most that number
pub cut_most : (a c n : ℕ) → 0 < c → a ≤ n * c → cut a c ≤ n
cut_most a c n some h = factor_le (a / c) n c some (omega (arith, parts a c some))

pub next_most : (a c n : ℕ) → 0 < c → 0 < a % c → a ≤ n * c → a / c + 1 ≤ n
next_most a c n some part h = factor_lt (a / c) n c (a % c) part (omega (arith, parts a c some))

pub even_most : (a c n : ℕ) → 0 < c → a ≤ n * c → even a c ≤ n
even_most a c n some h =
    elim (cases_order (2 * (a % c)) c) [
      | inl tie ↦ rw (even_tie a c tie) (omega (arith, next_most a c n some (omega arith) h))
      | inr (inl low) ↦ rw (even_below a c low) (cut_most a c n some h)
      | inr (inr high) ↦ rw (even_above a c high) (next_most a c n some (omega arith) h)
    ]

-- the one quotient whose rest is below the divisor
pub cut_is : (a c n : ℕ) → 0 < c → n * c ≤ a → a < n * c + c → cut a c ≡ n
cut_is a c n some low high = quotient_is a c n (a - n * c) (omega arith) (omega arith)
