-- Rounding: the whole number below, above and nearest.
use Rattle.std.proofs.{Math.Nat.{mul-le-mul_right, le_of_mul-le-mul_right}, lemmas.Nat.mod_below}
use Rattle.std.proofs.lemmas.{Bool.{cases_lt, cases_order}, Grind.common_steps}
use Rattle.std.proofs.Common.{◌≡◌, ℕ, ◌+◌, ◌-◌, ◌*◌, ◌/◌, ◌%◌, ◌<◌, ◌≤◌, inl, inr, refl, sym, subst, arith}
use Rattle.base_decimals.specs.{Rounding.{up, even}, Laws.distance}

-- a quotient and a rest
pub parts : (a c : ℕ) → 0 < c → a / c * c + a % c ≡ a
parts a c some = omega arith

pub up_whole : (a c : ℕ) → a % c ≡ 0 → up a c ≡ a / c
up_whole a c whole = rw whole refl

pub up_part : (a c : ℕ) → 0 < a % c → up a c ≡ a / c + 1
up_part a c part = grind (arith, common_steps)

pub up_above : (a c : ℕ) → 0 < c → a ≤ up a c * c
up_above a c some =
    elim (cases_lt 0 (a % c)) [
      | inl part ↦ rw (up_part a c part) (omega (arith, parts a c some, mod_below a c some))
      | inr none ↦ rw (up_whole a c (omega arith)) (omega (arith, parts a c some))
    ]

-- a product that is not above another has the smaller factor
pub factor_le : (q n c : ℕ) → 0 < c → q * c ≤ n * c → q ≤ n
factor_le q n c some h = le_of_mul-le-mul_right h some

pub factor_lt : (q n c r : ℕ) → 0 < r → q * c + r ≤ n * c → q + 1 ≤ n
factor_lt q n c r some h =
    elim (cases_lt q n) [ inl less ↦ omega arith | inr more ↦ absurd (omega (arith, mul-le-mul_right c more)) ]

pub up_least : (a c n : ℕ) → 0 < c → a ≤ n * c → up a c ≤ n
up_least a c n some h =
    elim (cases_lt 0 (a % c)) [
      | inl part ↦ rw (up_part a c part) (factor_lt (a / c) n c (a % c) part (omega (arith, parts a c some)))
      | inr none ↦ rw (up_whole a c (omega arith)) (factor_le (a / c) n c some (omega (arith, parts a c some)))
    ]

-- how far a / c is from whole numbers, by its quotient q and its rest r
pub from_below : (q r c n : ℕ) → n ≤ q → r ≤ distance (q * c + r) (n * c)
from_below q r c n less = omega (arith, mul-le-mul_right c less)

pub from_above : (q r c n : ℕ) → q + 1 ≤ n → c ≤ r + distance (q * c + r) (n * c)
from_above q r c n more = omega (arith, mul-le-mul_right c more)

pub at_quotient : (q r c : ℕ) → distance (q * c + r) (q * c) ≡ r
at_quotient q r c = omega arith

pub at_next : (q r c : ℕ) → r < c → distance (q * c + r) ((q + 1) * c) ≡ c - r
at_next q r c below = omega arith

-- a whole number m is nearest where it is the near neighbour
pub record IsNearest (a c m : ℕ) : Type 0 where
  pub near : (n : ℕ) → distance a (m * c) ≤ distance a (n * c)
  pub tie : 2 * distance a (m * c) ≡ c → m % 2 ≡ 0

pub nearest_below : (q r c : ℕ) → 2 * r < c → IsNearest (q * c + r) c q
nearest_below q r c small = record {
  near = λ n. elim (cases_lt q n) [
    | inl more ↦ omega (arith, at_quotient q r c, from_above q r c n (omega arith))
    | inr less ↦ omega (arith, at_quotient q r c, from_below q r c n less)
  ];
  tie = λ h. absurd (omega (arith, at_quotient q r c));
}

pub nearest_above : (q r c : ℕ) → c < 2 * r → r < c → IsNearest (q * c + r) c (q + 1)
nearest_above q r c large below = record {
  near = λ n. elim (cases_lt q n) [
    | inl more ↦ omega (arith, at_next q r c below, from_above q r c n (omega arith))
    | inr less ↦ omega (arith, at_next q r c below, from_below q r c n less)
  ];
  tie = λ h. absurd (omega (arith, at_next q r c below));
}

pub half_way : (q r c n : ℕ) → 2 * r ≡ c → r ≤ distance (q * c + r) (n * c)
half_way q r c n half = elim (cases_lt q n) [
  | inl more ↦ omega (arith, from_above q r c n (omega arith))
  | inr less ↦ from_below q r c n less
]

pub at_even : (q r c : ℕ) → 2 * r ≡ c → distance (q * c + r) ((q + q % 2) * c) ≡ r
at_even q r c half = elim (cases_lt (q % 2) 1) [
  | inl none ↦ let e : q + q % 2 ≡ q = omega arith in rw e (at_quotient q r c)
  | inr one ↦ let e : q + q % 2 ≡ q + 1 = omega arith in rw e (omega arith)
]

pub nearest_tie : (q r c : ℕ) → 2 * r ≡ c → IsNearest (q * c + r) c (q + q % 2)
nearest_tie q r c half = record {
  near = λ n. omega (arith, at_even q r c half, half_way q r c n half);
  tie = λ h. omega arith;
}

pub even_below : (a c : ℕ) → 2 * (a % c) < c → even a c ≡ a / c
even_below a c h = grind (arith, common_steps)

pub even_above : (a c : ℕ) → c < 2 * (a % c) → even a c ≡ a / c + 1
even_above a c h = grind (arith, common_steps)

pub even_tie : (a c : ℕ) → 2 * (a % c) ≡ c → even a c ≡ a / c + (a / c) % 2
even_tie a c h = grind (arith, common_steps)

pub nearest_at : (a c m k : ℕ) → a / c * c + a % c ≡ a → m ≡ k → IsNearest (a / c * c + a % c) c k → IsNearest a c m
nearest_at a c m k e f near = subst (λ (n : ℕ). IsNearest n c m) e (subst (λ (n : ℕ). IsNearest (a / c * c + a % c) c n) (sym f) near)

pub even_nearest : (a c : ℕ) → 0 < c → IsNearest a c (even a c)
even_nearest a c some =
    elim (cases_order (2 * (a % c)) c) [
      | inl tie ↦ nearest_at a c (even a c) (a / c + (a / c) % 2) (parts a c some) (even_tie a c tie) (nearest_tie (a / c) (a % c) c tie)
      | inr (inl low) ↦ nearest_at a c (even a c) (a / c) (parts a c some) (even_below a c low) (nearest_below (a / c) (a % c) c low)
      | inr (inr high) ↦ nearest_at a c (even a c) (a / c + 1) (parts a c some) (even_above a c high) (nearest_above (a / c) (a % c) c high (mod_below a c some))
    ]
