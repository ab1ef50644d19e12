-- What a quotient with its rest says of the definition of `mul_div`.
use Rattle.std.proofs.{lemmas.Nat.{div-mul-add, mod-mul-add, le-div, div_below, mod_below}, Math.Nat.mul-le-mul_right}
use Rattle.std.proofs.Common.{◌≡◌, ℕ, ◌+◌, ◌*◌, ◌/◌, ◌%◌, ◌^◌, ◌<◌, ◌≤◌, Some, None, ap, ◌∙◌, arith}
use Rattle.base_decimals.specs.Decimals.{mul_div_of}

pub quotient_is : (n c q r : ℕ) → n ≡ q * c + r → r < c → n / c ≡ q
quotient_is n c q r e below = ap (λ k. k / c) e ∙ div-mul-add q c r below

pub rest_is : (n c q r : ℕ) → n ≡ q * c + r → r < c → n % c ≡ r
rest_is n c q r e below = ap (λ k. k % c) e ∙ mod-mul-add q c r below

pub mul_div_some : (a b c q r : ℕ) → a * b ≡ q * c + r → r < c → q < 10 ^ 38 → mul_div_of a b c ≡ Some (q, r)
mul_div_some a b c q r e below small = rw (quotient_is (a * b) c q r e below, rest_is (a * b) c q r e below) (grind arith)

pub mul_div_none : (a b c : ℕ) → 10 ^ 38 ≤ a * b / c → mul_div_of a b c ≡ None
mul_div_none a b c large = grind arith

-- an upper half that is not below the divisor is too much
pub quotient_large : (n c high low : ℕ) → 0 < c → low + high * 2 ^ 128 ≡ n → c ≤ high → 10 ^ 38 ≤ n / c
quotient_large n c high low some e large = le-div (10 ^ 38) n c some (omega (arith, mul-le-mul_right (10 ^ 38) large))

-- a whole number of divisors and a rest give their parts back
pub quotient_of_parts : (q r d : ℕ) → r < d → (q * d + r) / d ≡ q
quotient_of_parts q r d below = div-mul-add q d r below

pub rest_of_parts : (q r d : ℕ) → r < d → (q * d + r) % d ≡ r
rest_of_parts q r d below = mod-mul-add q d r below

-- 18 further digits: those of the rest
pub further_digits : (x b q r s t : ℕ) → x ≡ q * b + r → r * 10 ^ 18 ≡ s * b + t → t < b → x * 10 ^ 18 / b ≡ q * 10 ^ 18 + s
further_digits x b q r s t e f below = quotient_is (x * 10 ^ 18) b (q * 10 ^ 18 + s) t (rw e (omega (arith, f))) below

-- they are fewer than 10^18 of their unit
pub few_digits : (b r : ℕ) → r < b → r * 10 ^ 18 / b < 10 ^ 18
few_digits b r below = div_below (r * 10 ^ 18) b (10 ^ 18) (omega arith) (omega (arith, below))

-- without them the quotient is the one of 18 digits
pub cut_at_18 : (x b : ℕ) → 0 < b → x * 10 ^ 18 / b / 10 ^ 18 ≡ x / b
cut_at_18 x b some =
    let e : b * (x / b) + x % b ≡ x = omega arith in
    let small : x % b * 10 ^ 18 / b < 10 ^ 18 = few_digits b (x % b) (mod_below x b some) in
    let f : b * (x % b * 10 ^ 18 / b) + (x % b * 10 ^ 18) % b ≡ x % b * 10 ^ 18 = omega arith in
    ap (λ n. n / 10 ^ 18) (further_digits x b (x / b) (x % b) (x % b * 10 ^ 18 / b) ((x % b * 10 ^ 18) % b) (omega (arith, e)) (omega (arith, f)) (mod_below (x % b * 10 ^ 18) b some))
    ∙ div-mul-add (x / b) (10 ^ 18) (x % b * 10 ^ 18 / b) small

-- the same of a quotient of decimals, whose 36 digits are cut
pub cut_36 : (a b : ℕ) → 0 < b → a * 10 ^ 36 / b / 10 ^ 18 ≡ a * 10 ^ 18 / b
cut_36 a b some = ap (λ n. n / b / 10 ^ 18) (let e : a * 10 ^ 36 ≡ a * 10 ^ 18 * 10 ^ 18 = omega arith in e) ∙ cut_at_18 (a * 10 ^ 18) b some

-- and with a factor
pub cut_36_of_factor : (a n b : ℕ) → 0 < b → a * n * 10 ^ 36 / b / 10 ^ 18 ≡ a * (n * 10 ^ 18) / b
cut_36_of_factor a n b some = ap (λ k. k / b / 10 ^ 18) (let e : a * n * 10 ^ 36 ≡ a * (n * 10 ^ 18) * 10 ^ 18 = omega arith in e) ∙ cut_at_18 (a * (n * 10 ^ 18)) b some

pub digits_of_factor : (a n b : ℕ) → a * (n * 10 ^ 18) * 10 ^ 18 / b ≡ a * n * 10 ^ 36 / b
digits_of_factor a n b = ap (λ k. k / b) (let e : a * (n * 10 ^ 18) * 10 ^ 18 ≡ a * n * 10 ^ 36 = omega arith in e)
