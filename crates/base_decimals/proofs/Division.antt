-- Long division in digits of base 2^64, over plain numbers.
use Rattle.std.specs.Int.Count.{count_leading_zeros}
use Rattle.std.proofs.lemmas.Nat.{leading_top, div_below, mod_below, mod-mul-add, same_from_place}
use Rattle.std.proofs.Math.Nat.{mul-le-mul_right, mod-eq_of_lt}
use Rattle.std.proofs.Common.{pow-add, pow_pos, ◌≡◌, ℕ, zero, suc, ◌+◌, ◌-◌, ◌*◌, ◌/◌, ◌%◌, ◌^◌, ◌<◌, ◌≤◌, sym, ap, subst, ◌∙◌, arith}

-- a guess from the upper half u of the divisor u * 2^64 + l that is right
pub guess_right : (r d g u l v : ℕ) → v ≡ u * 2 ^ 64 + l → g * u ≤ r → g * l ≤ (r - g * u) * 2 ^ 64 + d
    → r * 2 ^ 64 + d ≡ g * v + ((r - g * u) * 2 ^ 64 + d - g * l)
guess_right r d g u l v e fits paid = rw e (omega arith)

-- a guess that is one too large
pub guess_one_less : (r d g k u l v : ℕ) → v ≡ u * 2 ^ 64 + l → g ≡ k + 1 → g * u ≤ r → (r - g * u) * 2 ^ 64 + d < g * l → g * l - ((r - g * u) * 2 ^ 64 + d) ≤ v
    → r * 2 ^ 64 + d ≡ k * v + (v - (g * l - ((r - g * u) * 2 ^ 64 + d)))
guess_one_less r d g k u l v e one fits short near =
    let left : ℕ = (r - g * u) * 2 ^ 64 + d in
    let whole : r * 2 ^ 64 + d + (g * l - left) ≡ g * v = rw e (omega arith) in
    let split : g * v ≡ k * v + v = rw one (omega arith) in
    omega (arith, whole, split)

-- a guess that is two too large
pub guess_two_less : (r d g k u l v : ℕ) → v ≡ u * 2 ^ 64 + l → g ≡ k + 2 → g * u ≤ r → (r - g * u) * 2 ^ 64 + d < g * l → v ≤ g * l - ((r - g * u) * 2 ^ 64 + d) → g * l - ((r - g * u) * 2 ^ 64 + d) ≤ v + v
    → r * 2 ^ 64 + d ≡ k * v + (v - (g * l - ((r - g * u) * 2 ^ 64 + d) - v))
guess_two_less r d g k u l v e two fits short far near =
    let left : ℕ = (r - g * u) * 2 ^ 64 + d in
    let whole : r * 2 ^ 64 + d + (g * l - left) ≡ g * v = rw e (omega arith) in
    let split : g * v ≡ k * v + (v + v) = rw two (omega arith) in
    omega (arith, whole, split)

-- a factor of a positive number is positive
pub pos_factor : (p t : ℕ) → p * t ≡ 2 ^ 128 → 0 < t
pos_factor p zero whole = absurd (omega (arith, whole))
pos_factor p (suc t) whole = omega arith

pub mul-lt-mul_pos : (m n k : ℕ) → m < n → 0 < k → m * k < n * k
mul-lt-mul_pos m n k less some = omega (arith, mul-le-mul_right k (let e : m + 1 ≤ n = omega arith in e))

pow_le_127 : (s j v : ℕ) → v < 2 ^ 127 → s + suc j ≡ 128 → 2 ^ j ≤ v → 1 ≤ s
pow_le_127 zero j v low length least = let e : 2 ^ j ≡ 2 ^ 127 = ap (λ k. 2 ^ k) (let e : j ≡ 127 = omega arith in e) in absurd (omega (arith, e))
pow_le_127 (suc s) j v low length least = omega arith

-- 2 ^ s moves the top bit of v to the 128th place
pub record IsScale (v s : ℕ) : Type 0 where
  pub some : 1 ≤ s
  pub within : s ≤ 127
  pub powers : 2 ^ s * 2 ^ (128 - s) ≡ 2 ^ 128
  pub full : 2 ^ 127 ≤ v * 2 ^ s
  pub fits : v * 2 ^ s < 2 ^ 128

pub scale_from : (v s j : ℕ) → v < 2 ^ 127 → s + suc j ≡ 128 → 2 ^ j ≤ v → v < 2 ^ suc j → IsScale v s
scale_from v s j low length least most =
    let some : 1 ≤ s = pow_le_127 s j v low length least in
    record {
      some = some;
      within = omega arith;
      powers = sym (pow-add 2 s (128 - s)) ∙ ap (λ k. 2 ^ k) (let e : s + (128 - s) ≡ 128 = omega arith in e);
      full = let e : 2 ^ j * 2 ^ s ≡ 2 ^ 127 = sym (pow-add 2 j s) ∙ ap (λ k. 2 ^ k) (let e : j + s ≡ 127 = omega arith in e) in
          omega (arith, e, mul-le-mul_right (2 ^ s) least);
      fits = let e : 2 ^ suc j * 2 ^ s ≡ 2 ^ 128 = sym (pow-add 2 (suc j) s) ∙ ap (λ k. 2 ^ k) (let e : suc j + s ≡ 128 = omega arith in e) in
          omega (arith, e, mul-lt-mul_pos v (2 ^ suc j) (2 ^ s) most (pow_pos s));
    }

pub scale : (v : ℕ) → 0 < v → v < 2 ^ 127 → IsScale v (count_leading_zeros 128 v)
scale v some low =
    let top = leading_top 128 v some (omega arith) in
    scale_from v (count_leading_zeros 128 v) top.0 low top.1 top.2 top.3

-- the upper half of (h * 2^128 + l) * p stays below v * p
pub top_below : (h l p t v : ℕ) → p * t ≡ 2 ^ 128 → l < 2 ^ 128 → h < v → h * p + l / t < v * p
top_below h l p t v whole fits below =
    let some : 0 < t = pos_factor p t whole in
    let part : l / t < p = div_below l t p some (rw whole fits) in
    omega (arith, mul-le-mul_right p (let e : h + 1 ≤ v = omega arith in e))

-- what l * p leaves in its lower half, and what it carries
pub lower_half : (l p t : ℕ) → p * t ≡ 2 ^ 128 → l * p ≡ l / t * 2 ^ 128 + (l * p) % 2 ^ 128
lower_half l p t whole =
    let some : 0 < t = pos_factor p t whole in
    let parts : t * (l / t) + l % t ≡ l = omega arith in
    let small : l % t * p < 2 ^ 128 = omega (arith, whole, mul-lt-mul_pos (l % t) t p (mod_below l t some) (pos_factor t p (omega (arith, whole)))) in
    let e : l * p ≡ l / t * 2 ^ 128 + l % t * p = rw (sym whole) (let f : (t * (l / t) + l % t) * p ≡ l / t * (p * t) + l % t * p = omega arith in subst (λ (n : ℕ). n * p ≡ l / t * (p * t) + l % t * p) parts f) in
    e ∙ ap (λ n. l / t * 2 ^ 128 + n) (sym (ap (λ n. n % 2 ^ 128) e ∙ mod-mul-add (l / t) (2 ^ 128) (l % t * p) small))

-- a factor p of both sides goes, and what is left over p is the rest
pub unscaled : (n q v p m : ℕ) → 0 < p → n * p ≡ q * (v * p) + m → n ≡ q * v + m / p
unscaled n q v p m some e =
    let parts : p * (m / p) + m % p ≡ m = omega arith in
    (same_from_place n 0 (q * v + m / p) (m % p) p some (mod_below m p some) (omega (arith, e, parts))).0

-- two digits of a long division are one division by w
pub two_digits : (n top bottom w f m g r : ℕ) → n ≡ top * 2 ^ 128 + bottom → top * 2 ^ 64 + bottom / 2 ^ 64 ≡ f * w + m → m * 2 ^ 64 + bottom % 2 ^ 64 ≡ g * w + r
    → n ≡ (f * 2 ^ 64 + g) * w + r
two_digits n top bottom w f m g r whole first second = omega arith

-- what shifting by s makes of the halves h and l and of the divisor v
pub record IsShifted (h l v s : ℕ) : Type 0 where
  pub some : 1 ≤ s
  pub divisor : (v * 2 ^ s) % 2 ^ 128 ≡ v * 2 ^ s
  pub upper : (h * 2 ^ s) % 2 ^ 128 ≡ h * 2 ^ s
  pub full : 2 ^ 127 ≤ v * 2 ^ s
  pub fits : v * 2 ^ s < 2 ^ 128
  pub below : h * 2 ^ s + l / 2 ^ (128 - s) < v * 2 ^ s
  pub whole : (h * 2 ^ 128 + l) * 2 ^ s ≡ (h * 2 ^ s + l / 2 ^ (128 - s)) * 2 ^ 128 + (l * 2 ^ s) % 2 ^ 128

shifted_by : (h l v s : ℕ) → h < v → l < 2 ^ 128 → IsScale v s → IsShifted h l v s
shifted_by h l v s below room sc =
    let p : ℕ = 2 ^ s in
    let under : h * p + l / 2 ^ (128 - s) < v * p = top_below h l p (2 ^ (128 - s)) v sc.powers room below in
    record {
      some = sc.some;
      divisor = mod-eq_of_lt sc.fits;
      upper = mod-eq_of_lt (omega (arith, sc.fits, under));
      full = sc.full;
      fits = sc.fits;
      below = under;
      whole = omega (arith, lower_half l p (2 ^ (128 - s)) sc.powers);
    }

pub shifted : (h l v : ℕ) → h < v → v < 2 ^ 127 → l < 2 ^ 128 → IsShifted h l v (count_leading_zeros 128 v)
shifted h l v below low room = shifted_by h l v (count_leading_zeros 128 v) below room (scale v (omega arith) low)
