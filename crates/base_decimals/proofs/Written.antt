-- Digits that are written one by one.
use Rattle.std.proofs.lemmas.{List.{drop-set, drop_all}, Bool.cases_lt, Nat.{le-div, div_below}}
use Rattle.std.proofs.Math.{Nat.{pow-le-pow_right, pow-suc, one-le-pow, div-div-eq-div-mul, div-eq_of_lt}, ListN.set}
use Rattle.std.proofs.Common.{length-append, ◌≡◌, ℕ, zero, suc, ◌+◌, ◌-◌, ◌*◌, ◌/◌, ◌%◌, ◌^◌, ◌<◌, ◌≤◌, List, [], ◌∷◌, ◌++◌, length, take, drop, length-take-le, refl, sym, ap, subst, ◌∙◌, inl, inr, arith, false, ◌==◌}
use Rattle.base_decimals.specs.Texts.{last_digits, without_zeros, dec_text}

pub length-last_digits : (k n : ℕ) → length (last_digits k n) ≡ k
length-last_digits zero n = refl
length-last_digits (suc k) n = ap (λ i. suc i) (length-last_digits k n)

-- the last one can be written first
pub last_digits_push : (k n : ℕ) → last_digits (suc k) n ≡ last_digits k (n / 10) ++ (48 + n % 10) ∷ []
last_digits_push zero n = ap (λ i. (48 + i % 10) ∷ []) (let e : n / 10 ^ 0 ≡ n = omega arith in e)
last_digits_push (suc k) n =
    let e : n / 10 / 10 ^ k ≡ n / 10 ^ suc k = div-div-eq-div-mul n 10 (10 ^ k) ∙ ap (λ i. n / i) (let f : 10 * 10 ^ k ≡ 10 ^ suc k = omega arith in f) in
    ap (λ i. (48 + i % 10) ∷ last_digits (suc k) n) (sym e)
    ∙ ap (λ ds. (48 + n / 10 / 10 ^ k % 10) ∷ ds) (last_digits_push k n)

-- fewer than 20 digits before the last
pub pow_below_20 : (r v : ℕ) → 10 ^ r ≤ v → v < 10 ^ 20 → r + 1 ≤ 20
pow_below_20 r v least most =
    elim (cases_lt r 20) [ inl few ↦ omega arith | inr many ↦ absurd (omega (arith, pow-le-pow_right {n = 10} (omega arith) many)) ]

-- one step of writing from the end
pub step_rest : (n p rest v : ℕ) → 0 < p → p ≤ n → rest ≡ v / 10 ^ (n - p) → rest / 10 ≡ v / 10 ^ (n - (p - 1))
step_rest n p rest v some within e =
    ap (λ i. i / 10) e ∙ div-div-eq-div-mul v (10 ^ (n - p)) 10
    ∙ ap (λ i. v / i) (sym (pow-suc 10 (n - p)))
    ∙ ap (λ i. v / 10 ^ i) (let f : suc (n - p) ≡ n - (p - 1) = omega arith in f)

pub step_written : (out : List ℕ) (p rest v : ℕ) → 0 < p → p ≤ length out → rest ≡ v / 10 ^ (length out - p) → drop p out ≡ last_digits (length out - p) v
    → drop (p - 1) (set out (p - 1) (48 + rest % 10)) ≡ last_digits (length out - (p - 1)) v
step_written out p rest v some within e written =
    drop-set out (p - 1) (48 + rest % 10) (omega arith)
    ∙ ap (λ i. (48 + rest % 10) ∷ drop i out) (let f : p - 1 + 1 ≡ p = omega arith in f)
    ∙ ap (λ ds. (48 + rest % 10) ∷ ds) written
    ∙ ap (λ i. (48 + i % 10) ∷ last_digits (length out - p) v) e
    ∙ ap (λ i. last_digits i v) (let f : suc (length out - p) ≡ length out - (p - 1) = omega arith in f)

-- the last digit written first, and the others before it
pub whole_written : (out : List ℕ) (v : ℕ) → 0 < length out
    → last_digits (length out - 1) (v / 10) ++ drop (length out - 1) (set out (length out - 1) (48 + v % 10)) ≡ last_digits (length out) v
whole_written out v some =
    ap (λ ds. last_digits (length out - 1) (v / 10) ++ ds)
    (drop-set out (length out - 1) (48 + v % 10) (omega arith)
    ∙ ap (λ i. (48 + v % 10) ∷ drop i out) (let f : length out - 1 + 1 ≡ length out = omega arith in f)
    ∙ ap (λ ds. (48 + v % 10) ∷ ds) (drop_all (length out) out (omega arith)))
    ∙ sym (last_digits_push (length out - 1) v)
    ∙ ap (λ i. last_digits i v) (let f : suc (length out - 1) ≡ length out = omega arith in f)

-- a digit in front of which the number is 0 is a zero, and is left out
pub trim_one : (t v : ℕ) → v < 10 ^ suc t → without_zeros (last_digits (suc (suc t)) v) ≡ without_zeros (last_digits (suc t) v)
trim_one t v few = rw (div-eq_of_lt few) refl

pub trimmed : (j w v : ℕ) → v < 10 ^ suc w → without_zeros (last_digits (suc (j + w)) v) ≡ without_zeros (last_digits (suc w) v)
trimmed zero w v few = ap (λ i. without_zeros (last_digits (suc i) v)) (let f : zero + w ≡ w = omega arith in f)
trimmed (suc j) w v few =
    ap (λ i. without_zeros (last_digits (suc i) v)) (let f : suc j + w ≡ suc (j + w) = omega arith in f)
    ∙ trim_one (j + w) v (omega (arith, few, pow-le-pow_right {n = 10} (omega arith) (let f : suc w ≤ suc (j + w) = omega arith in f)))
    ∙ trimmed j w v few

-- a first digit that is not 0 is kept
pub kept : (w v : ℕ) → v < 10 ^ suc w → (1 < suc w → 10 ^ w ≤ v) → without_zeros (last_digits (suc w) v) ≡ last_digits (suc w) v
kept zero v few needed = refl
kept (suc w) v few needed =
    let top : 0 < v / 10 ^ suc w = le-div 1 v (10 ^ suc w) (one-le-pow (suc w) 10 (omega arith)) (omega (arith, needed (omega arith))) in
    let low : v / 10 ^ suc w < 10 = div_below v (10 ^ suc w) 10 (one-le-pow (suc w) 10 (omega arith)) (omega (arith, few, pow-suc 10 (suc w))) in
    let e : (48 + v / 10 ^ suc w % 10 == 48) ≡ false = grind arith in
    rw e refl

-- the text, once the number of its first digits is known
pub text_is : (n w : ℕ) → 1 ≤ w → w ≤ 20 → n / 10 ^ 18 < 10 ^ w → (1 < w → 10 ^ (w - 1) ≤ n / 10 ^ 18)
    → dec_text n ≡ last_digits w (n / 10 ^ 18) ++ 46 ∷ last_digits 18 (n % 10 ^ 18)
text_is n zero some short enough needed = absurd (omega arith)
text_is n (suc w) some short enough needed =
    ap (λ ds. ds ++ 46 ∷ last_digits 18 (n % 10 ^ 18))
    (ap (λ i. without_zeros (last_digits i (n / 10 ^ 18))) (let f : 20 ≡ suc (19 - w + w) = omega arith in f)
    ∙ trimmed (19 - w) w (n / 10 ^ 18) enough
    ∙ kept w (n / 10 ^ 18) enough (λ h. subst (λ (i : ℕ). 10 ^ i ≤ n / 10 ^ 18) (let f : suc w - 1 ≡ w = omega arith in f) (needed h)))

pub length_is : (n w : ℕ) → dec_text n ≡ last_digits w (n / 10 ^ 18) ++ 46 ∷ last_digits 18 (n % 10 ^ 18) → length (dec_text n) ≡ w + 19
length_is n w e =
    ap length e ∙ length-append (last_digits w (n / 10 ^ 18)) (46 ∷ last_digits 18 (n % 10 ^ 18))
    ∙ omega (arith, length-last_digits w (n / 10 ^ 18), length-last_digits 18 (n % 10 ^ 18))

-- what writing `w` first digits, a point and 18 digits into the front of `out` made
pub text_written : (n w : ℕ) (out new : List ℕ) → 1 ≤ w → w ≤ 20 → n / 10 ^ 18 < 10 ^ w → (1 < w → 10 ^ (w - 1) ≤ n / 10 ^ 18) → w + 1 + 18 ≤ length out
    → new ≡ last_digits (length (take (w + 1 + 18) out) - 19) (n / 10 ^ 18) ++ 46 ∷ last_digits 18 (n % 10 ^ 18) → new ≡ dec_text n
text_written n w out new some short enough needed room e =
    e ∙ ap (λ i. last_digits (i - 19) (n / 10 ^ 18) ++ 46 ∷ last_digits 18 (n % 10 ^ 18)) (length-take-le (w + 1 + 18) out room)
    ∙ ap (λ i. last_digits i (n / 10 ^ 18) ++ 46 ∷ last_digits 18 (n % 10 ^ 18)) (let f : w + 1 + 18 - 19 ≡ w = omega arith in f)
    ∙ sym (text_is n w some short enough needed)
