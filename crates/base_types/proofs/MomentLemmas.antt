-- What is printed of a moment is read as the same moment.
use Rattle.std.proofs.Common.{◌≡◌, ◌∙◌, ℕ, zero, suc, ◌+◌, ◌-◌, ◌*◌, ◌/◌, ◌%◌, ◌^◌, ◌≤◌, ◌<◌, ◌≢◌, true, false, ◌==◌, nat_lt, List, [], ◌∷◌, ◌++◌, slice_index, Some, refl, ap, arith, ne_eqb, pos, unsigned_abs, ◌⊎◌, inl, inr, div-add-mod'}
use Rattle.std.proofs.Math.Nat.{pow-succ', pow-le-pow_right, mul-le-mul_right, div-lt_iff_lt-mul, mod-lt}
use Rattle.std.{proofs.lemmas.Bool.Decides.nat_tests, specs.Char.is_ascii_digit}
use Rattle.jiff_core.specs.Calendar.{IsDate}
use Rattle.base_types.specs.Calendar.{end_of_time, is_date, second_of, day_number, date_of}
use Rattle.base_types.specs.Moment.{pair, digits_of, fraction_of, day_at, second_at, moment_of, digits, fraction_text, date_text, clock_text, moment_text}
use Rattle.base_types.proofs.{DayLemmas.{test_date, date_bounds}, DateLemmas.{IsDateOf, date_of-is}}

pub ten_times : (p : ℕ) → 0 < p → 10 ^ p ≡ 10 * 10 ^ (p - 1)
ten_times zero h = absurd (omega arith)
ten_times (suc p) h = let e : suc p - 1 ≡ p = omega arith in rw e (pow-succ' 10 p)

pub power_fits : (p : ℕ) → p ≤ 9 → 10 ^ p ≤ 1000000000
power_fits p h = pow-le-pow_right {n = 10} (omega arith) h

pub power_some : (p : ℕ) → 0 < 10 ^ p
power_some p = pow-le-pow_right {n = 10} (omega arith) {i = 0} {j = p} (omega arith)

pub digit_below : (d n p : ℕ) → d < 10 → 0 < p → n < 10 ^ (p - 1) → d * 10 ^ (p - 1) + n < 10 ^ p
digit_below d n p hd hp hn =
    let e : 10 ^ p ≡ 10 * 10 ^ (p - 1) = ten_times p hp in
    let k : d * 10 ^ (p - 1) ≤ 9 * 10 ^ (p - 1) = mul-le-mul_right (10 ^ (p - 1)) (omega arith) in
    omega arith

-- ---- printing

pub quotient_below : (n p : ℕ) → n < 10 ^ suc p → n / 10 ^ p < 10
quotient_below n p h =
    let ten : 10 ^ suc p ≡ 10 * 10 ^ p = pow-succ' 10 p in
    (div-lt_iff_lt-mul {x = n} {y = 10} (power_some p)).1 (omega arith)

pub first_below : (n p : ℕ) → 0 < n → n < 10 ^ p → (0 < p) × (n / 10 ^ (p - 1) < 10)
first_below n zero some h = absurd (omega arith)
first_below n (suc p) some h = let e : suc p - 1 ≡ p = omega arith in (omega arith, rw e (quotient_below n p h))

pub rest_below : (n p : ℕ) → n % 10 ^ p < 10 ^ p
rest_below n p = mod-lt n (power_some p)

-- ---- reading what was printed

pub pair_two : (n : ℕ) → n < 100 → pair (48 + n / 10) (48 + n % 10) ≡ Some n
pair_two n h =
    let e1 : is_ascii_digit (48 + n / 10) ≡ true = grind (arith, nat_tests) in
    let e2 : is_ascii_digit (48 + n % 10) ≡ true = grind (arith, nat_tests) in
    let e3 : 10 * (48 + n / 10 - 48) + (48 + n % 10 - 48) ≡ n = omega arith in
    rw (e1, e2) (ap Some e3)

is_digit_of : (d : ℕ) → d < 10 → is_ascii_digit (48 + d) ≡ true
is_digit_of d h = grind (arith, nat_tests)

digits_step : (p n : ℕ) → n < 10 ^ suc p → n ≢ 0 → digits_of p (digits p (n % 10 ^ p) ++ 90 ∷ []) ≡ Some (n % 10 ^ p) → digits_of (suc p) ((48 + n / 10 ^ p) ∷ digits p (n % 10 ^ p) ++ 90 ∷ []) ≡ Some n
digits_step p n h ne again =
    let ten : 10 ^ suc p ≡ 10 * 10 ^ p = pow-succ' 10 p in
    let some : 0 < 10 ^ p = power_some p in
    let q : n / 10 ^ p < 10 = quotient_below n p h in
    let e1 : (48 + n / 10 ^ p == 90) ≡ false = ne_eqb (48 + n / 10 ^ p) 90 (omega arith) in
    let e2 : is_ascii_digit (48 + n / 10 ^ p) ≡ true = is_digit_of (n / 10 ^ p) q in
    let e3 : suc p - 1 ≡ p = omega arith in
    let e4 : 48 + n / 10 ^ p - 48 ≡ n / 10 ^ p = omega arith in
    let e5 : n / 10 ^ p * 10 ^ p + n % 10 ^ p ≡ n = div-add-mod' n (10 ^ p) in
    let e0 : nat_lt 0 (suc p) ≡ true = grind (arith, nat_tests) in
    rw (e1, e0, e2, e3, again, e4) (ap Some e5)

zero_or_not : (n : ℕ) → (n ≡ 0) ⊎ (n ≢ 0)
zero_or_not n = grind arith

digits_cases : (p n : ℕ) → ((k : ℕ) → k < 10 ^ p → digits_of p (digits p k ++ 90 ∷ []) ≡ Some k) → n < 10 ^ suc p → (n ≡ 0) ⊎ (n ≢ 0) → digits_of (suc p) (digits (suc p) n ++ 90 ∷ []) ≡ Some n
digits_cases p n back h (inl e) = rw e refl
digits_cases p n back h (inr ne) = rw (ne_eqb n 0 ne) (digits_step p n h ne (back (n % 10 ^ p) (rest_below n p)))

pub digits_back : (p n : ℕ) → n < 10 ^ p → digits_of p (digits p n ++ 90 ∷ []) ≡ Some n
digits_back zero n h = let e : n ≡ 0 = omega arith in rw e refl
digits_back (suc p) n h = digits_cases p n (digits_back p) h (zero_or_not n)

pub digit_small : (b : ℕ) → is_ascii_digit b ≡ true → b - 48 < 10
digit_small b h = grind (arith, nat_tests)

point : (xs : List ℕ) → is_ascii_digit (slice_index xs 0) ≡ true → fraction_of (46 ∷ xs) ≡ digits_of 9 xs
point xs h = rw h refl

first_digit : (p n : ℕ) → n < 10 ^ p → n ≢ 0 → is_ascii_digit (slice_index (digits p n ++ 90 ∷ []) 0) ≡ true
first_digit zero n h ne = absurd (omega arith)
first_digit (suc p) n h ne = rw (ne_eqb n 0 ne) (is_digit_of (n / 10 ^ p) (quotient_below n p h))

point_text : (n : ℕ) → n ≢ 0 → fraction_text n ≡ 46 ∷ digits 9 n
point_text n ne = rw (ne_eqb n 0 ne) refl

fraction_cases : (n : ℕ) → n < 10 ^ 9 → (n ≡ 0) ⊎ (n ≢ 0) → fraction_of (fraction_text n ++ 90 ∷ []) ≡ Some n
fraction_cases n h (inl e) = rw e refl
fraction_cases n h (inr ne) = ap (λ (t : List ℕ). fraction_of (t ++ 90 ∷ [])) (point_text n ne) ∙ point (digits 9 n ++ 90 ∷ []) (first_digit 9 n h ne) ∙ digits_back 9 n h

pub fraction_back : (n : ℕ) → n < 1000000000 → fraction_of (fraction_text n ++ 90 ∷ []) ≡ Some n
fraction_back n h = fraction_cases n h (zero_or_not n)

clock_back : (s : ℕ) → s < 86400 → second_of (s / 3600) (s / 60 % 60) (s % 60) ≡ Some s
clock_back s h =
    let e1 : nat_lt (s / 3600) 24 ≡ true = grind (arith, nat_tests) in
    let e2 : nat_lt (s / 60 % 60) 60 ≡ true = grind (arith, nat_tests) in
    let e3 : nat_lt (s % 60) 60 ≡ true = grind (arith, nat_tests) in
    let e4 : 3600 * (s / 3600) + 60 * (s / 60 % 60) + s % 60 ≡ s = omega arith in
    rw (e1, e2, e3) (ap Some e4)

text_back : (y m d s f : ℕ) → y < 10000 → m < 100 → d < 100 → is_date y m d ≡ true → s < 86400 → f < 1000000000
    → moment_of (date_text (y, m, d) ++ 84 ∷ clock_text s ++ fraction_text f ++ 90 ∷ []) ≡ Some ((86400 * day_number y m d + s) * 1000000000 + f)
unfolding moment_of day_at second_at
text_back y m d s f hy hm hd date hs hf =
    let e0 = fraction_back f hf in
    let e1 = pair_two (y / 100) (omega arith) in
    let e2 = pair_two (y % 100) (omega arith) in
    let e3 = pair_two m hm in
    let e4 = pair_two d hd in
    let e5 = pair_two (s / 3600) (omega arith) in
    let e6 = pair_two (s / 60 % 60) (omega arith) in
    let e7 = pair_two (s % 60) (omega arith) in
    let e8 : 100 * (y / 100) + y % 100 ≡ y = omega arith in
    rw (e0, e1, e2, e3, e4, e5, e6, e7, e8, date, clock_back s hs) refl

text_of_date : (nanos : ℕ) (date : ℕ × ℕ × ℕ) → nanos < end_of_time → IsDateOf (nanos / 86400000000000) date
    → moment_of (date_text date ++ 84 ∷ clock_text (nanos / 1000000000 % 86400) ++ fraction_text (nanos % 1000000000) ++ 90 ∷ []) ≡ Some nanos
text_of_date nanos (y, m, d) h is =
    let date : (1970 ≤ y) × IsDate (pos y) (pos m) (pos d) = test_date y m d is.exists in
    let bounds = date_bounds y m d date.1 in
    let n : day_number y m d ≡ nanos / 86400000000000 = ap unsigned_abs is.number in
    let back = text_back y m d (nanos / 1000000000 % 86400) (nanos % 1000000000) bounds.0 bounds.1 bounds.2 is.exists (omega arith) (omega arith) in
    let sum : (86400 * (nanos / 86400000000000) + nanos / 1000000000 % 86400) * 1000000000 + nanos % 1000000000 ≡ nanos = omega arith in
    back ∙ ap Some (ap (λ (k : ℕ). (86400 * k + nanos / 1000000000 % 86400) * 1000000000 + nanos % 1000000000) n ∙ sum)

-- what is printed is read as the same moment
pub moment_of-moment_text : (nanos : ℕ) → nanos < end_of_time → moment_of (moment_text nanos) ≡ Some nanos
unfolding moment_text
moment_of-moment_text nanos h = text_of_date nanos (date_of (nanos / 86400000000000)) h (date_of-is (nanos / 86400000000000) (omega arith))
