-- Texts of decimals are read as what they were written from, and the other way round.
use Rattle.std.specs.{Char.{digit_value, is_ascii_digit}, List.{list_all, position_or_len}}
use Rattle.std.{specs.Str.Parse.{digits_value, digits_value_after}, proofs.lemmas.Int.Digits.digits_value-lt}
use Rattle.std.proofs.lemmas.{Bool.cases_eq, Nat.{div-mul-add, mod-mul-add, mod_below}}
use Rattle.std.proofs.Math.Nat.{pow-suc, one-le-pow, pow-le-pow_right, mul-le-mul_right, mod-eq_of_lt}
use Rattle.std.proofs.{Math.Seq.{take-append_seam, drop-append-add}, lemmas.Grind.common_steps}
use Rattle.std.proofs.Common.{option_map, ne_eqb, lt-ltb, pow-add, ◌≡◌, ℕ, zero, suc, ◌+◌, ◌-◌, ◌*◌, ◌/◌, ◌%◌, ◌^◌, ◌<◌, ◌≤◌, true, false, ◌==◌, nat_lt, cond, Some, None, List, [], ◌∷◌, ◌++◌, length, drop, position, ◌⊎◌, inl, inr, length-append, refl, sym, ap, subst, ◌∙◌, arith}
use Rattle.base_decimals.specs.Texts.{number_of, is_point, dec_of, units_at, both_units, whole_units, place_units, last_digits, without_zeros, dec_text}
use Rattle.base_decimals.{specs.Laws.IsCanonical, proofs.Digits.{all_digits, and-true, digit_range, digit_passes}}
use Rattle.base_decimals.proofs.Written.{length-last_digits, trimmed}

-- the digits of n count above those that follow
pub value_after : (n : ℕ) (ds : List ℕ) → digits_value_after 10 n ds ≡ n * 10 ^ length ds + digits_value 10 ds
value_after n [] = omega arith
value_after n (d ∷ ds) =
    value_after (n * 10 + digit_value d) ds
    ∙ (let e : 10 ^ suc (length ds) ≡ 10 ^ length ds * 10 = pow-suc 10 (length ds) in
    let f : digits_value_after 10 (0 * 10 + digit_value d) ds ≡ (0 * 10 + digit_value d) * 10 ^ length ds + digits_value 10 ds = value_after (0 * 10 + digit_value d) ds in
    rw e (omega (arith, f)))

pub value_first : (d : ℕ) (ds : List ℕ) → digits_value 10 (d ∷ ds) ≡ digit_value d * 10 ^ length ds + digits_value 10 ds
value_first d ds = value_after (0 * 10 + digit_value d) ds ∙ omega arith

-- the byte of a digit below 10
pub digit_of : (d : ℕ) → d < 10 → (digit_value (48 + d) ≡ d) × (is_ascii_digit (48 + d) ≡ true)
digit_of d h = (grind (arith, common_steps), grind (arith, common_steps))

mod_more_small : (d p r : ℕ) → d < 10 → r < p → d * p + r < p * 10
mod_more_small d p r few low = omega (arith, mul-le-mul_right p (let e : d ≤ 9 = omega arith in e))

-- the last k + 1 digits of n as a number
pub mod_more : (k n : ℕ) → n % 10 ^ suc k ≡ n / 10 ^ k % 10 * 10 ^ k + n % 10 ^ k
mod_more k n =
    let p : ℕ = 10 ^ k in
    let some : 0 < p = one-le-pow k 10 (omega arith) in
    let whole : p * (n / p) + n % p ≡ n = omega arith in
    let upper : 10 * (n / p / 10) + n / p % 10 ≡ n / p = omega arith in
    let low : n % p < p = mod_below n p some in
    let e : n ≡ n / p / 10 * (p * 10) + (n / p % 10 * p + n % p) = sym whole ∙ (let f : p * (10 * (n / p / 10) + n / p % 10) + n % p ≡ n / p / 10 * (p * 10) + (n / p % 10 * p + n % p) = omega arith in subst (λ (i : ℕ). p * i + n % p ≡ n / p / 10 * (p * 10) + (n / p % 10 * p + n % p)) upper f) in
    let small : n / p % 10 * p + n % p < p * 10 = mod_more_small (n / p % 10) p (n % p) (omega arith) low in
    ap (λ i. n % i) (pow-suc 10 k) ∙ ap (λ i. i % (p * 10)) e ∙ mod-mul-add (n / p / 10) (p * 10) (n / p % 10 * p + n % p) small

pub value_last_digits : (k n : ℕ) → digits_value 10 (last_digits k n) ≡ n % 10 ^ k
value_last_digits zero n = omega arith
value_last_digits (suc k) n =
    value_first (48 + n / 10 ^ k % 10) (last_digits k n)
    ∙ ap (λ d. d * 10 ^ length (last_digits k n) + digits_value 10 (last_digits k n)) (digit_of (n / 10 ^ k % 10) (omega arith)).0
    ∙ ap (λ i. n / 10 ^ k % 10 * 10 ^ i + digits_value 10 (last_digits k n)) (length-last_digits k n)
    ∙ ap (λ i. n / 10 ^ k % 10 * 10 ^ k + i) (value_last_digits k n)
    ∙ sym (mod_more k n)

pub last_digits_pass : (k n : ℕ) → list_all is_ascii_digit (last_digits k n) ≡ true
last_digits_pass zero n = refl
last_digits_pass (suc k) n = rw ((digit_of (n / 10 ^ k % 10) (omega arith)).1) (last_digits_pass k n)

-- a zero in front of another digit is left out, and any other digit is kept with what follows
pub trim_cases : (d e : ℕ) (ds : List ℕ) → ((d ≡ 48) × (without_zeros (d ∷ e ∷ ds) ≡ without_zeros (e ∷ ds))) ⊎ (without_zeros (d ∷ e ∷ ds) ≡ d ∷ e ∷ ds)
trim_cases d e ds =
    elim (cases_eq d 48) [
      | inl zero_first ↦ inl (zero_first, rw zero_first refl)
      | inr other ↦ inr (let f : (d == 48) ≡ false = ne_eqb d 48 other in rw f refl)
    ]

pub zero_counts_not : (d e : ℕ) (ds : List ℕ) → d ≡ 48 → digits_value 10 (d ∷ e ∷ ds) ≡ digits_value 10 (e ∷ ds)
zero_counts_not d e ds h = rw h (value_first 48 (e ∷ ds) ∙ omega arith)

pub trim_value : (ds : List ℕ) → digits_value 10 (without_zeros ds) ≡ digits_value 10 ds
trim_value [] = refl
trim_value (d ∷ []) = refl
trim_value (d ∷ e ∷ ds) =
    elim (trim_cases d e ds) [
      | inl h ↦ ap (λ l. digits_value 10 l) h.1 ∙ trim_value (e ∷ ds) ∙ sym (zero_counts_not d e ds h.0)
      | inr h ↦ ap (λ l. digits_value 10 l) h
    ]

pub trim_passes : (ds : List ℕ) → list_all is_ascii_digit ds ≡ true → list_all is_ascii_digit (without_zeros ds) ≡ true
trim_passes [] h = refl
trim_passes (d ∷ []) h = h
trim_passes (d ∷ e ∷ ds) h =
    elim (trim_cases d e ds) [
      | inl z ↦ ap (λ l. list_all is_ascii_digit l) z.1 ∙ trim_passes (e ∷ ds) (and-true (is_ascii_digit d) (list_all is_ascii_digit (e ∷ ds)) h).1
      | inr k ↦ ap (λ l. list_all is_ascii_digit l) k ∙ h
    ]

pub trim_short : (ds : List ℕ) → length (without_zeros ds) ≤ length ds
trim_short [] = omega arith
trim_short (d ∷ []) = omega arith
trim_short (d ∷ e ∷ ds) =
    elim (trim_cases d e ds) [
      | inl z ↦ omega (arith, ap (λ (l : List ℕ). length l) z.1, trim_short (e ∷ ds))
      | inr k ↦ omega (arith, ap (λ (l : List ℕ). length l) k)
    ]

pub trim_some : (ds : List ℕ) → 0 < length ds → 0 < length (without_zeros ds)
trim_some [] h = h
trim_some (d ∷ []) h = h
trim_some (d ∷ e ∷ ds) h =
    elim (trim_cases d e ds) [
      | inl z ↦ omega (arith, ap (λ (l : List ℕ). length l) z.1, trim_some (e ∷ ds) (omega arith))
      | inr k ↦ omega (arith, ap (λ (l : List ℕ). length l) k)
    ]

pub trim_twice : (ds : List ℕ) → without_zeros (without_zeros ds) ≡ without_zeros ds
trim_twice [] = refl
trim_twice (d ∷ []) = refl
trim_twice (d ∷ e ∷ ds) =
    elim (trim_cases d e ds) [
      | inl z ↦ ap (λ l. without_zeros l) z.1 ∙ trim_twice (e ∷ ds) ∙ sym z.1
      | inr k ↦ ap (λ l. without_zeros l) k
    ]

-- a digit is no point
pub digit_no_point : (d : ℕ) → is_ascii_digit d ≡ true → is_point d ≡ false
digit_no_point d h = grind (arith, common_steps)

pub point_behind : (ws fs : List ℕ) → list_all is_ascii_digit ws ≡ true → position_or_len is_point (ws ++ 46 ∷ fs) ≡ length ws
point_behind [] fs h = refl
point_behind (d ∷ ds) fs h =
    let both = and-true (is_ascii_digit d) (list_all is_ascii_digit ds) h in
    rw (digit_no_point d both.0) (omega (arith, point_behind ds fs both.1))

pub point_at : (ws fs : List ℕ) → list_all is_ascii_digit ws ≡ true → position is_point (ws ++ 46 ∷ fs) ≡ Some (length ws)
point_at ws fs h =
    let e : position_or_len is_point (ws ++ 46 ∷ fs) ≡ length ws = point_behind ws fs h in
    let t : nat_lt (length ws) (length (ws ++ 46 ∷ fs)) ≡ true = lt-ltb (length ws) (length (ws ++ 46 ∷ fs)) (omega (arith, length-append ws (46 ∷ fs))) in
    ap (λ n. cond (nat_lt n (length (ws ++ 46 ∷ fs))) (Some n) None) e ∙ ap (λ b. cond b (Some (length ws)) None) t

pub number_some : (most : ℕ) (ds : List ℕ) → 0 < length ds → length ds ≤ most → list_all is_ascii_digit ds ≡ true → number_of most ds ≡ Some (digits_value 10 ds)
number_some most ds some short all = grind (arith, common_steps)

-- what a whole part, a point and places say
pub dec_of_parts : (ws fs : List ℕ) → list_all is_ascii_digit ws ≡ true → 0 < length ws → length ws ≤ 20 → list_all is_ascii_digit fs ≡ true → length fs ≡ 18
    → dec_of (ws ++ 46 ∷ fs) ≡ Some (digits_value 10 ws * 10 ^ 18 + digits_value 10 fs)
dec_of_parts ws fs whole some short places all =
    ap (λ o. units_at o (ws ++ 46 ∷ fs)) (point_at ws fs whole)
    ∙ ap (λ l. both_units (whole_units l) (place_units (drop (length ws + 1) (ws ++ 46 ∷ fs)))) (take-append_seam ws (46 ∷ fs))
    ∙ ap (λ l. both_units (whole_units ws) (place_units l)) (drop-append-add ws (46 ∷ fs) 1)
    ∙ ap (λ o. both_units (option_map (λ n. n * 10 ^ 18) o) (place_units fs)) (number_some 20 ws some short whole)
    ∙ ap (λ o. both_units (Some (digits_value 10 ws * 10 ^ 18)) (option_map (λ n. n * 10 ^ (18 - length fs)) o)) (number_some 18 fs (omega arith) (omega arith) places)
    ∙ ap (λ n. Some (digits_value 10 ws * 10 ^ 18 + digits_value 10 fs * 10 ^ (18 - n))) all
    ∙ ap (λ n. Some (digits_value 10 ws * 10 ^ 18 + n)) (let e : digits_value 10 fs * 10 ^ 0 ≡ digits_value 10 fs = omega arith in e)

pub written_canonical : (n : ℕ) → n < 10 ^ 38 → IsCanonical (dec_text n)
written_canonical n small = record {
  whole = without_zeros (last_digits 20 (n / 10 ^ 18));
  places = last_digits 18 (n % 10 ^ 18);
  is = refl;
  whole_digits = trim_passes (last_digits 20 (n / 10 ^ 18)) (last_digits_pass 20 (n / 10 ^ 18));
  some = trim_some (last_digits 20 (n / 10 ^ 18)) (omega (arith, length-last_digits 20 (n / 10 ^ 18)));
  short = omega (arith, trim_short (last_digits 20 (n / 10 ^ 18)), length-last_digits 20 (n / 10 ^ 18));
  no_zeros = trim_twice (last_digits 20 (n / 10 ^ 18));
  place_digits = last_digits_pass 18 (n % 10 ^ 18);
  all_places = length-last_digits 18 (n % 10 ^ 18);
}

pub written_read : (n : ℕ) → n < 10 ^ 38 → dec_of (dec_text n) ≡ Some n
written_read n small =
    let whole : digits_value 10 (without_zeros (last_digits 20 (n / 10 ^ 18))) ≡ n / 10 ^ 18 =
    trim_value (last_digits 20 (n / 10 ^ 18)) ∙ value_last_digits 20 (n / 10 ^ 18) ∙ mod-eq_of_lt (omega arith) in
    let places : digits_value 10 (last_digits 18 (n % 10 ^ 18)) ≡ n % 10 ^ 18 = value_last_digits 18 (n % 10 ^ 18) ∙ mod-eq_of_lt (omega arith) in
    dec_of_parts (without_zeros (last_digits 20 (n / 10 ^ 18))) (last_digits 18 (n % 10 ^ 18))
    (trim_passes (last_digits 20 (n / 10 ^ 18)) (last_digits_pass 20 (n / 10 ^ 18)))
    (trim_some (last_digits 20 (n / 10 ^ 18)) (omega (arith, length-last_digits 20 (n / 10 ^ 18))))
    (omega (arith, trim_short (last_digits 20 (n / 10 ^ 18)), length-last_digits 20 (n / 10 ^ 18)))
    (last_digits_pass 18 (n % 10 ^ 18)) (length-last_digits 18 (n % 10 ^ 18))
    ∙ ap (λ m. Some m) (omega (arith, whole, places))

-- tens of the place's unit do not change its digit
pub digit_same : (x n p : ℕ) → 0 < p → (x * (10 * p) + n) / p % 10 ≡ n / p % 10
digit_same x n p some =
    let whole : p * (n / p) + n % p ≡ n = omega arith in
    let e : x * (10 * p) + n ≡ (x * 10 + n / p) * p + n % p = omega (arith, whole) in
    ap (λ i. i / p % 10) e ∙ ap (λ i. i % 10) (div-mul-add (x * 10 + n / p) p (n % p) (mod_below n p some)) ∙ omega arith

pub pow_above : (j k : ℕ) → suc k ≤ j → 10 ^ j ≡ 10 ^ (j - suc k) * (10 * 10 ^ k)
pow_above j k more =
    ap (λ i. 10 ^ i) (let e : j ≡ j - suc k + suc k = omega arith in e) ∙ pow-add 10 (j - suc k) (suc k)
    ∙ ap (λ i. 10 ^ (j - suc k) * i) (let e : 10 ^ k * 10 ≡ 10 * 10 ^ k = omega arith in pow-suc 10 k ∙ e)

-- what stands above the last digits does not change them
pub last_digits_same : (k j a n : ℕ) → k ≤ j → last_digits k (a * 10 ^ j + n) ≡ last_digits k n
last_digits_same zero j a n within = refl
last_digits_same (suc k) j a n within =
    let e : a * 10 ^ j + n ≡ a * 10 ^ (j - suc k) * (10 * 10 ^ k) + n = ap (λ i. a * i + n) (pow_above j k within) ∙ omega arith in
    ap (λ i. (48 + i / 10 ^ k % 10) ∷ last_digits k (a * 10 ^ j + n)) e
    ∙ ap (λ i. (48 + i) ∷ last_digits k (a * 10 ^ j + n)) (digit_same (a * 10 ^ (j - suc k)) n (10 ^ k) (one-le-pow k 10 (omega arith)))
    ∙ ap (λ ds. (48 + n / 10 ^ k % 10) ∷ ds) (last_digits_same k j a n (omega arith))

-- digits are the last digits of their number
pub last_digits_value : (ds : List ℕ) → list_all is_ascii_digit ds ≡ true → last_digits (length ds) (digits_value 10 ds) ≡ ds
last_digits_value [] h = refl
last_digits_value (d ∷ ds) h =
    let both = and-true (is_ascii_digit d) (list_all is_ascii_digit ds) h in
    let k : ℕ = length ds in
    let v : ℕ = digit_value d in
    let w : ℕ = digits_value 10 ds in
    let few : v < 10 = digit_passes d both.0 in
    let first : 48 + v % 10 ≡ d = let r = digit_range d few in omega (arith, r.0, r.2) in
    ap (λ i. (48 + i / 10 ^ k % 10) ∷ last_digits k i) (value_first d ds)
    ∙ ap (λ i. (48 + i % 10) ∷ last_digits k (v * 10 ^ k + w)) (div-mul-add v (10 ^ k) w (digits_value-lt 10 ds (all_digits ds both.1)))
    ∙ ap (λ i. i ∷ last_digits k (v * 10 ^ k + w)) first
    ∙ ap (λ l. d ∷ l) (last_digits_same k k v w (omega arith) ∙ last_digits_value ds both.1)

-- a whole part of 1 to 20 digits without zeros in front is that of its number
pub whole_again : (ws : List ℕ) → list_all is_ascii_digit ws ≡ true → 0 < length ws → length ws ≤ 20 → without_zeros ws ≡ ws → without_zeros (last_digits 20 (digits_value 10 ws)) ≡ ws
whole_again [] h some short trim = absurd (omega arith)
whole_again (d ∷ ds) h some short trim =
    ap (λ i. without_zeros (last_digits i (digits_value 10 (d ∷ ds)))) (let e : 20 ≡ suc (19 - length ds + length ds) = omega arith in e)
    ∙ trimmed (19 - length ds) (length ds) (digits_value 10 (d ∷ ds)) (digits_value-lt 10 (d ∷ ds) (all_digits (d ∷ ds) h))
    ∙ ap (λ l. without_zeros l) (last_digits_value (d ∷ ds) h)
    ∙ trim

pub places_again : (fs : List ℕ) → list_all is_ascii_digit fs ≡ true → length fs ≡ 18 → last_digits 18 (digits_value 10 fs) ≡ fs
places_again fs h all = ap (λ i. last_digits i (digits_value 10 fs)) (sym all) ∙ last_digits_value fs h

pub read_written : (ws fs : List ℕ) → list_all is_ascii_digit ws ≡ true → 0 < length ws → length ws ≤ 20 → without_zeros ws ≡ ws → list_all is_ascii_digit fs ≡ true → length fs ≡ 18
    → dec_text (digits_value 10 ws * 10 ^ 18 + digits_value 10 fs) ≡ ws ++ 46 ∷ fs
read_written ws fs whole some short trim places all =
    let low : digits_value 10 fs < 10 ^ 18 = subst (λ (i : ℕ). digits_value 10 fs < 10 ^ i) all (digits_value-lt 10 fs (all_digits fs places)) in
    ap (λ i. without_zeros (last_digits 20 i) ++ 46 ∷ last_digits 18 ((digits_value 10 ws * 10 ^ 18 + digits_value 10 fs) % 10 ^ 18)) (div-mul-add (digits_value 10 ws) (10 ^ 18) (digits_value 10 fs) low)
    ∙ ap (λ i. without_zeros (last_digits 20 (digits_value 10 ws)) ++ 46 ∷ last_digits 18 i) (mod-mul-add (digits_value 10 ws) (10 ^ 18) (digits_value 10 fs) low)
    ∙ ap (λ l. l ++ 46 ∷ last_digits 18 (digits_value 10 fs)) (whole_again ws whole some short trim)
    ∙ ap (λ l. ws ++ 46 ∷ l) (places_again fs places all)

pub read_small : (ws fs : List ℕ) → list_all is_ascii_digit ws ≡ true → length ws ≤ 20 → list_all is_ascii_digit fs ≡ true → length fs ≡ 18 → digits_value 10 ws * 10 ^ 18 + digits_value 10 fs < 10 ^ 38
read_small ws fs whole short places all =
    let low : digits_value 10 fs < 10 ^ 18 = subst (λ (i : ℕ). digits_value 10 fs < 10 ^ i) all (digits_value-lt 10 fs (all_digits fs places)) in
    let high : digits_value 10 ws < 10 ^ 20 = omega (arith, digits_value-lt 10 ws (all_digits ws whole), pow-le-pow_right {n = 10} (omega arith) short) in
    omega (arith, low, high)
