-- Digits that are read one by one.
use Rattle.std.specs.{Char.{digit_value, is_ascii_digit}, List.list_all, Str.Parse.{AllDigits, digits_value}}
use Rattle.std.proofs.lemmas.{Int.Digits.{digits_value_more, digits_value-lt}, Str.Parse.digits_value-take-le}
use Rattle.std.proofs.{Math.Nat.{pow-le-pow_right, one-le-pow}, lemmas.Grind.common_steps}
use Rattle.base_decimals.{specs.Texts.is_number, proofs.Division.mul-lt-mul_pos}
use Rattle.std.proofs.Common.{pow-add, ◌≡◌, ℕ, zero, suc, ◌+◌, ◌-◌, ◌*◌, ◌^◌, ◌<◌, ◌≤◌, List, [], ◌∷◌, length, take, get_or, true, false, Bool, ◌&&◌, nat_lt, nat_le, leb-true, refl, sym, ap, ◌∙◌, arith}

-- a digit's byte
pub digit_range : (c : ℕ) → digit_value c < 10 → (48 ≤ c) × (c ≤ 57) × (digit_value c ≡ c - 48)
digit_range c h = grind (arith, common_steps)

-- each of them is one
pub digit_at : (ds : List ℕ) (i : ℕ) → AllDigits 10 ds → i < length ds → digit_value (get_or ds i 0) < 10
digit_at [] i all within = absurd (omega arith)
digit_at (d ∷ ds) zero all within = all.0
digit_at (d ∷ ds) (suc i) all within = digit_at ds i all.1 (omega arith)

-- the number so far has room for one digit more
pub next_fits : (ds : List ℕ) (i : ℕ) → AllDigits 10 ds → i < length ds → length ds ≤ 20 → digits_value 10 (take i ds) * 10 + digit_value (get_or ds i 0) < 10 ^ 20
next_fits ds i all within short =
    let e : digits_value 10 (take (i + 1) ds) ≡ digits_value 10 (take i ds) * 10 + digit_value (get_or ds i 0) = digits_value_more 10 ds i within in
    omega (arith, e, digits_value-take-le 10 ds (i + 1) (omega arith), digits_value-lt 10 ds all, pow-le-pow_right {n = 10} (omega arith) short)

-- a byte that passes the test of a digit is worth less than 10
pub digit_passes : (c : ℕ) → is_ascii_digit c ≡ true → digit_value c < 10
digit_passes c h = grind (arith, common_steps)

pub and-true : (a b : Bool) → (a && b) ≡ true → (a ≡ true) × (b ≡ true)
and-true true b h = (refl, h)
and-true false b h = absurd cc

-- where each byte passes the test, all are digits
pub all_digits : (ds : List ℕ) → list_all is_ascii_digit ds ≡ true → AllDigits 10 ds
all_digits [] h = tt
all_digits (d ∷ ds) h =
    let both = and-true (is_ascii_digit d) (list_all is_ascii_digit ds) h in
    (digit_passes d both.0, all_digits ds both.1)

-- a number is short and of digits alone
pub number_short : (most : ℕ) (ds : List ℕ) → is_number most ds ≡ true → length ds ≤ most
number_short most ds h =
    let both = and-true (nat_lt 0 (length ds) && nat_le (length ds) most) (list_all is_ascii_digit ds) h in
    let bounds = and-true (nat_lt 0 (length ds)) (nat_le (length ds) most) both.0 in
    omega (arith, leb-true (length ds) most bounds.1)

pub number_digits : (most : ℕ) (ds : List ℕ) → is_number most ds ≡ true → AllDigits 10 ds
number_digits most ds h = all_digits ds (and-true (nat_lt 0 (length ds) && nat_le (length ds) most) (list_all is_ascii_digit ds) h).1

-- a number of at most 18 digits, moved to 18 places, stays below one
pub places_below : (n len : ℕ) → n < 10 ^ len → len ≤ 18 → n * 10 ^ (18 - len) < 10 ^ 18
places_below n len few short =
    let e : 10 ^ len * 10 ^ (18 - len) ≡ 10 ^ 18 = sym (pow-add 10 len (18 - len)) ∙ ap (λ k. 10 ^ k) (let f : len + (18 - len) ≡ 18 = omega arith in f) in
    omega (arith, e, mul-lt-mul_pos n (10 ^ len) (10 ^ (18 - len)) few (one-le-pow (18 - len) 10 (omega arith)))
