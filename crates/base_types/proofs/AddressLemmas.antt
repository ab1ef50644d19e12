-- Reading by pairs of digits, against `hex`, which reads capital letters too.
use Rattle.std.proofs.Common.{◌≡◌, ◌∙◌, sym, ap, refl, ℕ, zero, suc, ◌+◌, ◌*◌, ◌/◌, ◌%◌, ◌<◌, List, [], ◌∷◌, length, slice_index, Bool, true, false, ◌&&◌, ◌==◌, is_some, cond, Option, Some, None, Result, Ok, Err, arith, eq-eqb, eqb-true}
use Rattle.std.{specs.{Result.result_ok, List.list_all}, proofs.lemmas.Bool.{and_parts, Decides.nat_tests}}
use Rattle.hex.specs.declared.error.FromHexError.{FromHexError}
use Rattle.hex.specs.Hex.{◌>>=◌ as ◌>>=ʰ◌, decode_pairs, pair_value, value_at, digit_or_error, hex_digit_value, encode_with, encode_lower, lower_digits, IsBytes}
use Rattle.hex.proofs.HexLemmas.{length-encode_with, decode_pairs-encode_with, IsDigits-lower_digits}
use Rattle.base_types.specs.{Maybe.{◌>>=◌}, Address.{digit_of, is_digit, bytes_of, address_of, address_text, IsAddress}}

-- ---- one digit

has_value : (o : Option ℕ) → is_some o ≡ true → (v : ℕ) × (o ≡ Some v)
has_value None h = cc
has_value (Some v) h = (v, refl)

same_value : (c : ℕ) → is_digit c ≡ true → hex_digit_value c ≡ digit_of c
same_value c h = grind (arith, nat_tests)

-- ---- reading, as `hex` does, where all are digits

pair_is : (high low i h l : ℕ) → hex_digit_value high ≡ Some h → hex_digit_value low ≡ Some l → pair_value high low i ≡ Ok (h * 16 + l)
pair_is high low i h l eh el =
    let a : value_at high i ≡ Ok h = ap (digit_or_error high i) eh in
    let b : value_at low (i + 1) ≡ Ok l = ap (digit_or_error low (i + 1)) el in
    rw (a, b) refl

cons_ok : (b : ℕ) → (r : Result (List ℕ) FromHexError) → (o : Option (List ℕ)) → result_ok r ≡ o → result_ok (r >>=ʰ (λ bytes. Ok (b ∷ bytes))) ≡ (o >>= (λ bytes. Some (b ∷ bytes)))
cons_ok b (Ok bytes) o e = rw (← e) refl
cons_ok b (Err f) o e = rw (← e) refl

same_pairs : (i high low h l : ℕ) (rest : List ℕ) → digit_of high ≡ Some h → digit_of low ≡ Some l → hex_digit_value high ≡ Some h → hex_digit_value low ≡ Some l
    → result_ok (decode_pairs (i + 2) rest) ≡ bytes_of rest → result_ok (decode_pairs i (high ∷ low ∷ rest)) ≡ bytes_of (high ∷ low ∷ rest)
unfolding decode_pairs
same_pairs i high low h l rest dh dl xh xl again =
    let turned : h * 16 + l ≡ 16 * h + l = omega arith in
    rw (pair_is high low i h l xh xl, dh, dl, turned) (cons_ok (16 * h + l) (decode_pairs (i + 2) rest) (bytes_of rest) again)

-- a text of such digits spells what `hex` reads
bytes_of-digits : (i : ℕ) (text : List ℕ) → list_all is_digit text ≡ true → result_ok (decode_pairs i text) ≡ bytes_of text
unfolding decode_pairs
bytes_of-digits i [] h = refl
bytes_of-digits i (c ∷ []) h = refl
bytes_of-digits i (high ∷ low ∷ rest) h =
    let (first, others) = and_parts (is_digit high) (is_digit low && list_all is_digit rest) h in
    let (second, more) = and_parts (is_digit low) (list_all is_digit rest) others in
    let (a, da) = has_value (digit_of high) first in
    let (b, db) = has_value (digit_of low) second in
    same_pairs i high low a b rest da db (same_value high first ∙ da) (same_value low second ∙ db) (bytes_of-digits (i + 2) rest more)

-- ---- printing, and reading that again

digits_at : (t : List ℕ) → list_all is_digit t ≡ true → (i : ℕ) → i < length t → is_digit (slice_index t i) ≡ true
digits_at [] h i lt = absurd (omega arith)
digits_at (c ∷ t) h zero lt = (and_parts (is_digit c) (list_all is_digit t) h).0
digits_at (c ∷ t) h (suc i) lt = digits_at t (and_parts (is_digit c) (list_all is_digit t) h).1 i (omega arith)

lower_digit : (d : ℕ) → d < 16 → is_digit (slice_index lower_digits d) ≡ true
lower_digit d h = digits_at lower_digits refl d h

digits_encoded : (bytes : List ℕ) → IsBytes bytes → list_all is_digit (encode_with lower_digits bytes) ≡ true
unfolding encode_with
digits_encoded [] h = refl
digits_encoded (b ∷ bytes) h =
    let fits : b < 256 = h 0 in
    let high = lower_digit (b / 16) (omega arith) in
    let low = lower_digit (b % 16) (omega arith) in
    rw (high, low) (digits_encoded bytes (λ k. h (suc k)))

bytes_of-encoded : (bytes : List ℕ) → IsBytes bytes → bytes_of (encode_lower bytes) ≡ Some bytes
bytes_of-encoded bytes h =
    sym (bytes_of-digits 0 (encode_lower bytes) (digits_encoded bytes h))
    ∙ ap result_ok (decode_pairs-encode_with lower_digits IsDigits-lower_digits 0 bytes h)

-- a printed address is read as the same one
pub address_of-address_text : (bytes : List ℕ) → IsAddress bytes → address_of (address_text bytes) ≡ Some bytes
address_of-address_text bytes h =
    let forty : (length (encode_lower bytes) == 40) ≡ true = eq-eqb (length (encode_lower bytes)) 40 (omega (arith, length-encode_with lower_digits bytes, h.0)) in
    rw forty (bytes_of-encoded bytes h.1)

-- ---- one text for each address

one_digit : (c d v : ℕ) → digit_of c ≡ Some v → digit_of d ≡ Some v → c ≡ d
one_digit c d v e f = grind (arith, nat_tests)

digit_bound : (c v : ℕ) → digit_of c ≡ Some v → v < 16
digit_bound c v e = grind (arith, nat_tests)

digit_again : (c v : ℕ) → digit_of c ≡ Some v → slice_index lower_digits v ≡ c
digit_again c v e =
    let bound : v < 16 = digit_bound c v e in
    let same : digit_of (slice_index lower_digits v) ≡ Some v = sym (same_value (slice_index lower_digits v) (lower_digit v bound)) ∙ IsDigits-lower_digits v bound in
    one_digit (slice_index lower_digits v) c v same e

record IsPair (high low : Option ℕ) (others : Option (List ℕ)) (bytes : List ℕ) : Type 0 where
  h : ℕ
  l : ℕ
  rest : List ℕ
  high_is : high ≡ Some h
  low_is : low ≡ Some l
  rest_is : others ≡ Some rest
  bytes_are : bytes ≡ (16 * h + l) ∷ rest

pair_from : (high low : Option ℕ) (others : Option (List ℕ)) (bytes : List ℕ) → (do
  h ← high
  l ← low
  rest ← others
  Some ((16 * h + l) ∷ rest)) ≡ Some bytes → IsPair high low others bytes
pair_from None low others bytes e = cc
pair_from (Some h) None others bytes e = cc
pair_from (Some h) (Some l) None bytes e = cc
pair_from (Some h) (Some l) (Some rest) bytes e =
    record { h = h; l = l; rest = rest; high_is = refl; low_is = refl; rest_is = refl; bytes_are = cc }

encoded_pair : (high low h l : ℕ) (rest bytes text : List ℕ) → digit_of high ≡ Some h → digit_of low ≡ Some l → bytes ≡ (16 * h + l) ∷ rest → text ≡ encode_lower rest → (high ∷ low ∷ text) ≡ encode_lower bytes
unfolding encode_with
encoded_pair high low h l rest bytes text eh el eb et =
    let bound : l < 16 = digit_bound low l el in
    let first : (16 * h + l) / 16 ≡ h = omega arith in
    let second : (16 * h + l) % 16 ≡ l = omega arith in
    rw (eb, et, first, second, digit_again high h eh, digit_again low l el) refl

pub bytes_of-one_text : (text bytes : List ℕ) → bytes_of text ≡ Some bytes → text ≡ encode_lower bytes
unfolding encode_with
bytes_of-one_text [] bytes e = let none : [] ≡ bytes = cc in rw (← none) refl
bytes_of-one_text (c ∷ []) bytes e = cc
bytes_of-one_text (high ∷ low ∷ text) bytes e =
    let p = pair_from (digit_of high) (digit_of low) (bytes_of text) bytes e in
    encoded_pair high low p.h p.l p.rest bytes text p.high_is p.low_is p.bytes_are (bytes_of-one_text text p.rest p.rest_is)

next_bytes : (b : ℕ) (rest bytes : List ℕ) → b < 256 → bytes ≡ b ∷ rest → IsBytes rest → IsBytes bytes
next_bytes b rest bytes small e h zero = rw e small
next_bytes b rest bytes small e h (suc k) = rw e (h k)

pub bytes_of-bytes : (text bytes : List ℕ) → bytes_of text ≡ Some bytes → IsBytes bytes
bytes_of-bytes [] bytes e i = let none : [] ≡ bytes = cc in rw (← none) (omega arith)
bytes_of-bytes (c ∷ []) bytes e i = cc
bytes_of-bytes (high ∷ low ∷ text) bytes e i =
    let p = pair_from (digit_of high) (digit_of low) (bytes_of text) bytes e in
    let hb : p.h < 16 = digit_bound high p.h p.high_is in
    let lb : p.l < 16 = digit_bound low p.l p.low_is in
    next_bytes (16 * p.h + p.l) p.rest bytes (omega arith) p.bytes_are (bytes_of-bytes text p.rest p.rest_is) i

taken : (b : Bool) (o : Option (List ℕ)) (bytes : List ℕ) → cond b o None ≡ Some bytes → (b ≡ true) × (o ≡ Some bytes)
taken true o bytes e = (refl, e)
taken false o bytes e = cc

-- what is read is an address, and its text is the printed one
pub address_of-one_text : (text bytes : List ℕ) → address_of text ≡ Some bytes → IsAddress bytes × (text ≡ address_text bytes)
address_of-one_text text bytes e =
    let parts = taken (length text == 40) (bytes_of text) bytes e in
    let forty : length text ≡ 40 = eqb-true (length text) 40 parts.0 in
    let same : text ≡ encode_lower bytes = bytes_of-one_text text bytes parts.1 in
    let twice : length text ≡ 2 * length bytes = ap length same ∙ length-encode_with lower_digits bytes in
    ((omega arith, bytes_of-bytes text bytes parts.1), same)
