-- Addresses between quotes.
use Rattle.std.proofs.Common.{◌≡◌, ◌∙◌, ap, sym, refl, arith, ℕ, ◌<◌, ◌≤◌, ◌+◌, ◌*◌, ◌%◌, ◌==◌, Bool, true, false, List, [], ◌∷◌, ◌++◌, Option, Some, None, if◌then◌else◌, slice_index, slice_set, map, unwrap_or, take, drop, subst, length, bit_or}
use Rattle.std.{specs.List.{list_all, range_with_len}, proofs.lemmas.{Bool.Decides.nat_tests, Nat.{le_or_l, le_or_r}}}
use Rattle.std.proofs.lemmas.List.FromFn.{get_or-map-range_with_len}
use Rattle.base_types.specs.{Address.{address_of, bytes_of, digit_of}, Maybe.{◌>>=◌}}
use Rattle.base_types.proofs.DigitLemmas.{after, read_step}
use Rattle.line_compact.specs.{Begins.IsSpelled, Pieces.stands_for_itself, declared.addresses.TheConstants.{HIGH, LOW}}
use Rattle.line_compact.proofs.BeginLemmas.{string_begins}

-- ---- the tables

-- sixteen times the value of a digit, and 256 for another byte
abbrev high_or_none : ℕ → ℕ
high_or_none c = 16 * unwrap_or (digit_of c) 16

-- the value of a digit, and 256 for another byte
abbrev low_or_none : ℕ → ℕ
low_or_none c = unwrap_or (digit_of c) 256

highs_are : HIGH ≡ map high_or_none (range_with_len 0 256)
highs_are = refl

lows_are : LOW ≡ map low_or_none (range_with_len 0 256)
lows_are = refl

pub high_at : (c : ℕ) → c < 256 → slice_index HIGH c ≡ high_or_none c
high_at c h = ap (λ (l : List ℕ). slice_index l c) highs_are ∙ get_or-map-range_with_len high_or_none 0 256 c c 0 h (omega arith)

pub low_at : (c : ℕ) → c < 256 → slice_index LOW c ≡ low_or_none c
low_at c h = ap (λ (l : List ℕ). slice_index l c) lows_are ∙ get_or-map-range_with_len low_or_none 0 256 c c 0 h (omega arith)

pub high_small : (c : ℕ) → unwrap_or (digit_of c) 16 ≤ 16
high_small c = grind (arith, nat_tests)

pub low_small : (c : ℕ) → unwrap_or (digit_of c) 256 ≤ 256
low_small c = grind (arith, nat_tests)

-- a value below that of other bytes is that of a digit
digit_below : (other c v : ℕ) → v ≡ unwrap_or (digit_of c) other → v < other → digit_of c ≡ Some v
digit_below other c v e h = by (digit_of c) e
  where
    by : (o : Option ℕ) → v ≡ unwrap_or o other → o ≡ Some v
    by None f = absurd (omega arith)
    by (Some w) f = ap Some (sym f)

-- ---- what stands between the quotes

digit_stands : (c v : ℕ) → digit_of c ≡ Some v → stands_for_itself c ≡ true
digit_stands c v e = grind (arith, nat_tests)

-- what was found, where all three were
three : {A : Type 0} {B : Type 0} (o p : Option ℕ) (r : Option A) (f : ℕ → ℕ → A → B) (x : B) → (do
  h ← o
  l ← p
  rest ← r
  Some (f h l rest)) ≡ Some x → (h : ℕ) × (l : ℕ) × (rest : A) × (o ≡ Some h) × (p ≡ Some l) × (r ≡ Some rest)
three None p r f x e = absurd cc
three (Some h) None r f x e = absurd cc
three (Some h) (Some l) None f x e = absurd cc
three (Some h) (Some l) (Some rest) f x e = (h, l, rest, refl, refl, refl)

digits_stand : (text bytes : List ℕ) → bytes_of text ≡ Some bytes → list_all stands_for_itself text ≡ true
digits_stand [] bytes e = refl
digits_stand (digit ∷ []) bytes e = absurd cc
digits_stand (high ∷ low ∷ rest) bytes e =
    let (h, l, others, eh, el, er) = three (digit_of high) (digit_of low) (bytes_of rest) (λ h l others. (16 * h + l) ∷ others) bytes e in
    rw (digit_stands high h eh, digit_stands low l el) (digits_stand rest others er)

if_forty : (b : Bool) (o : Option (List ℕ)) (bytes : List ℕ) → (if b then o else None) ≡ Some bytes → o ≡ Some bytes
if_forty true o bytes e = e
if_forty false o bytes e = absurd cc

-- a quote, the digits of an address and a quote
pub address_begins : {text inner behind rest bytes : List ℕ} (digits : List ℕ) → text ≡ 34 ∷ inner → inner ≡ digits ++ behind → behind ≡ 34 ∷ rest → address_of digits ≡ Some bytes
    → IsSpelled address_of text bytes rest
address_begins {bytes = bytes} digits e f g h = record {
  word = digits;
  begins = string_begins digits (digits_stand digits bytes (if_forty (length digits == 40) (bytes_of digits) bytes h)) e (f ∙ ap (λ t. digits ++ t) g);
  spells = h;
}

-- two digits more, where all are digits
pub two_more : (text bytes : List ℕ) (i all high low byte : ℕ) → 2 * i + 1 < length text → i < length bytes → high ≡ 16 * unwrap_or (digit_of (slice_index text (2 * i))) 16
    → low ≡ unwrap_or (digit_of (slice_index text (2 * i + 1))) 256 → byte ≡ high + low
    → (all < 256 → after (take i bytes) (bytes_of (drop (2 * i) text)) ≡ bytes_of text)
    → bit_or all byte < 256 → after (take (i + 1) (slice_set bytes i (byte % 256))) (bytes_of (drop (2 * (i + 1)) text)) ≡ bytes_of text
two_more text bytes i all high low byte within room eh el sum before small =
    let first : all < 256 = omega (arith, le_or_l all byte, small) in
    let fits : byte < 256 = omega (arith, le_or_r all byte, small) in
    let h = unwrap_or (digit_of (slice_index text (2 * i))) 16 in
    let below : h < 16 = omega (arith, eh, sum, fits) in
    let less : low < 256 = omega (arith, sum, fits) in
    let value : h * 16 + low ≡ byte % 256 = omega (arith, eh, sum, fits) in
    subst (λ v. after (take (i + 1) (slice_set bytes i v)) (bytes_of (drop (2 * (i + 1)) text)) ≡ bytes_of text) value
    (read_step text bytes i h low within room (digit_below 16 (slice_index text (2 * i)) h refl below) (digit_below 256 (slice_index text (2 * i + 1)) low el less) (before first))
