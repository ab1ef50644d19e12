-- Numbers and addresses are read as they are spelled.
use Rattle.std.proofs.Common.{◌≡◌, ◌∙◌, ℕ, ◌+◌, ◌*◌, ◌/◌, ◌%◌, ◌^◌, ◌<◌, ◌≤◌, Bool, true, false, cond, ltb, List, [], ◌∷◌, ◌++◌, length, take, drop, Ok, Err, refl, sym, ap, ap₂, subst, arith, inl, inr, w32, w64, ltb-false, le-ltb, take_at, drop_at, take-append-drop, length-append, length-take, get_or-drop, get_or-take}
use Rattle.std.{specs.Int.{Width, w128, byte_len, from_be_bytes, to_be_bytes}, proofs.lemmas.Bool.cases_lt}
use Rattle.std.proofs.{Math.Nat.div-div-eq-div-mul, lemmas.List.get_or_past}
use Rattle.std.proofs.lemmas.Nat.{be_bytes_4, be_bytes_8, from_be_bytes-to_be_bytes_4, from_be_bytes-to_be_bytes_8}
use Rattle.store_rows.specs.declared.fault.RowFault.TheVariants.{BadRow}
use Rattle.store_rows.specs.{Fields.{eight_bytes, four_bytes, sixteen_bytes}, Reading.{number_at, bytes_at}}
use Rattle.store_rows.proofs.ReadsLemmas.{IsBytes, Reads}

pub IsBytes-drop : (n : ℕ) (bytes : List ℕ) → IsBytes bytes → IsBytes (drop n bytes)
IsBytes-drop n bytes h i = rw get_or-drop (h (n + i))

pub IsBytes-take : (n : ℕ) (bytes : List ℕ) → IsBytes bytes → IsBytes (take n bytes)
IsBytes-take n bytes h i =
    elim (cases_lt i n) [
      | inl lt ↦ rw (get_or-take n bytes i 0 lt) (h i)
      | inr le ↦ rw (get_or_past (take n bytes) i 0 (omega (arith, length-take n bytes))) (omega arith)
    ]

-- a test that did not fail
pub guard_ok : {A : Type 0} (b : Bool) (x y : A) → cond b (Err BadRow) (Ok x) ≡ Ok y → (b ≡ false) × (x ≡ y)
guard_ok true x y e = absurd cc
guard_ok false x y e = (refl, cc)

-- so many bytes
pub bytes_read : (n : ℕ) → Reads (bytes_at n) (λ bs. bs) (λ bs. (length bs ≡ n) × IsBytes bs)
bytes_read n = record {
  takes = λ bytes x rest fits e.
      let g = guard_ok (ltb (length bytes) n) (take n bytes, drop n bytes) (x, rest) e in
      let long : n ≤ length bytes = ltb-false _ _ g.0 in
      let len : length (take n bytes) ≡ n = omega (arith, length-take n bytes) in
      subst (λ (y : List ℕ × List ℕ). (bytes ≡ y.0 ++ y.1) × IsBytes y.1 × ((length y.0 ≡ n) × IsBytes y.0)) g.1 (sym (take-append-drop n bytes), IsBytes-drop n bytes fits, (len, IsBytes-take n bytes fits));
  again = λ x rest it.
      let long : ltb (length (x ++ rest)) n ≡ false = le-ltb _ _ (omega (arith, it.0, length-append x rest)) in
      rw (long, take_at x rest n it.0, drop_at x rest n it.0) refl;
}

-- ---- numbers of a width

pub record IsWide (w : Width) (limit : ℕ) : Type 0 where
  pub len : (n : ℕ) → length (to_be_bytes w n) ≡ byte_len w
  pub back : (bytes : List ℕ) → length bytes ≡ byte_len w → IsBytes bytes → to_be_bytes w (from_be_bytes w bytes) ≡ bytes
  pub again : (n : ℕ) → n < limit → from_be_bytes w (to_be_bytes w n) ≡ n
  pub below : (bytes : List ℕ) → IsBytes bytes → from_be_bytes w bytes < limit

pub wide32 : IsWide w32 (2 ^ 32)
wide32 = record {
  len = λ n. refl;
  back = λ bytes len fits. be_bytes_4 bytes _ len fits refl;
  again = λ n lt. from_be_bytes-to_be_bytes_4 n lt;
  below = λ bytes fits. omega (arith, fits 0, fits 1, fits 2, fits 3);
}

pub wide64 : IsWide w64 (2 ^ 64)
wide64 = record {
  len = λ n. refl;
  back = λ bytes len fits. be_bytes_8 bytes _ len fits refl;
  again = λ n lt. from_be_bytes-to_be_bytes_8 n lt;
  below = λ bytes fits. omega (arith, fits 0, fits 1, fits 2, fits 3, fits 4, fits 5, fits 6, fits 7);
}

pub number_reads : (w : Width) (limit : ℕ) → IsWide w limit → Reads (number_at w) (to_be_bytes w) (λ n. n < limit)
number_reads w limit wide = record {
  takes = λ bytes n rest fits e.
      let g = guard_ok (ltb (length bytes) (byte_len w)) (from_be_bytes w (take (byte_len w) bytes), drop (byte_len w) bytes) (n, rest) e in
      let long : byte_len w ≤ length bytes = ltb-false _ _ g.0 in
      let len : length (take (byte_len w) bytes) ≡ byte_len w = omega (arith, length-take (byte_len w) bytes) in
      let front = wide.back (take (byte_len w) bytes) len (IsBytes-take (byte_len w) bytes fits) in
      subst (λ (y : ℕ × List ℕ). (bytes ≡ to_be_bytes w y.0 ++ y.1) × IsBytes y.1 × (y.0 < limit)) g.1
      (sym (take-append-drop (byte_len w) bytes) ∙ ap (λ (f : List ℕ). f ++ drop (byte_len w) bytes) (sym front), IsBytes-drop (byte_len w) bytes fits, wide.below (take (byte_len w) bytes) (IsBytes-take (byte_len w) bytes fits));
  again = λ n rest lt.
      let len = wide.len n in
      let long : ltb (length (to_be_bytes w n ++ rest)) (byte_len w) ≡ false = le-ltb _ _ (omega (arith, length-append (to_be_bytes w n) rest)) in
      rw (long, take_at (to_be_bytes w n) rest (byte_len w) len, drop_at (to_be_bytes w n) rest (byte_len w) len, wide.again n lt) refl;
}

pub four_read : Reads (number_at w32) four_bytes (λ n. n < 2 ^ 32)
unfolding four_bytes
four_read = number_reads w32 (2 ^ 32) wide32

pub eight_read : Reads (number_at w64) eight_bytes (λ n. n < 2 ^ 64)
unfolding eight_bytes
eight_read = number_reads w64 (2 ^ 64) wide64

-- ---- sixteen bytes are eight high and eight low ones

high_byte : (n p : ℕ) → n / (18446744073709551616 * p) % 256 ≡ n / 18446744073709551616 / p % 256
high_byte n p = ap (λ (m : ℕ). m % 256) (sym (div-div-eq-div-mul n 18446744073709551616 p))

pub halves : (n : ℕ) → to_be_bytes w128 n ≡ to_be_bytes w64 (n / 18446744073709551616) ++ to_be_bytes w64 (n % 18446744073709551616)
halves n =
    let low_7 : n / 72057594037927936 % 256 ≡ n % 18446744073709551616 / 72057594037927936 % 256 = omega arith in
    let low_6 : n / 281474976710656 % 256 ≡ n % 18446744073709551616 / 281474976710656 % 256 = omega arith in
    let low_5 : n / 1099511627776 % 256 ≡ n % 18446744073709551616 / 1099511627776 % 256 = omega arith in
    let low_4 : n / 4294967296 % 256 ≡ n % 18446744073709551616 / 4294967296 % 256 = omega arith in
    let low_3 : n / 16777216 % 256 ≡ n % 18446744073709551616 / 16777216 % 256 = omega arith in
    let low_2 : n / 65536 % 256 ≡ n % 18446744073709551616 / 65536 % 256 = omega arith in
    let low_1 : n / 256 % 256 ≡ n % 18446744073709551616 / 256 % 256 = omega arith in
    let low_0 : n % 256 ≡ n % 18446744073709551616 % 256 = omega arith in
    let at_7 = high_byte n 72057594037927936 in
    let at_6 = high_byte n 281474976710656 in
    let at_5 = high_byte n 1099511627776 in
    let at_4 = high_byte n 4294967296 in
    let at_3 = high_byte n 16777216 in
    let at_2 = high_byte n 65536 in
    let at_1 = high_byte n 256 in
    λ i. at_7 i ∷ at_6 i ∷ at_5 i ∷ at_4 i ∷ at_3 i ∷ at_2 i ∷ at_1 i ∷ (n / 18446744073709551616 % 256) ∷ low_7 i ∷ low_6 i ∷ low_5 i ∷ low_4 i ∷ low_3 i ∷ low_2 i ∷ low_1 i ∷ low_0 i ∷ []

-- a number of a high and a low part
apart : (x h l : ℕ) → x ≡ h * 18446744073709551616 + l → l < 18446744073709551616 → (x / 18446744073709551616 ≡ h) × (x % 18446744073709551616 ≡ l)
apart x h l e small = (omega arith, omega arith)

joined : (a b h l n : ℕ) → a ≡ h → b ≡ l → h * 18446744073709551616 + l ≡ n → a * 18446744073709551616 + b ≡ n
joined a b h l n e f g = omega arith

-- the number of sixteen bytes from its halves
pub from_halves : (hi lo : List ℕ) → length hi ≡ 8 → length lo ≡ 8 → from_be_bytes w128 (hi ++ lo) ≡ from_be_bytes w64 hi * 18446744073709551616 + from_be_bytes w64 lo
from_halves (a ∷ b ∷ c ∷ d ∷ e ∷ f ∷ g ∷ h ∷ []) (i ∷ j ∷ k ∷ l ∷ m ∷ n ∷ o ∷ p ∷ []) x y = omega arith
from_halves _ _ x y = absurd (omega (arith, x, y))

pub wide128 : IsWide w128 (2 ^ 128)
wide128 = record {
  len = λ n. refl;
  back = λ bytes len fits.
      let hi = take 8 bytes in
      let lo = drop 8 bytes in
      let hi_len : length hi ≡ 8 = omega (arith, len, length-take 8 bytes) in
      let whole : hi ++ lo ≡ bytes = take-append-drop 8 bytes in
      let lo_len : length lo ≡ 8 = omega (arith, len, hi_len, length-append hi lo, ap length whole) in
      let lo_below = wide64.below lo (IsBytes-drop 8 bytes fits) in
      let number : from_be_bytes w128 bytes ≡ from_be_bytes w64 hi * 18446744073709551616 + from_be_bytes w64 lo = ap (from_be_bytes w128) (sym whole) ∙ from_halves hi lo hi_len lo_len in
      let (high, low) = apart (from_be_bytes w128 bytes) (from_be_bytes w64 hi) (from_be_bytes w64 lo) number lo_below in
      halves (from_be_bytes w128 bytes)
      ∙ ap₂ (λ (a b : ℕ). to_be_bytes w64 a ++ to_be_bytes w64 b) high low
      ∙ ap₂ (λ (a b : List ℕ). a ++ b) (wide64.back hi hi_len (IsBytes-take 8 bytes fits)) (wide64.back lo lo_len (IsBytes-drop 8 bytes fits))
      ∙ whole;
  again = λ n lt.
      let high : n / 18446744073709551616 < 2 ^ 64 = omega (arith, lt) in
      let low : n % 18446744073709551616 < 2 ^ 64 = omega arith in
      ap (from_be_bytes w128) (halves n) ∙ from_halves (to_be_bytes w64 (n / 18446744073709551616)) (to_be_bytes w64 (n % 18446744073709551616)) refl refl
      ∙ joined (from_be_bytes w64 (to_be_bytes w64 (n / 18446744073709551616))) (from_be_bytes w64 (to_be_bytes w64 (n % 18446744073709551616))) (n / 18446744073709551616) (n % 18446744073709551616) n
      (wide64.again (n / 18446744073709551616) high) (wide64.again (n % 18446744073709551616) low) (omega arith);
  below = λ bytes fits. omega (arith, fits 0, fits 1, fits 2, fits 3, fits 4, fits 5, fits 6, fits 7, fits 8, fits 9, fits 10, fits 11, fits 12, fits 13, fits 14, fits 15);
}

pub sixteen_read : Reads (number_at w128) sixteen_bytes (λ n. n < 2 ^ 128)
unfolding sixteen_bytes
sixteen_read = number_reads w128 (2 ^ 128) wide128
