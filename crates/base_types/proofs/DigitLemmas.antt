-- Reading and printing digits by tables, one after the other.
use Rattle.std.proofs.Common.{◌≡◌, ◌∙◌, sym, ap, refl, ℕ, ◌+◌, ◌*◌, ◌<◌, ◌≤◌, List, [], ◌∷◌, ◌++◌, length, slice_index, slice_set, take, drop, Option, Some, None, arith, unwrap_or, map, nat_lt, true, ◌==◌, eq-eqb, append_assoc, append-nil, take_all, IsAscii, IsUtf8, ltb-true}
use Rattle.std.proofs.lemmas.{List.{drop_all, drop_more, take_more_set}, Bool.Decides.nat_tests}
use Rattle.std.proofs.lemmas.{List.FromFn.get_or-map-range_with_len, Bool.and_parts, Str.IsUtf8-from_ascii}
use Rattle.std.{proofs.lemmas.Str.Ascii.{IsAscii-cons, IsAscii-nil}, specs.List.{list_all, range_with_len}}
use Rattle.hex.{specs.Hex.lower_digits, proofs.HexLemmas.IsAscii-encode_with}
use Rattle.base_types.specs.{declared.digits.TheConstants.VALUES, Maybe.{◌>>=◌}}
use Rattle.base_types.specs.Address.{digit_of, bytes_of, address_of, address_text}

-- ---- the table of values

-- the value of a digit, and 255 for another byte
abbrev value_or_none : ℕ → ℕ
value_or_none c = unwrap_or (digit_of c) 255

values_are : VALUES ≡ map value_or_none (range_with_len 0 256)
values_are = refl

pub value_at : (c : ℕ) → c < 256 → slice_index VALUES c ≡ value_or_none c
value_at c h = ap (λ (l : List ℕ). slice_index l c) values_are ∙ get_or-map-range_with_len value_or_none 0 256 c c 0 h (omega arith)

-- a value below 16 is that of a digit, and no other is
pub digit_read : (c v : ℕ) → v ≡ value_or_none c → v ≤ 15 → digit_of c ≡ Some v
digit_read c v e h = by (digit_of c) e
  where
    by : (o : Option ℕ) → v ≡ unwrap_or o 255 → o ≡ Some v
    by None f = absurd (omega arith)
    by (Some w) f = ap Some (sym f)

pub digit_refused : (c v : ℕ) → v ≡ value_or_none c → 15 < v → digit_of c ≡ None
digit_refused c v e h = grind (arith, nat_tests)

-- ---- reading

-- bytes before those that the rest spells
abbrev pub after : List ℕ → Option (List ℕ) → Option (List ℕ)
after front None = None
after front (Some bytes) = Some (front ++ bytes)

pub after_nothing : (o : Option (List ℕ)) → after [] o ≡ o
after_nothing None = refl
after_nothing (Some bytes) = refl

two_digits : (text : List ℕ) (j : ℕ) → j + 1 < length text → drop j text ≡ slice_index text j ∷ slice_index text (j + 1) ∷ drop (j + 2) text
two_digits text j h =
    let next : j + 1 + 1 ≡ j + 2 = omega arith in
    drop_more text j 0 (omega arith) ∙ ap (λ l. slice_index text j ∷ l) (drop_more text (j + 1) 0 h ∙ ap (λ k. slice_index text (j + 1) ∷ drop k text) next)

one_more : (front : List ℕ) (b : ℕ) (o : Option (List ℕ)) → after front (o >>= (λ bytes. Some (b ∷ bytes))) ≡ after (front ++ (b ∷ [])) o
one_more front b None = refl
one_more front b (Some bytes) = ap Some (sym (append_assoc front (b ∷ []) bytes))

pub read_step : (text bytes : List ℕ) (i h l : ℕ) → 2 * i + 1 < length text → i < length bytes
    → digit_of (slice_index text (2 * i)) ≡ Some h → digit_of (slice_index text (2 * i + 1)) ≡ Some l
    → after (take i bytes) (bytes_of (drop (2 * i) text)) ≡ bytes_of text
    → after (take (i + 1) (slice_set bytes i (h * 16 + l))) (bytes_of (drop (2 * (i + 1)) text)) ≡ bytes_of text
read_step text bytes i h l within room high low inv =
    let two : 2 * (i + 1) ≡ 2 * i + 2 = omega arith in
    let turned : h * 16 + l ≡ 16 * h + l = omega arith in
    let rest = bytes_of (drop (2 * i + 2) text) in
    let spelt : bytes_of (drop (2 * i) text) ≡ (rest >>= (λ more. Some ((16 * h + l) ∷ more))) = ap bytes_of (two_digits text (2 * i) within) ∙ rw (high, low) refl in
    rw (two, take_more_set bytes i (h * 16 + l) room, turned) (sym (one_more (take i bytes) (16 * h + l) rest) ∙ ap (after (take i bytes)) (sym spelt) ∙ inv)

refused : (front : List ℕ) (o p : Option (List ℕ)) → o ≡ None → after front o ≡ p → p ≡ None
refused front o p e h = sym h ∙ ap (after front) e

spells_none : (high low : ℕ) (rest : List ℕ) (o : Option ℕ) → digit_of low ≡ None → (do
  h ← o
  l ← digit_of low
  bytes ← bytes_of rest
  Some ((16 * h + l) ∷ bytes)) ≡ None
spells_none high low rest None e = refl
spells_none high low rest (Some h) e = rw e refl

pub no_high : (text front : List ℕ) (i : ℕ) → 2 * i + 1 < length text → digit_of (slice_index text (2 * i)) ≡ None
    → after front (bytes_of (drop (2 * i) text)) ≡ bytes_of text → bytes_of text ≡ None
no_high text front i within high inv = refused front _ _ (ap bytes_of (two_digits text (2 * i) within) ∙ rw high refl) inv

pub no_low : (text front : List ℕ) (i : ℕ) → 2 * i + 1 < length text → digit_of (slice_index text (2 * i + 1)) ≡ None
    → after front (bytes_of (drop (2 * i) text)) ≡ bytes_of text → bytes_of text ≡ None
no_low text front i within low inv =
    refused front _ _ (ap bytes_of (two_digits text (2 * i) within) ∙ spells_none (slice_index text (2 * i)) (slice_index text (2 * i + 1)) (drop (2 * i + 2) text) (digit_of (slice_index text (2 * i))) low) inv

pub read_done : (text bytes : List ℕ) (i : ℕ) → length bytes ≤ i → length text ≤ 2 * i
    → after (take i bytes) (bytes_of (drop (2 * i) text)) ≡ bytes_of text → bytes_of text ≡ Some bytes
read_done text bytes i h k inv =
    let gone : drop (2 * i) text ≡ [] = drop_all (2 * i) text k in
    let all : take i bytes ≡ bytes = take_all i bytes h in
    sym inv ∙ ap (λ l. after (take i bytes) (bytes_of l)) gone ∙ ap Some (append-nil (take i bytes) ∙ all)

pub address_of-forty : (text : List ℕ) (o : Option (List ℕ)) → length text ≡ 40 → bytes_of text ≡ o → o ≡ address_of text
address_of-forty text o e h = let forty : (length text == 40) ≡ true = eq-eqb (length text) 40 e in rw forty (sym h)

-- ---- printing

all_ascii : (bs : List ℕ) → list_all (λ b. nat_lt b 128) bs ≡ true → IsAscii bs
all_ascii [] e = IsAscii-nil
all_ascii (b ∷ bs) e =
    let parts = and_parts _ _ e in
    IsAscii-cons b bs (ltb-true b 128 parts.0) (all_ascii bs parts.1)

pub address_text_is_utf8 : (bytes : List ℕ) → IsUtf8 (address_text bytes)
address_text_is_utf8 bytes = IsUtf8-from_ascii (address_text bytes) (IsAscii-encode_with lower_digits bytes (all_ascii lower_digits refl))
