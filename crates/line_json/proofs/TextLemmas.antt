-- The text of a decimal and the name of a denomination are ASCII.
use Rattle.std.proofs.Common.{IsOk, ◌&&◌, nat_le, take, length, refl, Result, Ok, Err, MatchResult, ◌≡◌, ℕ, zero, suc, ◌+◌, ◌<◌, ◌/◌, ◌%◌, ◌^◌, List, [], ◌∷◌, ◌++◌, Bool, true, false, arith, cond, ◌==◌, All, IsUtf8}
use Rattle.std.{specs.List.list_all, proofs.{lemmas.Bool.{and_parts, Decides.nat_tests}, Math.Seq.take-append_seam}}
use Rattle.std.proofs.lemmas.Str.{IsUtf8-from_ascii, Ascii.IsAscii-from_all}
use Rattle.std.proofs.lemmas.List.Elements.{All-cons, All-append, All-nil, All-tail}
use Rattle.base_types.specs.Denom.{is_denom, is_denom_character, is_letter}
use Rattle.base_decimals.specs.Texts.{last_digits, without_zeros, dec_text}

abbrev IsSmall : ℕ → Type 0
IsSmall byte = byte < 128

last_digits_all : (P : ℕ → Type 0) → ((d : ℕ) → d < 10 → P (48 + d)) → (k n : ℕ) → All P (last_digits k n)
last_digits_all P digit zero n = All-nil P
last_digits_all P digit (suc k) n = All-cons P _ _ (digit (n / 10 ^ k % 10) (omega arith)) (last_digits_all P digit k n)

chosen_all : (P : ℕ → Type 0) (b : Bool) (xs ys : List ℕ) → All P xs → All P ys → All P (cond b xs ys)
chosen_all P true xs ys h k = h
chosen_all P false xs ys h k = k

without_zeros_all : (P : ℕ → Type 0) (ds : List ℕ) → All P ds → All P (without_zeros ds)
without_zeros_all P [] h = h
without_zeros_all P (d ∷ []) h = h
without_zeros_all P (d ∷ e ∷ ds) h = chosen_all P (d == 48) _ _ (without_zeros_all P (e ∷ ds) (All-tail P d (e ∷ ds) h)) h

-- what holds for digits and the point holds for the text of a decimal
pub dec_text_all : (P : ℕ → Type 0) → ((d : ℕ) → d < 10 → P (48 + d)) → P 46 → (n : ℕ) → All P (dec_text n)
dec_text_all P digit point n =
    let whole : All P (without_zeros (last_digits 20 (n / 10 ^ 18))) = without_zeros_all P (last_digits 20 (n / 10 ^ 18)) (last_digits_all P digit 20 (n / 10 ^ 18)) in
    let places : All P (46 ∷ last_digits 18 (n % 10 ^ 18)) = All-cons P 46 (last_digits 18 (n % 10 ^ 18)) point (last_digits_all P digit 18 (n % 10 ^ 18)) in
    All-append P (without_zeros (last_digits 20 (n / 10 ^ 18))) (46 ∷ last_digits 18 (n % 10 ^ 18)) whole places

digit_small : (d : ℕ) → d < 10 → IsSmall (48 + d)
digit_small d h = omega (arith, h)

pub dec_text_is_utf8 : (n : ℕ) → IsUtf8 (dec_text n)
dec_text_is_utf8 n =
    let point : IsSmall 46 = omega arith in
    IsUtf8-from_ascii (dec_text n) (IsAscii-from_all (dec_text n) (dec_text_all IsSmall digit_small point n))

letter_small : (c : ℕ) → is_letter c ≡ true → c < 128
letter_small c h = grind (arith, nat_tests)

denom_character_small : (c : ℕ) → is_denom_character c ≡ true → c < 128
denom_character_small c h = grind (arith, nat_tests)

denom_characters_all : (P : ℕ → Type 0) → ((c : ℕ) → is_denom_character c ≡ true → P c) → (cs : List ℕ) → list_all is_denom_character cs ≡ true → All P cs
denom_characters_all P character [] h = All-nil P
denom_characters_all P character (c ∷ cs) h =
    let parts = and_parts (is_denom_character c) (list_all is_denom_character cs) h in
    All-cons P c cs (character c parts.0) (denom_characters_all P character cs parts.1)

-- what holds for letters and other characters of names holds for the name of a denomination
pub denom_all : (P : ℕ → Type 0) → ((c : ℕ) → is_letter c ≡ true → P c) → ((c : ℕ) → is_denom_character c ≡ true → P c) → (name : List ℕ) → is_denom name ≡ true → All P name
denom_all P letter character [] h = absurd cc
denom_all P letter character (first ∷ others) h =
    let parts = and_parts (is_letter first && nat_le 2 (length others) && nat_le (length others) 127) (list_all is_denom_character others) h in
    let front = and_parts (is_letter first && nat_le 2 (length others)) (nat_le (length others) 127) parts.0 in
    let begin = and_parts (is_letter first) (nat_le 2 (length others)) front.0 in
    All-cons P first others (letter first begin.0) (denom_characters_all P character others parts.1)

pub denom_is_utf8 : (name : List ℕ) → is_denom name ≡ true → IsUtf8 name
denom_is_utf8 name h = IsUtf8-from_ascii name (IsAscii-from_all name (denom_all IsSmall letter_small denom_character_small name h))

-- bytes that begin with those of a text, cut at its length
pub front_of : (text rest bytes : List ℕ) (n : ℕ) → n ≡ length text → bytes ≡ text ++ rest → take n bytes ≡ text
front_of text rest bytes n h e = rw (h, e) (take-append_seam text rest)

-- what is read as text, since it is
pub read_as_text : {X Y U : Type 0} (P : X → Type 0) (Q : Y → Type 0) (r : Result X Y) → U → MatchResult r P (λ e. ¬ U × Q e) → IsOk r
read_as_text P Q (Ok x) u h = refl
read_as_text P Q (Err e) u h = absurd (h.0 u)
