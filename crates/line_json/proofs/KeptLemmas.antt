-- Texts of which no character is escaped: numbers, names of denominations and modules, and addresses.
use Rattle.std.proofs.Common.{◌≡◌, ◌≢◌, ◌∙◌, ap₂, subst, sym, refl, ℕ, zero, suc, ◌+◌, ◌/◌, ◌%◌, ◌<◌, ◌≤◌, ◌==◌, List, [], ◌∷◌, ◌++◌, Bool, true, false, cond, get_or, slice_index, decimal, arith, All, lt-ltb}
use Rattle.std.{specs.{Fmt.{digits, digits_onto, digit_glyph}, List.list_all}, proofs.lemmas.Bool.Decides.nat_tests}
use Rattle.std.proofs.lemmas.List.{Concat.flat_map-cons, Elements.{All-cons, All-get_or, All-head, All-nil, All-tail}}
use Rattle.std.proofs.lemmas.List.Sums.{AllPass-from_list_all}
use Rattle.json.{specs.Print.{escape, escape_byte}, proofs.Printed.Strings.escape_byte_plain}
use Rattle.hex.specs.Hex.{IsBytes, encode_with, lower_digits}
use Rattle.base_bech32.{specs.Spelling.{is_plain, is_prefix, spelling_of}, proofs.SpellingLemmas.spelling_is_plain}
use Rattle.base_decimals.specs.Texts.{dec_text}
use Rattle.base_types.specs.{Address.address_text, Denom.{is_denom, is_denom_character, is_letter}, Modules.module_name}
use Rattle.base_types.specs.declared.account.Module.{Module}
use Rattle.base_types.specs.declared.account.Module.TheVariants.{FeeCollector, Bonded, NotBonded, Distribution}
use Rattle.line_json.proofs.TextLemmas.{dec_text_all, denom_all}

-- a character that stands for itself
abbrev IsKept : ℕ → Type 0
IsKept c = escape_byte c ≡ c ∷ []

kept_low : (c : ℕ) → 35 ≤ c → c < 92 → IsKept c
kept_low c low high = escape_byte_plain c (λ e. omega (arith, e, low)) (λ e. omega (arith, e, high)) (omega (arith, low))

-- ---- texts

one_kept : (c : ℕ) (s : List ℕ) → IsKept c → escape s ≡ s → escape (c ∷ s) ≡ c ∷ s
one_kept c s h k = flat_map-cons escape_byte c s ∙ ap₂ (λ a b. a ++ b) h k

text_kept : (s : List ℕ) → All IsKept s → escape s ≡ s
text_kept [] h = refl
text_kept (c ∷ s) h = one_kept c s (All-head IsKept c s h) (text_kept s (All-tail IsKept c s h))

either_kept : (b : Bool) (s t : List ℕ) → escape s ≡ s → escape t ≡ t → escape (cond b s t) ≡ cond b s t
either_kept true s t h k = h
either_kept false s t h k = k

-- ---- numbers

digit_kept : (d : ℕ) → d < 10 → IsKept (48 + d)
digit_kept d h = kept_low (48 + d) (omega arith) (omega (arith, h))

glyph_kept : (d : ℕ) → d < 10 → IsKept (digit_glyph false d)
glyph_kept d h = subst (λ b. IsKept (cond b (48 + d) (87 + d))) (sym (lt-ltb d 10 h)) (digit_kept d h)

onto_kept : (k n : ℕ) (acc : List ℕ) → escape acc ≡ acc → escape (digits_onto k 10 false n acc) ≡ digits_onto k 10 false n acc
onto_kept zero n acc h = h
onto_kept (suc k) n acc h =
    let d = digit_glyph false (n % 10) in
    let more : escape (d ∷ acc) ≡ d ∷ acc = one_kept d acc (glyph_kept (n % 10) (omega arith)) h in
    either_kept (n / 10 == 0) (d ∷ acc) (digits_onto k 10 false (n / 10) (d ∷ acc)) more (onto_kept k (n / 10) (d ∷ acc) more)

pub decimal_kept : (n : ℕ) → escape (decimal n) ≡ decimal n
unfolding digits
decimal_kept n = onto_kept 64 n [] refl

pub dec_text_kept : (n : ℕ) → escape (dec_text n) ≡ dec_text n
dec_text_kept n = text_kept (dec_text n) (dec_text_all IsKept digit_kept (kept_low 46 (omega arith) (omega arith)) n)

-- ---- names

character_quotes : (c : ℕ) → is_denom_character c ≡ true → c ≢ 34
character_quotes c h e = grind (arith, nat_tests)

character_slashes : (c : ℕ) → is_denom_character c ≡ true → c ≢ 92
character_slashes c h e = grind (arith, nat_tests)

character_low : (c : ℕ) → is_denom_character c ≡ true → 32 ≤ c
character_low c h = grind (arith, nat_tests)

character_kept : (c : ℕ) → is_denom_character c ≡ true → IsKept c
character_kept c h = escape_byte_plain c (character_quotes c h) (character_slashes c h) (character_low c h)

letter_is_character : (c : ℕ) → is_letter c ≡ true → is_denom_character c ≡ true
letter_is_character c h = grind (arith, nat_tests)

letter_kept : (c : ℕ) → is_letter c ≡ true → IsKept c
letter_kept c h = character_kept c (letter_is_character c h)

pub denom_kept : (name : List ℕ) → is_denom name ≡ true → escape name ≡ name
denom_kept name h = text_kept name (denom_all IsKept letter_kept character_kept name h)

characters_kept : (s : List ℕ) → list_all is_denom_character s ≡ true → escape s ≡ s
characters_kept s h = text_kept s (λ k d within. character_kept _ (AllPass-from_list_all is_denom_character s h k d within))

pub module_kept : (m : Module) → escape (module_name m) ≡ module_name m
module_kept FeeCollector = characters_kept (module_name FeeCollector) refl
module_kept Bonded = characters_kept (module_name Bonded) refl
module_kept NotBonded = characters_kept (module_name NotBonded) refl
module_kept Distribution = characters_kept (module_name Distribution) refl

-- ---- addresses

plain_is_character : (c : ℕ) → is_plain c ≡ true → is_denom_character c ≡ true
plain_is_character c h = grind (arith, nat_tests)

plain_kept : (s : List ℕ) → list_all is_plain s ≡ true → All IsKept s
plain_kept s h k d within = character_kept (get_or s k d) (plain_is_character (get_or s k d) (AllPass-from_list_all is_plain s h k d within))

pub spelling_kept : (prefix bytes : List ℕ) → is_prefix prefix ≡ true → escape (spelling_of prefix bytes) ≡ spelling_of prefix bytes
spelling_kept prefix bytes h = text_kept (spelling_of prefix bytes) (plain_kept (spelling_of prefix bytes) (spelling_is_plain prefix bytes h))

hex_kept : (d : ℕ) → d < 16 → IsKept (slice_index lower_digits d)
hex_kept d h = All-get_or IsKept lower_digits d 0 h (plain_kept lower_digits refl)

hex_digits_kept : (bytes : List ℕ) → IsBytes bytes → All IsKept (encode_with lower_digits bytes)
unfolding encode_with
hex_digits_kept [] h = All-nil IsKept
hex_digits_kept (b ∷ rest) h =
    let byte : b < 256 = h 0 in
    All-cons IsKept (slice_index lower_digits (b / 16)) (slice_index lower_digits (b % 16) ∷ encode_with lower_digits rest) (hex_kept (b / 16) (omega (arith, byte)))
    (All-cons IsKept (slice_index lower_digits (b % 16)) (encode_with lower_digits rest) (hex_kept (b % 16) (omega arith)) (hex_digits_kept rest (λ i. h (suc i))))

pub address_kept : (bytes : List ℕ) → IsBytes bytes → escape (address_text bytes) ≡ address_text bytes
address_kept bytes h = text_kept (address_text bytes) (hex_digits_kept bytes h)
