-- What the definitions of rounding and of texts mean.
use Rattle.std.specs.Prelude.{◌≡◌, ◌↔◌, ◌⊎◌, ℕ, ◌+◌, ◌-◌, ◌*◌, ◌%◌, ◌^◌, ◌<◌, ◌≤◌, ◌++◌, ◌∷◌, List, length, true, Some}
use Rattle.std.specs.Char.{is_ascii_digit}
use Rattle.std.specs.List.{list_all}
use Rattle.std.specs.Str.Parse.{digits_value}
use Rattle.base_decimals.specs.Fractions.{fraction_of, IsAtMost}
use Rattle.base_decimals.specs.Rounding.{cut, up, even}
use Rattle.base_decimals.specs.Texts.{dec_of, dec_text, without_zeros}

-- the greatest whole number that is not above a / c
abbrev pub CutIsFloor : Type 0
CutIsFloor = (a c : ℕ) → 0 < c → (cut a c * c ≤ a) × ((n : ℕ) → n * c ≤ a → n ≤ cut a c)

-- the least whole number that is not below a / c
abbrev pub UpIsCeiling : Type 0
UpIsCeiling = (a c : ℕ) → 0 < c → (a ≤ up a c * c) × ((n : ℕ) → a ≤ n * c → up a c ≤ n)

-- how far two numbers are apart
abbrev pub distance : ℕ → ℕ → ℕ
distance a b = (a - b) + (b - a)

-- no whole number is nearer to a / c, and at a tie it is even
abbrev pub EvenIsNearest : Type 0
EvenIsNearest =
    (a c : ℕ) → 0 < c
    → ((n : ℕ) → distance a (even a c * c) ≤ distance a (n * c))
    × (2 * distance a (even a c * c) ≡ c → even a c % 2 ≡ 0)

-- a whole part of 1 to 20 digits without zeros in front, a point and 18 digits
pub record IsCanonical (text : List ℕ) : Type 0 where
  pub whole : List ℕ
  pub places : List ℕ
  pub is : text ≡ whole ++ 46 ∷ places
  pub whole_digits : list_all is_ascii_digit whole ≡ true
  pub some : 0 < length whole
  pub short : length whole ≤ 20
  pub no_zeros : without_zeros whole ≡ whole
  pub place_digits : list_all is_ascii_digit places ≡ true
  pub all_places : length places ≡ 18

-- each decimal is written as a canonical text, and that text says it
abbrev pub WrittenIsRead : Type 0
WrittenIsRead = (n : ℕ) → n < 10 ^ 38 → IsCanonical (dec_text n) × (dec_of (dec_text n) ≡ Some n)

-- and a canonical text that was read is written again
abbrev pub ReadIsWritten : Type 0
ReadIsWritten = (text : List ℕ) → IsCanonical text → (n : ℕ) × (n < 10 ^ 38) × (dec_of text ≡ Some n) × (dec_text n ≡ text)

-- 1 digit or more, at most `most`
pub record IsNumber (most : ℕ) (ds : List ℕ) : Type 0 where
  pub digits : list_all is_ascii_digit ds ≡ true
  pub some : 0 < length ds
  pub short : length ds ≤ most

-- a whole part of 1 to 20 digits alone
abbrev pub SaysWhole : List ℕ → ℕ → Type 0
SaysWhole text n = IsNumber 20 text × (n ≡ digits_value 10 text * 10 ^ 18)

-- a whole part of 1 to 20 digits, a point and 1 to 18 digits, of which each next one counts a tenth
pub record SaysPlaces (text : List ℕ) (n : ℕ) : Type 0 where
  pub whole : List ℕ
  pub places : List ℕ
  pub is : text ≡ whole ++ 46 ∷ places
  pub whole_number : IsNumber 20 whole
  pub place_number : IsNumber 18 places
  pub value : n ≡ digits_value 10 whole * 10 ^ 18 + digits_value 10 places * 10 ^ (18 - length places)

-- these two forms are read, and nothing else is
abbrev pub FormIsExact : Type 0
FormIsExact = (text : List ℕ) (n : ℕ) → (dec_of text ≡ Some n) ↔ (SaysWhole text n ⊎ SaysPlaces text n)

-- decimals are ordered as their fractions
abbrev pub FractionsKeepOrder : Type 0
FractionsKeepOrder = (a b : ℕ) → IsAtMost (fraction_of a) (fraction_of b) ↔ (a ≤ b)
