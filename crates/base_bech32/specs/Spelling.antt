-- The spelling of an address of twenty bytes behind a prefix.
use Rattle.std.specs.Prelude.{ℕ, Bool, ◌&&◌, ◌||◌, nat_le, bit_xor, List, ◌∷◌, ◌++◌, length, map, replicate}
use Rattle.std.specs.List.{list_all}
use Rattle.base_bech32.specs.Alphabet.{letter_of}
use Rattle.base_bech32.specs.Digits.{digits, number_of}
use Rattle.base_bech32.specs.Residue.{expansion, residue}

-- `a` (97) to `z` (122)
abbrev pub is_small_letter : ℕ → Bool
is_small_letter c = nat_le 97 c && nat_le c 122

-- a small letter, or a digit `0` (48) to `9` (57)
abbrev pub is_plain : ℕ → Bool
is_plain c = is_small_letter c || (nat_le 48 c && nat_le c 57)

-- 1 to 20 small letters
abbrev pub is_prefix : List ℕ → Bool
is_prefix prefix =
    nat_le 1 (length prefix) && nat_le (length prefix) 20 && list_all is_small_letter prefix

-- the twenty bytes as thirty-two values of five bits, the highest first
abbrev pub values_of : List ℕ → List ℕ
values_of bytes = digits 32 32 (number_of 256 bytes)

-- the number that checks values behind a prefix
abbrev pub check_number : List ℕ → List ℕ → ℕ
check_number prefix values = bit_xor (residue (expansion prefix ++ values ++ replicate 6 0)) 1

-- the six values that check others behind a prefix
abbrev pub check_of : List ℕ → List ℕ → List ℕ
check_of prefix values = digits 32 6 (check_number prefix values)

-- the letters of values and of those that check them
abbrev pub checked_letters : List ℕ → List ℕ → List ℕ
checked_letters prefix values = map letter_of (values ++ check_of prefix values)

-- the prefix, `1` (49), and thirty-eight letters
abbrev pub spelling_of : List ℕ → List ℕ → List ℕ
spelling_of prefix bytes = prefix ++ 49 ∷ checked_letters prefix (values_of bytes)
