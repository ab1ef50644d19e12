-- The letters of a spelling, of which each stands for a value of five bits (BIP 173).
use Rattle.std.specs.Prelude.{ℕ, ◌==◌, ◌<◌, Bool, nat_lt, List, codes, slice_index}
use Rattle.std.specs.List.{position_or_len}

-- the thirty-two letters, in the order of their values
abbrev pub letters : List ℕ
letters = codes "qpzry9x8gf2tvdw0s3jn54khce6mua7l"

-- the letter of a value
unfoldable pub letter_of : ℕ → ℕ
letter_of value = slice_index letters value

-- the value of a letter: its place among the letters, and 32 where it is none of them
unfoldable pub value_of : ℕ → ℕ
value_of letter = position_or_len (λ l. l == letter) letters

abbrev pub is_letter : ℕ → Bool
is_letter letter = nat_lt (value_of letter) 32

-- every element is a value of five bits
abbrev pub IsValues : List ℕ → Type 0
IsValues values = (i : ℕ) → slice_index values i < 32
