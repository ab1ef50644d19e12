-- The text of an address of twenty bytes: forty hexadecimal digits, with small letters.
use Rattle.std.specs.Prelude.{◌≡◌, ℕ, ◌+◌, ◌-◌, ◌*◌, Bool, ◌&&◌, ◌==◌, nat_le, is_some, if◌then◌else◌, Option, Some, None, List, [], ◌∷◌, length}
use Rattle.hex.specs.Hex.{encode_lower, IsBytes}
use Rattle.base_types.specs.Maybe.{◌>>=◌}
use Rattle.base_types.specs.Modules.{user_from}

-- the value of a digit: `0` to `9` are 48 to 57, and `a` to `f` are 97 to 102
abbrev pub digit_of : ℕ → Option ℕ
digit_of c =
    if nat_le 48 c && nat_le c 57 then Some (c - 48)
    else (if nat_le 97 c && nat_le c 102 then Some (c - 87) else None)

abbrev pub is_digit : ℕ → Bool
is_digit c = is_some (digit_of c)

-- the bytes that pairs of digits spell, the high four bits first
abbrev pub bytes_of : List ℕ → Option (List ℕ)
bytes_of [] = Some []
bytes_of (digit ∷ []) = None
bytes_of (high ∷ low ∷ rest) = do
  h ← digit_of high
  l ← digit_of low
  bytes ← bytes_of rest
  Some ((16 * h + l) ∷ bytes)

-- the twenty bytes that the text spells
abbrev pub address_of : List ℕ → Option (List ℕ)
address_of text = if length text == 40 then bytes_of text else None

-- the same, where they are no module's
abbrev pub user_of : List ℕ → Option (List ℕ)
user_of text = address_of text >>= user_from

-- two digits for each byte
abbrev pub address_text : List ℕ → List ℕ
address_text bytes = encode_lower bytes

-- twenty bytes
abbrev pub IsAddress : List ℕ → Type 0
IsAddress bytes = (length bytes ≡ 20) × IsBytes bytes
