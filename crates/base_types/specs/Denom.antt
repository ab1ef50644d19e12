-- Names of denominations.
use Rattle.std.specs.Prelude.{ℕ, Bool, false, ◌&&◌, ◌||◌, ◌==◌, nat_le, if◌then◌else◌, Option, Some, None, List, [], ◌∷◌, length}
use Rattle.std.specs.List.{list_all}

-- `A` to `Z` are 65 to 90, and `a` to `z` are 97 to 122
abbrev pub is_letter : ℕ → Bool
is_letter c = (nat_le 65 c && nat_le c 90) || (nat_le 97 c && nat_le c 122)

-- a letter, a digit (48 to 57), or one of `/` (47), `:` (58), `.` (46), `_` (95), `-` (45)
abbrev pub is_denom_character : ℕ → Bool
is_denom_character c =
    is_letter c || (nat_le 48 c && nat_le c 57) || (c == 47) || (c == 58) || (c == 46) || (c == 95) || (c == 45)

-- a letter, and 2 to 127 more characters
abbrev pub is_denom : List ℕ → Bool
is_denom [] = false
is_denom (first ∷ others) =
    is_letter first && nat_le 2 (length others) && nat_le (length others) 127 && list_all is_denom_character others

-- the denomination that the text names
abbrev pub denom_of : List ℕ → Option (List ℕ)
denom_of text = if is_denom text then Some text else None
