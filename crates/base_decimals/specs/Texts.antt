-- What a text says as a decimal, and the text of a decimal, as bytes. 46 is the point, and 48 the digit 0.
use Rattle.std.specs.Prelude.{ℕ, zero, suc, ◌+◌, ◌-◌, ◌*◌, ◌/◌, ◌%◌, ◌^◌, ◌==◌, ◌&&◌, Bool, nat_lt, nat_le, if◌then◌else◌, Option, Some, None, List, [], ◌∷◌, ◌++◌, length, take, drop, position}
use Rattle.std.specs.Char.{is_ascii_digit}
use Rattle.std.specs.List.{list_all}
use Rattle.std.specs.Option.{option_map}
use Rattle.std.specs.Str.Parse.{digits_value}

-- 1 digit or more, at most `most`, and nothing else
abbrev pub is_number : ℕ → List ℕ → Bool
is_number most ds = nat_lt 0 (length ds) && nat_le (length ds) most && list_all is_ascii_digit ds

-- the number that they write
abbrev pub number_of : ℕ → List ℕ → Option ℕ
number_of most ds = if is_number most ds then Some (digits_value 10 ds) else None

-- the units of a whole part, which has 1 to 20 digits
abbrev pub whole_units : List ℕ → Option ℕ
whole_units ds = option_map (λ n. n * 10 ^ 18) (number_of 20 ds)

-- the units of the places behind the point, which are 1 to 18 digits
abbrev pub place_units : List ℕ → Option ℕ
place_units ds = option_map (λ n. n * 10 ^ (18 - length ds)) (number_of 18 ds)

-- both together
abbrev pub both_units : Option ℕ → Option ℕ → Option ℕ
both_units (Some whole) (Some places) = Some (whole + places)
both_units (Some whole) None = None
both_units None places = None

abbrev pub is_point : ℕ → Bool
is_point c = c == 46

-- the units of a text whose first point, if it has one, stands at a place
abbrev pub units_at : Option ℕ → List ℕ → Option ℕ
units_at None text = whole_units text
units_at (Some point) text = both_units (whole_units (take point text)) (place_units (drop (point + 1) text))

-- what a text says: a whole part, and then perhaps a point and places
abbrev pub dec_of : List ℕ → Option ℕ
dec_of text = units_at (position is_point text) text

-- the last k digits of n
abbrev pub last_digits : ℕ → ℕ → List ℕ
last_digits zero n = []
last_digits (suc k) n = (48 + n / 10 ^ k % 10) ∷ last_digits k n

-- digits without the zeros in front, but with one digit
abbrev pub without_zeros : List ℕ → List ℕ
without_zeros [] = []
without_zeros (d ∷ []) = d ∷ []
without_zeros (d ∷ e ∷ ds) = if d == 48 then without_zeros (e ∷ ds) else d ∷ e ∷ ds

-- the text of a decimal: the whole part without zeros in front, a point and 18 digits
abbrev pub dec_text : ℕ → List ℕ
dec_text n = without_zeros (last_digits 20 (n / 10 ^ 18)) ++ 46 ∷ last_digits 18 (n % 10 ^ 18)
