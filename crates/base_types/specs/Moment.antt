-- The text of a moment: YYYY-MM-DDTHH:MM:SS, then nothing or a point and 1 to 9 digits, then Z.
use Rattle.std.specs.Prelude.{ℕ, zero, suc, ◌+◌, ◌-◌, ◌*◌, ◌/◌, ◌%◌, ◌^◌, Bool, ◌&&◌, ◌==◌, nat_lt, if◌then◌else◌, Option, Some, None, option_map, List, [], ◌∷◌, ◌++◌, length, drop, slice_index}
use Rattle.std.specs.Char.{is_ascii_digit}
use Rattle.base_types.specs.Maybe.{◌>>=◌}
use Rattle.base_types.specs.Calendar.{end_of_time, day_of, second_of, date_of}

-- a moment: nanoseconds since 1970-01-01T00:00:00Z, before the year 10000
abbrev pub moment_from : ℕ → Option ℕ
moment_from nanos = if nat_lt nanos end_of_time then Some nanos else None

-- ---- reading

-- the number that two digits spell; `0` is 48
abbrev pub pair : ℕ → ℕ → Option ℕ
pair a b = if is_ascii_digit a && is_ascii_digit b then Some (10 * (a - 48) + (b - 48)) else None

abbrev pub pair_at : List ℕ → ℕ → Option ℕ
pair_at text i = pair (slice_index text i) (slice_index text (i + 1))

-- the digits that may come before the Z (90): each is worth a tenth of the one before
abbrev pub digits_of : ℕ → List ℕ → Option ℕ
digits_of places [] = None
digits_of places (b ∷ rest) =
    if b == 90 then (if length rest == 0 then Some 0 else None)
    else (if nat_lt 0 places && is_ascii_digit b
    then option_map (λ n. (b - 48) * 10 ^ (places - 1) + n) (digits_of (places - 1) rest) else None)

-- the nanoseconds of a Z, or of a point (46), a digit, at most eight more, and a Z
abbrev pub fraction_of : List ℕ → Option ℕ
fraction_of [] = None
fraction_of (b ∷ rest) =
    if b == 90 then (if length rest == 0 then Some 0 else None)
    else (if b == 46 && is_ascii_digit (slice_index rest 0) then digits_of 9 rest else None)

-- the number of the day that the text begins with
unfoldable pub day_at : List ℕ → Option ℕ
day_at text = do
  century ← pair_at text 0
  year ← pair_at text 2
  month ← pair_at text 5
  day ← pair_at text 8
  day_of (100 * century + year) month day

-- the second of the day that stands behind it
unfoldable pub second_at : List ℕ → Option ℕ
second_at text = do
  hour ← pair_at text 11
  minute ← pair_at text 14
  second ← pair_at text 17
  second_of hour minute second

-- `-` (45), `T` (84) and `:` (58) stand at their places
abbrev pub has_marks : List ℕ → Bool
has_marks text =
    (slice_index text 4 == 45) && (slice_index text 7 == 45) && (slice_index text 10 == 84)
    && (slice_index text 13 == 58) && (slice_index text 16 == 58)

-- the moment that the text spells
unfoldable pub moment_of : List ℕ → Option ℕ
moment_of text = do
  part ← fraction_of (drop 19 text)
  day ← day_at text
  second ← second_at text
  if has_marks text then Some ((86_400 * day + second) * 1_000_000_000 + part) else None

-- ---- printing

abbrev pub two : ℕ → List ℕ
two n = (48 + n / 10) ∷ (48 + n % 10) ∷ []

-- the digits of n parts of 10 ^ places, without zeros at the end
abbrev pub digits : ℕ → ℕ → List ℕ
digits zero n = []
digits (suc places) n = if n == 0 then [] else (48 + n / 10 ^ places) ∷ digits places (n % 10 ^ places)

-- a point and the digits of so many nanoseconds, or nothing
abbrev pub fraction_text : ℕ → List ℕ
fraction_text n = if n == 0 then [] else 46 ∷ digits 9 n

abbrev pub date_text : ℕ × ℕ × ℕ → List ℕ
date_text (year, month, day) = two (year / 100) ++ two (year % 100) ++ 45 ∷ two month ++ 45 ∷ two day

-- the text of a second of the day
abbrev pub clock_text : ℕ → List ℕ
clock_text second = two (second / 3600) ++ 58 ∷ two (second / 60 % 60) ++ 58 ∷ two (second % 60)

-- the printed text of a moment
unfoldable pub moment_text : ℕ → List ℕ
moment_text nanos =
    date_text (date_of (nanos / 86_400_000_000_000)) ++ 84 ∷ clock_text (nanos / 1_000_000_000 % 86_400)
    ++ fraction_text (nanos % 1_000_000_000) ++ 90 ∷ []
