-- Days by number and by date, and seconds of a day.
use Rattle.std.specs.Prelude.{ℕ, zero, suc, ◌+◌, ◌-◌, ◌*◌, ◌/◌, Bool, ◌&&◌, nat_lt, nat_le, if◌then◌else◌, Option, Some, None, pos, unsigned_abs}
use Rattle.jiff_core.specs.Calendar.{days_in_month, days_in_year, days_from_civil}

-- the first nanosecond of the year 10000, counted from 1970-01-01T00:00:00Z
abbrev pub end_of_time : ℕ
end_of_time = 253_402_300_800_000_000_000

-- the day number of 9999-12-31
abbrev pub last_day : ℕ
last_day = 2_932_896

-- the calendar has this day, in the years 1970 to 9999
abbrev pub is_date : ℕ → ℕ → ℕ → Bool
is_date year month day =
    nat_le 1970 year && nat_le year 9999 && nat_le 1 month && nat_le month 12 && nat_le 1 day
    && nat_le day (days_in_month (pos year) month)

-- the number of a day, counted from 1970-01-01
abbrev pub day_number : ℕ → ℕ → ℕ → ℕ
day_number year month day = unsigned_abs (days_from_civil (pos year) month day)

abbrev pub day_of : ℕ → ℕ → ℕ → Option ℕ
day_of year month day = if is_date year month day then Some (day_number year month day) else None

-- the second of a day
abbrev pub second_of : ℕ → ℕ → ℕ → Option ℕ
second_of hour minute second =
    if nat_lt hour 24 && nat_lt minute 60 && nat_lt second 60 then Some (3600 * hour + 60 * minute + second) else None

-- Whole spans counted off, from the one named `at` on and at most so many: the span that the last of
-- the days falls into, and how many days stand before it there.
abbrev pub count_off : (ℕ → ℕ) → ℕ → ℕ → ℕ → ℕ × ℕ
count_off span zero at days = (at, days)
count_off span (suc most) at days =
    if nat_lt days (span at) then (at, days) else count_off span most (at + 1) (days - span at)

-- the year of a day number, and the days before it in that year; no year has less than 365
abbrev pub year_of_day : ℕ → ℕ × ℕ
year_of_day day = count_off (λ year. days_in_year (pos year)) (day / 365) 1970 day

-- the month of a day of the year, and the days before it in that month; no month has less than 28
abbrev pub month_of_day : ℕ → ℕ → ℕ × ℕ
month_of_day year day = count_off (days_in_month (pos year)) (day / 28) 1 day

abbrev pub in_month : ℕ → ℕ × ℕ → ℕ × ℕ × ℕ
in_month year (month, before) = (year, month, before + 1)

abbrev pub in_year : ℕ × ℕ → ℕ × ℕ × ℕ
in_year (year, before) = in_month year (month_of_day year before)

-- the year, the month and the day of a day number
unfoldable pub date_of : ℕ → ℕ × ℕ × ℕ
date_of day = in_year (year_of_day day)
