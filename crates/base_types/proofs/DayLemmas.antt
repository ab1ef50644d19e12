-- Dates as `jiff` takes and numbers them, against dates of unsigned numbers.
use Rattle.std.proofs.Common.{◌≡◌, ◌∙◌, ℕ, ◌+◌, ◌≤◌, ◌<◌, true, ◌&&◌, nat_le, pos, ◌≤ℤ◌, refl, arith, ◌⊎◌, inl, inr, Some}
use Rattle.std.proofs.lemmas.{Int.ints, Bool.{and_parts, Decides.nat_tests}}
use mir.Val.{to_z}
use mir.Syntax.{w8, w16}
use Rattle.jiff_core.specs.{declared.civil.date.Date.Date, Date.{IsYmd, epoch_day}}
use Rattle.jiff_core.specs.Calendar.{IsDate, IsCivilDate, days_in_month, days_from_civil, day_count, day_of_year, days_in_year}
use Rattle.jiff_core.proofs.CalendarLemmas.{days_from_civil-day_count, day_count-day_of_year, day_count-later_year, day_count-epoch, days_in_month_bounds}
use Rattle.base_types.specs.Calendar.{is_date, day_of, day_number}

pub date_test : (y m d : ℕ) → 1970 ≤ y → IsDate (pos y) (pos m) (pos d) → is_date y m d ≡ true
date_test y m d h date = grind (arith, nat_tests, date.0, date.1, date.2)

pub test_date : (y m d : ℕ) → is_date y m d ≡ true → (1970 ≤ y) × IsDate (pos y) (pos m) (pos d)
test_date y m d h =
    let (but_last_day, last_day) = and_parts (nat_le 1970 y && nat_le y 9999 && nat_le 1 m && nat_le m 12 && nat_le 1 d) (nat_le d (days_in_month (pos y) m)) h in
    let (but_first_day, first_day) = and_parts (nat_le 1970 y && nat_le y 9999 && nat_le 1 m && nat_le m 12) (nat_le 1 d) but_last_day in
    let (but_last_month, last_month) = and_parts (nat_le 1970 y && nat_le y 9999 && nat_le 1 m) (nat_le m 12) but_first_day in
    let (years, first_month) = and_parts (nat_le 1970 y && nat_le y 9999) (nat_le 1 m) but_last_month in
    let (first_year, last_year) = and_parts (nat_le 1970 y) (nat_le y 9999) years in
    let year_from : 1970 ≤ y = grind (arith, nat_tests) in
    let year_to : y ≤ 9999 = grind (arith, nat_tests) in
    let month_from : 1 ≤ m = grind (arith, nat_tests) in
    let month_to : m ≤ 12 = grind (arith, nat_tests) in
    let day_from : 1 ≤ d = grind (arith, nat_tests) in
    let day_to : d ≤ days_in_month (pos y) m = grind (arith, nat_tests) in
    (year_from, ((omega (arith, ints), omega (arith, ints)), (omega (arith, ints), omega (arith, ints)), (omega (arith, ints), omega (arith, ints))))

-- the numbers that are passed are these
same_year : (y : ℕ) → y < 10000 → to_z w16 y ≡ pos y
same_year y h = omega (arith, ints)

same_part : (m : ℕ) → m < 100 → to_z w8 m ≡ pos m
same_part m h = omega (arith, ints)

pub passed_date : (y m d : ℕ) → y < 10000 → m < 100 → d < 100 → IsDate (to_z w16 y) (to_z w8 m) (to_z w8 d) → IsDate (pos y) (pos m) (pos d)
passed_date y m d hy hm hd date = rw (same_year y hy, same_part m hm, same_part d hd) at date

pub ymd_day : (y m d : ℕ) (date : Date) → y < 10000 → m < 100 → d < 100 → IsYmd (to_z w16 y) (to_z w8 m) (to_z w8 d) date → epoch_day date ≡ days_from_civil (pos y) m d
ymd_day y m d date hy hm hd ymd =
    let ey : date.year ≡ pos y = ymd.0 ∙ same_year y hy in
    let em : pos date.month ≡ pos m = ymd.1 ∙ same_part m hm in
    let ed : pos date.day ≡ pos d = ymd.2 ∙ same_part d hd in
    let em2 : date.month ≡ m = cc in
    let ed2 : date.day ≡ d = cc in
    rw (ey, em2, ed2) refl

nat_cases : (y : ℕ) → (y ≤ 1970) ⊎ (1970 < y)
nat_cases y = grind arith

later_year : (y : ℕ) → 1970 ≤ y → (y ≤ 1970) ⊎ (1970 < y) → day_count (pos 1970) 1 1 ≤ day_count (pos y) 1 1
later_year y h (inl le) = let e : y ≡ 1970 = omega arith in rw e (omega arith)
later_year y h (inr lt) = let k : day_count (pos 1970) 1 1 + days_in_year (pos 1970) ≤ day_count (pos y) 1 1 = day_count-later_year (pos 1970) (pos y) (omega (arith, ints)) (omega (arith, ints)) in omega arith

-- days from 1970 on have a number that is not negative
pub from_1970 : (y m d : ℕ) → 1970 ≤ y → IsCivilDate (pos y) m d → pos 0 ≤ℤ days_from_civil (pos y) m d
from_1970 y m d h date =
    let year : day_count (pos y) m d + 1 ≡ day_count (pos y) 1 1 + day_of_year (pos y) m d = day_count-day_of_year (pos y) m d date.2.0 in
    let some : 1 ≤ d = date.2.0 in
    let least : day_count (pos 1970) 1 1 ≤ day_count (pos y) 1 1 = later_year y h (nat_cases y) in
    let first : day_count (pos 1970) 1 1 ≡ 4371953 = day_count-epoch in
    let most : 4371953 ≤ day_count (pos y) m d = omega arith in
    omega (arith, ints, days_from_civil-day_count (pos y) m d)

pub day_found : (y m d : ℕ) → 1970 ≤ y → IsDate (pos y) (pos m) (pos d) → Some (day_number y m d) ≡ day_of y m d
day_found y m d h date = rw (date_test y m d h date) refl

pub date_is : (y m d : ℕ) → IsDate (pos y) (pos m) (pos d) → IsCivilDate (pos y) m d
date_is y m d date =
    let e1 : 1 ≤ m = omega (arith, ints, date.1.0) in
    let e2 : m ≤ 12 = omega (arith, ints, date.1.1) in
    let e3 : 1 ≤ d = omega (arith, ints, date.2.0) in
    let e4 : d ≤ days_in_month (pos y) m = omega (arith, ints, date.2.1) in
    (date.0, (e1, e2), (e3, e4))

pub date_bounds : (y m d : ℕ) → IsDate (pos y) (pos m) (pos d) → (y < 10000) × (m < 100) × (d < 100)
date_bounds y m d date =
    let most : days_in_month (pos y) m ≤ 31 = (days_in_month_bounds (pos y) m).0 in
    let e0 : y < 10000 = omega (arith, ints, date.0.1) in
    let e1 : m < 100 = omega (arith, ints, date.1.1) in
    let e2 : d < 100 = omega (arith, ints, date.2.1) in
    (e0, e1, e2)
