-- The date that is counted off is the one whose number the calendar has.
use Rattle.std.proofs.Common.{◌≡◌, ◌∙◌, ℕ, zero, suc, ◌+◌, ◌-◌, ◌*◌, ◌/◌, ◌≤◌, ◌<◌, Bool, true, false, cond, nat_lt, ℤ, pos, refl, sym, arith, ◌⊎◌, inl, inr}
use Rattle.std.proofs.lemmas.{Bool.{cases_order, Decides.nat_tests}, Int.ints}
use Rattle.jiff_core.specs.{declared.civil.date.Date.Date, Date.epoch_day}
use Rattle.jiff_core.specs.Calendar.{IsDate, IsCivilDate, days_in_month, days_in_year, days_of_months, days_from_civil, day_count, day_of_year}
use Rattle.jiff_core.proofs.CalendarLemmas.{days_from_civil-day_count, day_count-day_of_year, day_count-later_year, day_count-next_year, day_count-epoch, day_count-end, days_in_month_bounds, days_in_year_bounds, days_of_months-zero, days_of_months_more, days_of_months_all, days_of_months_mono}
use Rattle.jiff_core.proofs.DateLemmas.{epoch_day_injective}
use borrow.Author.Differences.{up, down}
use Rattle.base_types.specs.Calendar.{is_date, count_off, year_of_day, month_of_day, date_of}
use Rattle.base_types.proofs.DayLemmas.{date_test, test_date, date_bounds}

-- ---- counting off

-- what counting spans off says, where `total` is the days before a span
pub record Counted (span total : ℕ → ℕ) (at days : ℕ) (found : ℕ × ℕ) : Type 0 where
  pub from : at ≤ found.0
  pub within : found.1 < span found.0
  pub sum : total at + days ≡ total found.0 + found.1

test_lt : (a b : ℕ) → nat_lt a b ≡ true → a < b
test_lt a b h = grind (arith, nat_tests)

test_ge : (a b : ℕ) → nat_lt a b ≡ false → b ≤ a
test_ge a b h = grind (arith, nat_tests)

later : (span total : ℕ → ℕ) (at days : ℕ) (found : ℕ × ℕ) → total (at + 1) ≡ total at + span at → span at ≤ days → Counted span total (at + 1) (days - span at) found → Counted span total at days found
later span total at days found next h c = record {
  from = omega (arith, c.from);
  within = c.within;
  sum = omega (arith, c.sum, next, h);
}

counted_cases : (span total : ℕ → ℕ) (at days : ℕ) (found : ℕ × ℕ) (b : Bool) → nat_lt days (span at) ≡ b → total (at + 1) ≡ total at + span at
    → (span at ≤ days → Counted span total (at + 1) (days - span at) found) → Counted span total at days (cond b (at, days) found)
counted_cases span total at days found true e next c = record { from = omega arith; within = test_lt days (span at) e; sum = refl }
counted_cases span total at days found false e next c =
    let h = test_ge days (span at) e in
    later span total at days found next h (c h)

pub counted : (span total : ℕ → ℕ) (least first : ℕ) → ((k : ℕ) → least ≤ span k) → ((k : ℕ) → first ≤ k → total (k + 1) ≡ total k + span k)
    → (most at days : ℕ) → first ≤ at → days < least * most + least → Counted span total at days (count_off span most at days)
counted span total least first low next zero at days h room = record { from = omega arith; within = omega (arith, low at); sum = refl }
counted span total least first low next (suc most) at days h room =
    counted_cases span total at days (count_off span most (at + 1) (days - span at)) (nat_lt days (span at)) refl (next at h)
    (λ some. counted span total least first low next most (at + 1) (days - span at) (omega arith) (omega (arith, low at, some, room)))

-- ---- years

next_year : (k : ℕ) → 1970 ≤ k → day_count (pos (k + 1)) 1 1 ≡ day_count (pos k) 1 1 + days_in_year (pos k)
next_year k h = day_count-next_year (pos k) (pos (k + 1)) (omega (arith, ints)) (omega (arith, ints))

year_counted : (n : ℕ) → Counted (λ y. days_in_year (pos y)) (λ y. day_count (pos y) 1 1) 1970 n (year_of_day n)
year_counted n =
    counted (λ y. days_in_year (pos y)) (λ y. day_count (pos y) 1 1) 365 1970 (λ k. (days_in_year_bounds (pos k)).1) next_year (n / 365) 1970 n (omega arith) (omega arith)

far_year : (y : ℕ) → 10000 ≤ y → (y ≡ 10000) ⊎ (10000 < y) → 7304850 ≤ day_count (pos y) 1 1
far_year y h (inl e) = rw e (omega (arith, day_count-end))
far_year y h (inr lt) = omega (arith, day_count-end, day_count-later_year (pos 10000) (pos y) (omega (arith, ints)) (omega (arith, ints)))

ten_thousand : (y : ℕ) → 10000 ≤ y → (y ≡ 10000) ⊎ (10000 < y)
ten_thousand y h = grind arith

pub year_most : (y : ℕ) → day_count (pos y) 1 1 < 7304850 → y ≤ 9999
year_most y h =
    elim (cases_order y 10000) [
      | inl e ↦ absurd (omega (arith, far_year y (omega arith) (ten_thousand y (omega arith))))
      | inr (inl lt) ↦ omega arith
      | inr (inr gt) ↦ absurd (omega (arith, far_year y (omega arith) (ten_thousand y (omega arith))))
    ]

-- ---- months

next_month : (y : ℤ) (k : ℕ) → 1 ≤ k → days_of_months y (k + 1 - 1) ≡ days_of_months y (k - 1) + days_in_month y k
next_month y k h = let e : k + 1 - 1 ≡ k = omega arith in rw e (days_of_months_more y k h)

month_counted : (y n : ℕ) → Counted (days_in_month (pos y)) (λ m. days_of_months (pos y) (m - 1)) 1 n (month_of_day y n)
month_counted y n =
    counted (days_in_month (pos y)) (λ m. days_of_months (pos y) (m - 1)) 28 1 (λ k. (days_in_month_bounds (pos y) k).1) (next_month (pos y)) (n / 28) 1 n (omega arith) (omega arith)

month_most : (y : ℤ) (m before rest : ℕ) → rest < days_in_year y → days_of_months y (m - 1) + before ≡ rest → m ≤ 12
month_most y m before rest h e =
    elim (cases_order m 13) [
      | inl same ↦ absurd (omega (arith, days_of_months_all y, days_of_months_mono y 12 (m - 1) (omega arith)))
      | inr (inl lt) ↦ omega arith
      | inr (inr gt) ↦ absurd (omega (arith, days_of_months_all y, days_of_months_mono y 12 (m - 1) (omega arith)))
    ]

-- ---- the date of a day

pub record IsDateOf (n : ℕ) (date : ℕ × ℕ × ℕ) : Type 0 where
  pub exists : is_date date.0 date.1 date.2 ≡ true
  pub civil : IsCivilDate (pos date.0) date.1 date.2
  pub number : days_from_civil (pos date.0) date.1 date.2 ≡ pos n

number_from : (z : ℤ) (n count : ℕ) → up z + 4_371_953 ≡ down z + count → count ≡ 4_371_953 + n → z ≡ pos n
number_from z n count e h = omega (arith, ints)

date_from : (n y m before rest : ℕ) → n ≤ 2932896 → 1970 ≤ y → rest < days_in_year (pos y) → day_count (pos 1970) 1 1 + n ≡ day_count (pos y) 1 1 + rest
    → 1 ≤ m → before < days_in_month (pos y) m → days_of_months (pos y) 0 + rest ≡ days_of_months (pos y) (m - 1) + before → IsDateOf n (y, m, before + 1)
date_from n y m before rest small from within sum month_from month_within month_sum =
    let zero_months : days_of_months (pos y) 0 ≡ 0 = days_of_months-zero (pos y) in
    let epoch : day_count (pos 1970) 1 1 ≡ 4371953 = day_count-epoch in
    let most : y ≤ 9999 = year_most y (omega arith) in
    let months : m ≤ 12 = month_most (pos y) m before rest within (omega arith) in
    let year : IsDate (pos y) (pos m) (pos (before + 1)) =
    ((omega (arith, ints), omega (arith, ints)), (omega (arith, ints), omega (arith, ints)), (omega (arith, ints), omega (arith, ints))) in
    let place : day_count (pos y) m (before + 1) + 1 ≡ day_count (pos y) 1 1 + day_of_year (pos y) m (before + 1) = day_count-day_of_year (pos y) m (before + 1) (omega arith) in
    record {
      exists = date_test y m (before + 1) from year;
      civil = (year.0, (month_from, months), (omega arith, omega arith));
      number = number_from (days_from_civil (pos y) m (before + 1)) n (day_count (pos y) m (before + 1)) (days_from_civil-day_count (pos y) m (before + 1)) (omega arith);
    }

pub date_of-is : (n : ℕ) → n ≤ 2932896 → IsDateOf n (date_of n)
unfolding date_of
date_of-is n small =
    let y = year_counted n in
    let m = month_counted (year_of_day n).0 (year_of_day n).1 in
    date_from n (year_of_day n).0 (month_of_day (year_of_day n).0 (year_of_day n).1).0 (month_of_day (year_of_day n).0 (year_of_day n).1).1 (year_of_day n).1
    small y.from y.within y.sum m.from m.within m.sum

-- ---- the library's date

found_date : (date : Date) (n : ℕ) (d : ℕ × ℕ × ℕ) → epoch_day date ≡ pos n → IsDateOf n d → (date.year ≡ pos d.0) × (date.month ≡ d.1) × (date.day ≡ d.2)
found_date date n d e is =
    let same : Date = record { year = pos d.0; month = d.1; day = d.2; year_in = is.civil.0; month_in = is.civil.1; day_in = is.civil.2 } in
    epoch_day_injective date same (e ∙ sym is.number)

pub date_is_found : (date : Date) (n : ℕ) → n ≤ 2932896 → epoch_day date ≡ pos n → (date.year ≡ pos (date_of n).0) × (date.month ≡ (date_of n).1) × (date.day ≡ (date_of n).2)
date_is_found date n small e = found_date date n (date_of n) e (date_of-is n small)

pub bounds_of : (n : ℕ) (date : ℕ × ℕ × ℕ) → IsDateOf n date → (date.0 < 10000) × (date.1 < 100) × (date.2 < 100)
bounds_of n date is = date_bounds date.0 date.1 date.2 (test_date date.0 date.1 date.2 is.exists).1
