use Rattle.std.proofs.Common.{◌≡◌, ◌≤◌, ◌<◌, ◌∙◌, ℕ, ℤ, pos, arith, to_z, of_z, w32, w64, refl, Fits}
use Rattle.std.proofs.lemmas.Int.{ints}
use mir.Syntax.{w16}
use lib.Dec.{T}
use lib.Signed.{non_neg}
use lib.IntN.{nat_abs}
use Rattle.jiff_core.specs.{Date.epoch_day, declared.civil.date.Date.Date}
use Rattle.base_types.{specs.Calendar.date_of, proofs.DateLemmas.{date_of-is, date_is_found, bounds_of}}
use Rattle.base_types.proofs.moment.printing.date_of.Goals as goal

day_same : (date : Date) (n : ℕ) → n ≤ 2932896 → epoch_day date ≡ to_z w64 n → epoch_day date ≡ pos n
day_same date n h e = e ∙ omega (arith, ints)

year_same : (z : ℤ) (y : ℕ) → y < 10000 → z ≡ pos y → to_z w16 (of_z w16 z) ≡ pos y
year_same z y h e = rw e (omega (arith, ints))

year_goal : (z : ℤ) (y : ℕ) → y < 10000 → z ≡ pos y → T (non_neg z) × Fits w32 (nat_abs z)
year_goal z y h e = rw e (tt, omega (arith, ints))

triple : (z : ℤ) (m d : ℕ) (found : ℕ × ℕ × ℕ) → z ≡ pos found.0 → m ≡ found.1 → d ≡ found.2 → (nat_abs z, m, d) ≡ found
triple z m d (y2, m2, d2) ey em ed = rw (ey, em, ed) refl

pub overflow_cast-result : goal.overflow_cast-result
overflow_cast-result c =
    let day : epoch_day c.unwrap-date.result ≡ pos c.args.day = day_same c.unwrap-date.result c.args.day c.requires (rw c.unwrap-date.ensures at c.from_unix_epoch_day.ensures.value) in
    let found = date_is_found c.unwrap-date.result c.args.day c.requires day in
    let bounds = bounds_of c.args.day (date_of c.args.day) (date_of-is c.args.day c.requires) in
    year_goal _ (date_of c.args.day).0 bounds.0 (year_same c.unwrap-date.result.year (date_of c.args.day).0 bounds.0 found.0)

pub returns-clause-value : goal.returns-clause-value
returns-clause-value c =
    let day : epoch_day c.unwrap-date.result ≡ pos c.args.day = day_same c.unwrap-date.result c.args.day c.requires (rw c.unwrap-date.ensures at c.from_unix_epoch_day.ensures.value) in
    let found = date_is_found c.unwrap-date.result c.args.day c.requires day in
    let bounds = bounds_of c.args.day (date_of c.args.day) (date_of-is c.args.day c.requires) in
    triple _ c.unwrap-date.result.month c.unwrap-date.result.day (date_of c.args.day) (year_same c.unwrap-date.result.year (date_of c.args.day).0 bounds.0 found.0) found.1 found.2
