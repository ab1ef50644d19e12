use Rattle.std.proofs.Common.{◌≡◌, ◌≤◌, ◌∙◌, ℤ, pos, ◌≤ℤ◌, arith, Some, to_z, of_z, w32, ap, refl, unsigned_abs, negsuc, Fits}
use lib.Dec.{T}
use lib.Signed.{non_neg}
use lib.IntN.{nat_abs}
use Rattle.std.proofs.lemmas.Int.{ints}
use Rattle.jiff_core.specs.{Calendar.{days_from_civil, IsDate}, Date.epoch_day}
use Rattle.base_types.proofs.DayLemmas.{passed_date, ymd_day, from_1970, day_found, date_is}
use Rattle.base_types.proofs.moment.reading.day_of.Goals as goal

cast_same : (z : ℤ) → pos 0 ≤ℤ z → z ≤ℤ pos 2932896 → to_z w32 (of_z w32 z) ≡ z
cast_same z low high = omega (arith, ints)

abs_most : (z : ℤ) → pos 0 ≤ℤ z → z ≤ℤ pos 2932896 → unsigned_abs z ≤ 2932896
abs_most (pos n) low high = omega (arith, ints)
abs_most (negsuc n) low high = absurd (omega (arith, ints))

cast_goal : (z z2 : ℤ) → z2 ≡ z → pos 0 ≤ℤ z → z ≤ℤ pos 2932896 → T (non_neg z2) × Fits w32 (nat_abs z2)
cast_goal (pos n) z2 e low high = rw e (tt, omega (arith, ints))
cast_goal (negsuc n) z2 e low high = absurd (omega (arith, ints))

cast_fits : (z : ℤ) → pos 0 ≤ℤ z → z ≤ℤ pos 2932896 → T (non_neg (to_z w32 (of_z w32 z))) × Fits w32 (nat_abs (to_z w32 (of_z w32 z)))
cast_fits z low high = cast_goal z (to_z w32 (of_z w32 z)) (cast_same z low high) low high

pub overflow_cast-result : goal.overflow_cast-result
overflow_cast-result c =
    let date : IsDate (pos c.args.year) (pos c.args.month) (pos c.args.day) = passed_date c.args.year c.args.month c.args.day c.requires.year c.requires.month c.requires.day (c.in-Ok.ensures.succeeds.0 refl) in
    let e : c.to_unix_epoch_day.result ≡ days_from_civil (pos c.args.year) c.args.month c.args.day =
    c.to_unix_epoch_day.ensures.value ∙ ap epoch_day c.to_plain.ensures ∙ ymd_day c.args.year c.args.month c.args.day c.in-Ok.date c.requires.year c.requires.month c.requires.day c.in-Ok.ensures.value in
    let low : pos 0 ≤ℤ c.to_unix_epoch_day.result = rw e (from_1970 c.args.year c.args.month c.args.day (omega arith) (date_is c.args.year c.args.month c.args.day date)) in
    let high : c.to_unix_epoch_day.result ≤ℤ pos 2932896 = c.to_unix_epoch_day.ensures.bound.1 in
    let z = c.to_unix_epoch_day.result in
    cast_fits z low high

pub returns-in-Ok-clause-value : goal.returns-in-Ok-clause-value
returns-in-Ok-clause-value c =
    let date : IsDate (pos c.args.year) (pos c.args.month) (pos c.args.day) = passed_date c.args.year c.args.month c.args.day c.requires.year c.requires.month c.requires.day (c.in-Ok.ensures.succeeds.0 refl) in
    let e : c.to_unix_epoch_day.result ≡ days_from_civil (pos c.args.year) c.args.month c.args.day =
    c.to_unix_epoch_day.ensures.value ∙ ap epoch_day c.to_plain.ensures ∙ ymd_day c.args.year c.args.month c.args.day c.in-Ok.date c.requires.year c.requires.month c.requires.day c.in-Ok.ensures.value in
    let h : 1970 ≤ c.args.year = omega arith in
    let low : pos 0 ≤ℤ c.to_unix_epoch_day.result = rw e (from_1970 c.args.year c.args.month c.args.day h (date_is c.args.year c.args.month c.args.day date)) in
    let high : c.to_unix_epoch_day.result ≤ℤ pos 2932896 = c.to_unix_epoch_day.ensures.bound.1 in
    ap Some (ap unsigned_abs (cast_same c.to_unix_epoch_day.result low high) ∙ ap unsigned_abs e) ∙ day_found c.args.year c.args.month c.args.day h date

pub returns-in-Ok-clause-bound : goal.returns-in-Ok-clause-bound
returns-in-Ok-clause-bound c =
    let date : IsDate (pos c.args.year) (pos c.args.month) (pos c.args.day) = passed_date c.args.year c.args.month c.args.day c.requires.year c.requires.month c.requires.day (c.in-Ok.ensures.succeeds.0 refl) in
    let e : c.to_unix_epoch_day.result ≡ days_from_civil (pos c.args.year) c.args.month c.args.day =
    c.to_unix_epoch_day.ensures.value ∙ ap epoch_day c.to_plain.ensures ∙ ymd_day c.args.year c.args.month c.args.day c.in-Ok.date c.requires.year c.requires.month c.requires.day c.in-Ok.ensures.value in
    let h : 1970 ≤ c.args.year = omega arith in
    let low : pos 0 ≤ℤ c.to_unix_epoch_day.result = rw e (from_1970 c.args.year c.args.month c.args.day h (date_is c.args.year c.args.month c.args.day date)) in
    let high : c.to_unix_epoch_day.result ≤ℤ pos 2932896 = c.to_unix_epoch_day.ensures.bound.1 in
    rw (cast_same c.to_unix_epoch_day.result low high) (abs_most c.to_unix_epoch_day.result low high)
