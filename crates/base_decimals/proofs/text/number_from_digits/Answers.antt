use Rattle.std.specs.{Char.digit_value, Str.Parse.digits_value}
use Rattle.std.proofs.lemmas.{Int.Digits.{digits_value_more, digits_value-lt}, Str.Parse.digits_value-take-le}
use Rattle.std.proofs.Common.{◌≡◌, ℕ, ◌+◌, ◌*◌, get_or, take, arith}
use Rattle.base_decimals.proofs.Digits.{digit_range, digit_at, next_fits}
use Rattle.base_decimals.proofs.text.number_from_digits.Goals as goal

pub overflow_mul-number : goal.overflow_mul-number
overflow_mul-number c =
    omega (arith, next_fits c.args.digits.now c.loop-digit.digit-index c.requires.digits (omega arith) c.requires.short, c.loop-digit.invariant)

pub overflow_sub-digit : goal.overflow_sub-digit
overflow_sub-digit c =
    (digit_range _ (digit_at c.args.digits.now c.loop-digit.digit-index c.requires.digits (omega arith))).0

pub overflow_add-number : goal.overflow_add-number
overflow_add-number c =
    let ds = c.args.digits.now in
    let i : ℕ = c.loop-digit.digit-index in
    let digit = digit_range (get_or ds i 0) (digit_at ds i c.requires.digits (omega arith)) in
    omega (arith, next_fits ds i c.requires.digits (omega arith) c.requires.short, c.loop-digit.invariant, c.from.ensures, digit.2)

pub loop-digit-preserved : goal.loop-digit-preserved
loop-digit-preserved c =
    let ds = c.args.digits.now in
    let i : ℕ = c.loop-digit.digit-index in
    let digit = digit_range (get_or ds i 0) (digit_at ds i c.requires.digits (omega arith)) in
    let e : digits_value 10 (take (i + 1) ds) ≡ digits_value 10 (take i ds) * 10 + digit_value (get_or ds i 0) = digits_value_more 10 ds i (omega arith) in
    omega (arith, e, c.loop-digit.invariant, c.from.ensures, digit.2)

pub returns-clause-bound : goal.returns-clause-bound
returns-clause-bound c =
    omega (arith, c.loop-digit.invariant, digits_value-take-le 10 c.args.digits.now c.loop-digit.digit-index (omega arith), digits_value-lt 10 c.args.digits.now c.requires.digits)
