use Rattle.std.specs.Int.Count.{count_leading_zeros}
use Rattle.std.proofs.Common.{pow_pos, ℕ, ◌+◌, ◌-◌, ◌*◌, ◌/◌, ◌%◌, ◌^◌, arith}
use Rattle.base_decimals.proofs.Division.{shifted, two_digits, unscaled}
use Rattle.base_decimals.proofs.kernel.divide.Goals as goal

pub overflow_shr-top : goal.overflow_shr-top
overflow_shr-top c =
    let sh = shifted c.args.high c.args.low c.args.divisor c.requires.below c.requires.room (omega arith) in
    omega (arith, sh.some)

pub overflow_add-top : goal.overflow_add-top
overflow_add-top c =
    let sh = shifted c.args.high c.args.low c.args.divisor c.requires.below c.requires.room (omega arith) in
    rw sh.upper (omega (arith, sh.below, sh.fits))

pub divide_digit-first-requires-clause-top_bit : goal.divide_digit-first-requires-clause-top_bit
divide_digit-first-requires-clause-top_bit c =
    let sh = shifted c.args.high c.args.low c.args.divisor c.requires.below c.requires.room (omega arith) in
    rw sh.divisor sh.full

pub divide_digit-first-requires-clause-below : goal.divide_digit-first-requires-clause-below
divide_digit-first-requires-clause-below c =
    let sh = shifted c.args.high c.args.low c.args.divisor c.requires.below c.requires.room (omega arith) in
    rw (sh.divisor, sh.upper) sh.below

pub divide_digit-second-requires-clause-top_bit : goal.divide_digit-second-requires-clause-top_bit
divide_digit-second-requires-clause-top_bit c =
    let sh = shifted c.args.high c.args.low c.args.divisor c.requires.below c.requires.room (omega arith) in
    rw sh.divisor sh.full

pub returns-clause-whole : goal.returns-clause-whole
returns-clause-whole c =
    let s : ℕ = count_leading_zeros 128 c.args.divisor in
    let sh = shifted c.args.high c.args.low c.args.divisor c.requires.below c.requires.room (omega arith) in
    let f : ℕ = c.divide_digit-first.result.0 in
    let g : ℕ = c.divide_digit-second.result.0 in
    let m : ℕ = c.divide_digit-second.result.1 in
    unscaled (c.args.high * 2 ^ 128 + c.args.low) (f * 2 ^ 64 + g) c.args.divisor (2 ^ s) m (pow_pos s)
    (two_digits _ (c.args.high * 2 ^ s + c.args.low / 2 ^ (128 - s)) ((c.args.low * 2 ^ s) % 2 ^ 128) (c.args.divisor * 2 ^ s) f c.divide_digit-first.result.1 g m
    sh.whole
    (rw (sh.divisor, sh.upper) at c.divide_digit-first.ensures.whole)
    (rw sh.divisor at c.divide_digit-second.ensures.whole))
