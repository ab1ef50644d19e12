use Rattle.std.proofs.Common.{◌≡◌, ◌*◌, ◌/◌, sym, arith}
use Rattle.base_decimals.proofs.Quotients.{mul_div_some, mul_div_none, quotient_is, quotient_large}
use Rattle.base_decimals.proofs.kernel.mul_div.Goals as goal

pub returns-then-c-high-clause-value : goal.returns-then-c-high-clause-value
returns-then-c-high-clause-value c =
    sym (mul_div_none c.args.a c.args.b c.args.c
    (quotient_large (c.args.a * c.args.b) c.args.c c.carrying_mul-low.result.1 c.carrying_mul-low.result.0 c.requires.positive (omega arith) (omega arith)))

pub returns-then-quotient-lt-LIMIT-clause-value : goal.returns-then-quotient-lt-LIMIT-clause-value
returns-then-quotient-lt-LIMIT-clause-value c =
    sym (mul_div_some c.args.a c.args.b c.args.c c.divide-quotient.result.0 c.divide-quotient.result.1 (omega arith) c.divide-quotient.ensures.rest c.if-quotient-lt-LIMIT.true)

pub returns-else-quotient-lt-LIMIT-clause-value : goal.returns-else-quotient-lt-LIMIT-clause-value
returns-else-quotient-lt-LIMIT-clause-value c =
    let e : c.args.a * c.args.b / c.args.c ≡ c.divide-quotient.result.0 = quotient_is _ _ _ c.divide-quotient.result.1 (omega arith) c.divide-quotient.ensures.rest in
    sym (mul_div_none c.args.a c.args.b c.args.c (omega arith))
