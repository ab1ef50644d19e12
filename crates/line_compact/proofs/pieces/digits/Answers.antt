use Rattle.std.proofs.Common.{◌≡◌, ◌*◌, ◌+◌, ◌++◌, arith, ap, subst, sym, decimal}
use Rattle.line_compact.proofs.PieceLemmas.{first_digit, next_digit}
use Rattle.line_compact.proofs.pieces.digits.Goals as goal

pub returns-then-number-eq0 : goal.returns-then-number-eq0
returns-then-number-eq0 c =
    let d = c.in_ok-first.first.now in
    let begins = first_digit d c.args.text.now c.in_ok-first.others.now c.if-not-is_ascii_digit.ensures.cases c.in_ok-first.ensures.cases.0 in (
      subst (λ n. c.args.text.now ≡ decimal n ++ c.in_ok-first.others.now) (sym c.from-number.ensures) begins,
      omega (arith, c.if-number-eq0.true),
    )

pub loop-digit-init : goal.loop-digit-init
loop-digit-init c =
    let d = c.in_ok-first.first.now in
    let digit = c.if-not-is_ascii_digit.ensures.cases in
    let begins = first_digit d c.args.text.now c.in_ok-first.others.now digit c.in_ok-first.ensures.cases.0 in (
      subst (λ n. c.args.text.now ≡ decimal n ++ c.in_ok-first.others.now) (sym c.from-number.ensures) begins,
      omega (arith, c.if-number-eq0.false),
      omega (arith, digit, c.from-number.ensures),
    )

pub loop-digit-smaller : goal.loop-digit-smaller
loop-digit-smaller c = omega (arith, c.in-Some.ensures.cases)

pub loop-digit-preserved : goal.loop-digit-preserved
loop-digit-preserved c =
    let digit = c.if-not-is_ascii_digit-2.ensures.cases in
    let before = c.loop-digit.invariant in
    let is = ap (λ d. c.loop-digit.number * 10 + d) c.from.ensures in (
      next_digit c.loop-digit.number c.in-Some.digit.now (c.loop-digit.number * 10 + c.from.result) c.args.text.now c.loop-digit.rest.now c.in-Some.others.now digit before.1
          c.if-number-ge100000000000000000.false is before.0 c.in-Some.ensures.cases.0,
      omega (arith, before.1),
      omega (arith, digit, c.from.ensures, c.if-number-ge100000000000000000.false),
    )
