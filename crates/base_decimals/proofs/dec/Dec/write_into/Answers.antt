use Rattle.std.proofs.Common.{◌+◌, ◌++◌, drop, ap, arith}
use Rattle.base_decimals.proofs.Written.{text_is, length_is, text_written}
use Rattle.base_decimals.proofs.dec.Dec.write_into.Goals as goal

pub returns-clause-length : goal.returns-clause-length
returns-clause-length c =
    let count = rw c.raw-whole.ensures.value at c.digit_count.ensures in
    omega (arith, length_is c.args.self c.digit_count.result (text_is c.args.self c.digit_count.result count.one count.short count.enough count.needed))

pub returns-clause-text : goal.returns-clause-text
returns-clause-text c =
    let count = rw c.raw-whole.ensures.value at c.digit_count.ensures in
    ap (λ ds. ds ++ drop (c.digit_count.result + 1 + 18) c.args.out.now)
    (text_written c.args.self c.digit_count.result c.args.out.now c.write_text.new.out count.one count.short count.enough count.needed (omega arith)
    (rw (c.raw-whole.ensures.value, c.raw.ensures.value) at c.write_text.ensures))
