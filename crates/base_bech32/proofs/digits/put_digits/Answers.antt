use Rattle.std.proofs.Common.{arith}
use Rattle.base_bech32.proofs.DigitLemmas.{digit_put, digits_put}
use Rattle.base_bech32.proofs.digits.put_digits.Goals as goal

pub digits-preserved : goal.digits-preserved
digits-preserved c =
    digit_put c.args.base c.digits.out c.digits.i c.digits.rest c.args.number (omega (arith, c.digits.auto.out)) c.digits.invariant

pub returns : goal.returns
returns c =
    digits_put c.args.base c.args.number c.digits.rest c.digits.i c.digits.out c.args.out.now (omega arith) (omega (arith, c.digits.auto.out)) c.digits.invariant
