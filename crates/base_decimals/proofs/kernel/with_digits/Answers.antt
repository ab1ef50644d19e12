use Rattle.std.proofs.Common.{◌*◌}
use Rattle.base_decimals.proofs.Quotients.{further_digits}
use Rattle.base_decimals.proofs.kernel.with_digits.Goals as goal

pub returns-clause-digits : goal.returns-clause-digits
returns-clause-digits c =
    further_digits (c.args.a * c.args.factor) c.args.b c.in_ok-whole.whole c.in_ok-whole.rest c.in_ok-places.places c.in_ok-places.field-0-1
    c.in_ok-whole.ensures.product c.in_ok-places.ensures.product c.in_ok-places.ensures.rest
