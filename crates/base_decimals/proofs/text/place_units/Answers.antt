use Rattle.std.proofs.Common.{length}
use Rattle.base_decimals.proofs.Digits.{places_below}
use Rattle.base_decimals.proofs.text.place_units.Goals as goal

pub returns-clause-below_one : goal.returns-clause-below_one
returns-clause-below_one c =
    rw c.pow.ensures (places_below c.in_ok-number.number (length c.args.digits.now) c.in_ok-number.ensures.bound c.in_ok-number.ensures.short)
