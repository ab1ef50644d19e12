use Rattle.std.proofs.Common.{arith, ◌<◌, ◌-◌}
use Rattle.base_types.proofs.MomentLemmas.{first_below, power_some, rest_below}
use Rattle.base_types.proofs.moment.printing.+push_digits.Goals as goal

pub nonzero_div-n : goal.nonzero_div-n
nonzero_div-n t c = rw c.pow-unit.ensures (power_some (c.args.places - 1))

pub push_digit-requires : goal.push_digit-requires
push_digit-requires t c = rw c.pow-unit.ensures (first_below c.args.n c.args.places (omega arith) c.requires.below).1

pub nonzero_rem-n : goal.nonzero_rem-n
nonzero_rem-n t c = rw c.pow-unit.ensures (power_some (c.args.places - 1))

pub push_digits-requires : goal.push_digits-requires
push_digits-requires t c =
    let some : 0 < c.args.places = (first_below c.args.n c.args.places (omega arith) c.requires.below).0 in
    (omega arith, (omega arith, rw c.pow-unit.ensures (rest_below c.args.n (c.args.places - 1))))
