use Rattle.base_types.specs.Orders.{addr_cmp}
use Rattle.base_roles.specs.Entries.{at}
use Rattle.mod_tally.proofs.Stepping.{closing_next, closing_same, first_closes}
use Rattle.mod_tally.proofs.counting.count_operators.Goals as goal

pub count_left-requires : goal.count_left-requires
count_left-requires c =
    first_closes (at addr_cmp c.args.ballots.now) (c.in-Some.operator.now, c.in-Some.poll.now) c.next.new.self c.loop-operator.totals _ c.choice_of.result c.choice_of.ensures
    (closing_same (at addr_cmp c.args.ballots.now) c.loop-operator.operator-iterator _ c.loop-operator.totals _ c.in-Some.ensures.steps c.loop-operator.invariant)

pub loop-operator-preserved : goal.loop-operator-preserved
loop-operator-preserved c =
    closing_next (at addr_cmp c.args.ballots.now) (c.in-Some.operator.now, c.in-Some.poll.now) c.next.new.self c.loop-operator.totals c.count_left.new.totals _ c.choice_of.result c.choice_of.ensures c.count_left.ensures
    (closing_same (at addr_cmp c.args.ballots.now) c.loop-operator.operator-iterator _ c.loop-operator.totals _ c.in-Some.ensures.steps c.loop-operator.invariant)
