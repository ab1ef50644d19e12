use Rattle.base_types.specs.Orders.{addr_cmp}
use Rattle.base_roles.specs.Entries.{at}
use Rattle.mod_tally.{specs.Counting.closed, proofs.Stepping.IsClosing}
use Rattle.mod_tally.proofs.counting.count_operators.Given as goal

abbrev pub invariant-loop-operator : goal.invariant-loop-operator
invariant-loop-operator l =
    IsClosing (at addr_cmp l.ballots) l.operator-iterator l.totals (closed (at addr_cmp l.ballots) l.polls.entries l.fn.totals)
