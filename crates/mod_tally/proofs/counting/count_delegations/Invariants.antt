use Rattle.std.proofs.Common.{drop, filter_map}
use Rattle.base_types.specs.Orders.{addr_cmp}
use Rattle.base_roles.specs.Entries.{at}
use Rattle.mod_tally.{specs.{Counting.walked, Taken.delegation_in}, proofs.Stepping.IsAlong}
use Rattle.mod_tally.proofs.counting.count_delegations.Given as goal

abbrev pub invariant-loop-item : goal.invariant-loop-item
invariant-loop-item l =
    IsAlong (at addr_cmp l.ballots) (filter_map delegation_in (drop l.item-index l.items)) (l.polls.entries, l.totals)
    (walked (at addr_cmp l.ballots) (filter_map delegation_in l.items) (l.fn.polls.entries, l.fn.totals))
