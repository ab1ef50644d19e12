use Rattle.std.proofs.Common.{◌≡◌, drop, filter_map}
use Rattle.base_roles.specs.Orders.{pair_cmp}
use Rattle.line_report.specs.{Telling.unbonding_in, Seen.seen, Groups.unbondings_of}
use Rattle.rule_machine.specs.Orders.{entries_with}
use Rattle.line_report.proofs.groups.unbondings.Given as goal

abbrev pub invariant-loop-item : goal.invariant-loop-item
invariant-loop-item l =
    entries_with pair_cmp (seen l.found.entries) (filter_map (unbonding_in l.asked) (drop l.item-index l.items))
    ≡ unbondings_of l.asked l.items
