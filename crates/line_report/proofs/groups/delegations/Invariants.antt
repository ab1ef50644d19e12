use Rattle.std.proofs.Common.{◌≡◌, drop, filter_map}
use Rattle.base_roles.specs.Orders.{pair_cmp}
use Rattle.line_report.specs.{Telling.delegation_in, Groups.delegations_of}
use Rattle.rule_machine.specs.Orders.{entries_with}
use Rattle.line_report.proofs.groups.delegations.Given as goal

abbrev pub invariant-loop-item : goal.invariant-loop-item
invariant-loop-item l =
    entries_with pair_cmp l.found.entries (filter_map (delegation_in l.asked) (drop l.item-index l.items))
    ≡ delegations_of l.asked l.items
