use Rattle.std.proofs.Common.{◌≡◌, drop, filter_map}
use Rattle.base_types.specs.Orders.{denom_cmp}
use Rattle.line_report.specs.{Telling.supply_in, Groups.supply_of}
use Rattle.rule_machine.specs.Orders.{entries_with}
use Rattle.line_report.proofs.groups.supplies.Given as goal

abbrev pub invariant-loop-item : goal.invariant-loop-item
invariant-loop-item l =
    entries_with denom_cmp l.found.entries (filter_map supply_in (drop l.item-index l.items))
    ≡ supply_of l.items
