use Rattle.std.proofs.Common.{◌≡◌, drop, filter_map}
use Rattle.base_roles.specs.Orders.{triple_cmp}
use Rattle.line_report.specs.{Telling.redelegation_in, Seen.seen, Groups.redelegations_of}
use Rattle.rule_machine.specs.Orders.{entries_with}
use Rattle.line_report.proofs.groups.redelegations.Given as goal

abbrev pub invariant-loop-item : goal.invariant-loop-item
invariant-loop-item l =
    entries_with triple_cmp (seen l.found.entries) (filter_map (redelegation_in l.asked) (drop l.item-index l.items))
    ≡ redelegations_of l.asked l.items
