use Rattle.std.proofs.Common.{◌≡◌, drop, filter_map}
use Rattle.base_types.specs.Orders.{addr_cmp}
use Rattle.line_report.specs.{Telling.purse_in, Seen.seen, Groups.purses_of}
use Rattle.rule_machine.specs.Orders.{entries_with}
use Rattle.line_report.proofs.groups.purses.Given as goal

abbrev pub invariant-loop-item : goal.invariant-loop-item
invariant-loop-item l =
    entries_with addr_cmp (seen l.found.entries) (filter_map (purse_in l.asked) (drop l.item-index l.items))
    ≡ purses_of l.asked l.items
