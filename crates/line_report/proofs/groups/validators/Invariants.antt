use Rattle.std.proofs.Common.{◌≡◌, drop, filter_map}
use Rattle.base_types.specs.Orders.{addr_cmp}
use Rattle.line_report.specs.{Telling.validator_in, Seen.seen}
use Rattle.rule_machine.specs.Orders.{entries_with, in_order}
use Rattle.line_report.proofs.groups.validators.Given as goal

abbrev pub invariant-loop-item : goal.invariant-loop-item
invariant-loop-item l =
    entries_with addr_cmp (seen l.found.entries) (filter_map (validator_in l.asked) (drop l.item-index l.items))
    ≡ in_order addr_cmp (filter_map (validator_in l.asked) l.items)
