use Rattle.std.proofs.Common.{◌≡◌, drop, filter_map}
use Rattle.base_types.specs.Orders.{cons_cmp}
use Rattle.line_report.specs.{Telling.signing_in, Groups.signing_of}
use Rattle.rule_machine.specs.Orders.{entries_with}
use Rattle.line_report.proofs.groups.signing_records.Given as goal

abbrev pub invariant-loop-item : goal.invariant-loop-item
invariant-loop-item l =
    entries_with cons_cmp l.found.entries (filter_map (signing_in l.asked) (drop l.item-index l.items))
    ≡ signing_of l.asked l.items
