use Rattle.std.proofs.Common.{◌≡◌, drop, filter_map}
use Rattle.base_roles.specs.Orders.{place_cmp}
use Rattle.line_report.specs.Telling.{balance_in}
use Rattle.rule_machine.specs.Orders.{entries_with, in_order}
use Rattle.line_report.proofs.groups.balances.Given as goal

abbrev pub invariant-loop-item : goal.invariant-loop-item
invariant-loop-item l =
    entries_with place_cmp l.found.entries (filter_map (balance_in l.asked) (drop l.item-index l.items))
    ≡ in_order place_cmp (filter_map (balance_in l.asked) l.items)
