use Rattle.std.proofs.Common.{◌≡◌, drop, filter_map}
use Rattle.base_types.specs.Orders.{addr_cmp}
use Rattle.rule_machine.specs.Orders.{entries_with, in_order}
use Rattle.mod_tally.specs.Counting.{poll_in}
use Rattle.mod_tally.proofs.polls.polls_in.Given as goal

abbrev pub invariant-loop-item : goal.invariant-loop-item
invariant-loop-item l =
    entries_with addr_cmp l.polls.entries (filter_map poll_in (drop l.item-index l.items)) ≡ in_order addr_cmp (filter_map poll_in l.items)
