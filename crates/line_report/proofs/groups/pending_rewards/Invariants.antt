use Rattle.std.proofs.Common.{◌≡◌, drop, filter_map}
use Rattle.base_roles.specs.Orders.{pair_cmp}
use Rattle.line_report.specs.{Telling.pending_in, Seen.seen}
use Rattle.rule_machine.specs.Orders.{entries_with, in_order}
use Rattle.line_report.proofs.groups.pending_rewards.Given as goal

abbrev pub invariant-loop-reward : goal.invariant-loop-reward
invariant-loop-reward l =
    entries_with pair_cmp (seen l.found.entries) (filter_map (pending_in l.asked) (drop l.reward-index l.pending))
    ≡ in_order pair_cmp (filter_map (pending_in l.asked) l.pending)
