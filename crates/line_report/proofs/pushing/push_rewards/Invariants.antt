use Rattle.std.proofs.Common.{◌≡◌, ◌++◌, map}
use Rattle.std.specs.Map.{values_of}
use Rattle.line_report.specs.{Lines.{pending_line, text_of}, Seen.seen}
use Rattle.line_report.proofs.pushing.push_rewards.Given as goal

abbrev pub invariant-loop-reward : goal.invariant-loop-reward
invariant-loop-reward l =
    l.out.items ++ text_of (map (pending_line l.form) (values_of (seen l.reward-iterator)))
    ≡ l.fn.out.items ++ text_of (map (pending_line l.form) (values_of (seen l.rewards.entries)))
