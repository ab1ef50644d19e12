use Rattle.std.proofs.Common.{◌≡◌, ◌++◌, flat_map}
use Rattle.line_report.specs.{Lines.{text_of, unbonding_lines}, Seen.seen}
use Rattle.line_report.proofs.pushing.push_unbondings.Given as goal

abbrev pub invariant-loop-who : goal.invariant-loop-who
invariant-loop-who l =
    l.out.items ++ text_of (flat_map (unbonding_lines l.form) (seen l.who-iterator))
    ≡ l.fn.out.items ++ text_of (flat_map (unbonding_lines l.form) (seen l.unbondings.entries))
