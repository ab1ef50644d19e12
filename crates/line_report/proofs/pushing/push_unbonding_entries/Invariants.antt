use Rattle.std.proofs.Common.{◌≡◌, ◌++◌, drop, map}
use Rattle.line_report.specs.Lines.{text_of, unbonding_line}
use Rattle.line_report.proofs.pushing.push_unbonding_entries.Given as goal

abbrev pub invariant-loop-entry : goal.invariant-loop-entry
invariant-loop-entry l =
    l.out.items ++ text_of (map (unbonding_line l.form l.who) (drop l.entry-index l.entries))
    ≡ l.fn.out.items ++ text_of (map (unbonding_line l.form l.who) l.entries)
