use Rattle.std.proofs.Common.{◌≡◌, ◌++◌, drop, map}
use Rattle.line_report.specs.Lines.{redelegation_line, text_of}
use Rattle.line_report.proofs.pushing.push_redelegation_entries.Given as goal

abbrev pub invariant-loop-entry : goal.invariant-loop-entry
invariant-loop-entry l =
    l.out.items ++ text_of (map (redelegation_line l.form l.who) (drop l.entry-index l.entries))
    ≡ l.fn.out.items ++ text_of (map (redelegation_line l.form l.who) l.entries)
