use Rattle.std.proofs.Common.{◌≡◌, ◌++◌, map}
use Rattle.line_report.specs.Lines.{delegation_line, text_of}
use Rattle.line_report.proofs.pushing.push_delegations.Given as goal

abbrev pub invariant-loop-who : goal.invariant-loop-who
invariant-loop-who l =
    l.out.items ++ text_of (map (delegation_line l.form) l.who-iterator)
    ≡ l.fn.out.items ++ text_of (map (delegation_line l.form) l.delegations.entries)
