use Rattle.std.proofs.Common.{◌≡◌, ◌++◌, map}
use Rattle.line_report.specs.Lines.{signing_line, text_of}
use Rattle.line_report.proofs.pushing.push_signing_records.Given as goal

abbrev pub invariant-loop-cons : goal.invariant-loop-cons
invariant-loop-cons l =
    l.out.items ++ text_of (map (signing_line l.form) l.cons-iterator)
    ≡ l.fn.out.items ++ text_of (map (signing_line l.form) l.records.entries)
