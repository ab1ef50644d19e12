use Rattle.std.proofs.Common.{◌≡◌, ◌++◌, map}
use Rattle.line_report.specs.{Groups.with_purses, Lines.{text_of, validator_line}, Seen.seen}
use Rattle.line_report.proofs.pushing.push_validators.Given as goal

abbrev pub invariant-loop-operator : goal.invariant-loop-operator
invariant-loop-operator l =
    l.out.items ++ text_of (map (validator_line l.form) (with_purses (seen l.purses.entries) (seen l.operator-iterator)))
    ≡ l.fn.out.items ++ text_of (map (validator_line l.form) (with_purses (seen l.purses.entries) (seen l.validators.entries)))
