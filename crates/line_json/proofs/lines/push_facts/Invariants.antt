use Rattle.std.proofs.Common.{◌≡◌, ◌++◌, drop}
use Rattle.line_json.specs.Written.{text_of_facts}
use Rattle.line_json.proofs.lines.push_facts.Given as goal

abbrev pub invariant-loop-place : goal.invariant-loop-place
invariant-loop-place l =
    l.out.items ++ text_of_facts l.form l.height (drop l.place l.facts) ≡ l.fn.out.items ++ text_of_facts l.form l.height l.facts
