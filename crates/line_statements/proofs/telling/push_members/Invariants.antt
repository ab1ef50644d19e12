use Rattle.std.proofs.Common.{◌≡◌, ◌++◌, drop}
use Rattle.line_json.specs.Told.{listed}
use Rattle.line_statements.specs.Statements.{member_tokens}
use Rattle.line_statements.proofs.telling.push_members.Given as goal

abbrev pub invariant-loop-name : goal.invariant-loop-name
invariant-loop-name l =
    (l.writer.before ≡ l.fn.writer.before)
    × (l.writer.tokens ++ member_tokens (listed (drop l.name-index l.members)) ≡ l.fn.writer.tokens ++ member_tokens (listed l.members))
