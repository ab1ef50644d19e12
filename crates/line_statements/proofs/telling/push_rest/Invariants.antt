use Rattle.std.proofs.Common.{◌≡◌, ◌++◌, drop}
use Rattle.line_json.{specs.Told.listed, proofs.WritingLemmas.rest_tokens}
use Rattle.line_statements.proofs.telling.push_rest.Given as goal

abbrev pub invariant-loop-name : goal.invariant-loop-name
invariant-loop-name l =
    (l.writer.before ≡ l.fn.writer.before)
    × (l.writer.tokens ++ rest_tokens (listed (drop l.name-index l.members)) ≡ l.fn.writer.tokens ++ rest_tokens (listed l.members))
