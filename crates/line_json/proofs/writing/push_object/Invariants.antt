use Rattle.std.proofs.Common.{◌≡◌, ◌++◌, drop}
use Rattle.serde_json.specs.Data.{object}
use Rattle.line_json.{specs.Told.{data_tokens, listed}, proofs.WritingLemmas.rest_tokens}
use Rattle.line_json.proofs.writing.push_object.Given as goal

abbrev pub invariant-loop-name : goal.invariant-loop-name
invariant-loop-name l =
    (l.writer.before ≡ l.fn.writer.before)
    × (l.writer.tokens ++ rest_tokens (listed (drop l.name-index l.members)) ≡ l.fn.writer.tokens ++ data_tokens (object (listed l.members)))
