use Rattle.std.proofs.Common.{◌≡◌, ◌++◌, drop}
use Rattle.line_json.{specs.Told.data_tokens, proofs.WritingLemmas.values_tokens}
use Rattle.run_generated.specs.Lines.{list_data}
use Rattle.run_generated.proofs.spelling.push_list.Given as goal

abbrev pub invariant-loop-value : goal.invariant-loop-value
invariant-loop-value g l =
    (l.writer.before ≡ l.fn.writer.before)
    × (l.writer.tokens ++ values_tokens (g.T.Spelled.spelled l.form) (drop l.value-index l.values) ≡ l.fn.writer.tokens ++ data_tokens (list_data (g.T.Spelled.spelled l.form) l.values))
