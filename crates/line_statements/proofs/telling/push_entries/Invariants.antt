use Rattle.std.proofs.Common.{◌≡◌, ◌++◌, drop}
use Rattle.line_json.{specs.Told.data_tokens, proofs.WritingLemmas.values_tokens}
use Rattle.line_statements.specs.Entries.{entries_data, entry_data}
use Rattle.line_statements.proofs.telling.push_entries.Given as goal

abbrev pub invariant-loop-entry : goal.invariant-loop-entry
invariant-loop-entry l =
    (l.writer.before ≡ l.fn.writer.before)
    × (l.writer.tokens ++ values_tokens entry_data (drop l.entry-index l.entries) ≡ l.fn.writer.tokens ++ data_tokens (entries_data l.entries))
