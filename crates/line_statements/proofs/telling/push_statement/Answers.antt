use Rattle.std.proofs.Common.{◌≡◌, ◌∙◌, ap, ◌++◌}
use Rattle.line_json.specs.Told.{data_tokens}
use Rattle.line_statements.{specs.Entries.entries_data, proofs.TellingLemmas.object_told}
use Rattle.line_statements.proofs.telling.push_statement.Goals as goal

pub returns-clause-ok : goal.returns-clause-ok
returns-clause-ok c =
    let entries : c.push_entries.new.writer.tokens ≡ c.key.new.self.tokens ++ data_tokens (entries_data c.args.statement.now.entries) =
    c.in_ok-push_entries.ensures.ok ∙ ap (λ es. c.key.new.self.tokens ++ data_tokens (entries_data es)) c.as_slice.ensures in
    object_told _ _ _ _ _ _ _ _ _ _ _
    c.in_ok-begin_object.ensures.ok c.in_ok-push_members.ensures.ok c.in_ok-key.ensures.ok entries c.in_ok-push_rest.ensures.ok
