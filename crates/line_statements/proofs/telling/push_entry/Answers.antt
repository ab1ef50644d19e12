use Rattle.std.proofs.Common.{◌≡◌, ◌++◌, OnOk, subst, sym}
use Rattle.line_json.specs.Told.{data_tokens}
use Rattle.line_statements.specs.Entries.{entry_data}
use Rattle.line_statements.proofs.telling.push_entry.Goals as goal

pub returns-in-Started-clause-ok : goal.returns-in-Started-clause-ok
returns-in-Started-clause-ok c =
    subst (λ e. OnOk c.push_object.result (c.push_object.new.writer.tokens ≡ c.args.writer.now.tokens ++ data_tokens (entry_data e)))
    (sym c.in-Started.is) c.push_object.ensures.ok

pub returns-in-Allocated-clause-ok : goal.returns-in-Allocated-clause-ok
returns-in-Allocated-clause-ok c =
    subst (λ e. OnOk c.push_object-in-Allocated.result (c.push_object-in-Allocated.new.writer.tokens ≡ c.args.writer.now.tokens ++ data_tokens (entry_data e)))
    (sym c.in-Allocated.is) c.push_object-in-Allocated.ensures.ok
