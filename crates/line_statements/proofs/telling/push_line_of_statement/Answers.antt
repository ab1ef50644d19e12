use Rattle.std.proofs.Common.{◌≡◌, ◌∙◌, ap, [], ◌∷◌, ◌++◌}
use Rattle.json.specs.Print.{print}
use Rattle.line_json.{specs.Told.data_tokens, proofs.WritingLemmas.line_written}
use Rattle.line_statements.specs.Statements.{statement_data}
use Rattle.line_statements.proofs.telling.push_line_of_statement.Goals as goal

pub returns-clause-text : goal.returns-clause-text
returns-clause-text c =
    let d = statement_data c.args.form c.args.statement.now in
    let told : c.push_statement-pushed.new.writer.tokens ≡ data_tokens d = c.in_ok-pushed.ensures.ok ∙ ap (λ ts. ts ++ data_tokens d) c.new-writer.ensures.tokens in
    let before : c.push_statement-pushed.new.writer.before ≡ c.args.out.now.items = c.in_ok-pushed.ensures.before ∙ c.new-writer.ensures.before ∙ ap (λ v. v.items) c.replace.ensures.value in
    line_written c.args.out.now.items _ c.push_statement-pushed.new.writer.tokens d told
    (c.in_ok-push.ensures.items ∙ ap (λ s. s ++ 10 ∷ []) (c.into_inner.ensures.items ∙ ap (λ s. s ++ print c.push_statement-pushed.new.writer.tokens) before))
