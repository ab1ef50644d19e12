use Rattle.std.proofs.Common.{◌≡◌, ◌∙◌, ap, ◌++◌}
use Rattle.json.specs.Print.{print}
use Rattle.serde_json.proofs.Texts.{print-outline}
use Rattle.line_json.specs.Told.{data_tokens, told_data}
use Rattle.line_json.proofs.pieces.push_written.Goals as goal

pub returns-clause-ok : goal.returns-clause-ok
returns-clause-ok c =
    let d = told_data c.args.told.now in
    let told : c.push_told-pushed.new.writer.tokens ≡ data_tokens d = c.in_ok-pushed.ensures.ok ∙ ap (λ ts. ts ++ data_tokens d) c.new-writer.ensures.tokens in
    let before : c.push_told-pushed.new.writer.before ≡ c.args.out.now.items = c.in_ok-pushed.ensures.before ∙ c.new-writer.ensures.before ∙ ap (λ v. v.items) c.replace.ensures.value in
    c.into_inner.ensures.items ∙ ap (λ s. s ++ print c.push_told-pushed.new.writer.tokens) before ∙ ap (λ s. c.args.out.now.items ++ s) (ap print told ∙ print-outline d)
