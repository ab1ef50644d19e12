use Rattle.std.proofs.Common.{◌≡◌, ◌∙◌, ap, [], ◌∷◌, ◌++◌}
use Rattle.json.specs.Print.{print}
use Rattle.serde_json.specs.Data.{object}
use Rattle.line_json.{specs.Told.{data_tokens, listed}, proofs.WritingLemmas.line_written}
use Rattle.line_json.proofs.writing.push_line.Goals as goal

pub returns-clause-ok : goal.returns-clause-ok
returns-clause-ok c =
    let d = object (listed c.args.members.now) in
    let told : c.push_object-pushed.new.writer.tokens ≡ data_tokens d = c.in_ok-pushed.ensures.ok ∙ ap (λ ts. ts ++ data_tokens d) c.new-writer.ensures.tokens in
    let before : c.push_object-pushed.new.writer.before ≡ c.args.out.now.items = c.in_ok-pushed.ensures.before ∙ c.new-writer.ensures.before ∙ ap (λ v. v.items) c.replace.ensures.value in
    line_written c.args.out.now.items _ c.push_object-pushed.new.writer.tokens d told
    (c.in_ok-push.ensures.items ∙ ap (λ s. s ++ 10 ∷ []) (c.into_inner.ensures.items ∙ ap (λ s. s ++ print c.push_object-pushed.new.writer.tokens) before))
