use Rattle.std.proofs.Common.{◌∙◌, ap, ◌++◌}
use Rattle.run_generated.specs.Lines.{block_line}
use Rattle.run_generated.proofs.input.next_line.Goals as goal

pub returns-in-Ok-push_block_line-clause-line : goal.returns-in-Ok-push_block_line-clause-line
returns-in-Ok-push_block_line-clause-line c =
    c.in-Ok-push_block_line.ensures.text ∙ ap (λ ts. ts ++ block_line c.args.form c.in-Ok.block) c.clear.ensures.items ∙ ap (block_line c.args.form) c.in-Ok.ensures.value
