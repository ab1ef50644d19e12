use Rattle.std.proofs.Common.{◌∙◌, ap, ◌++◌}
use Rattle.run_generated.specs.Lines.{block_line}
use Rattle.run_generated.proofs.by_place.block_text.Goals as goal

pub returns-clause-line : goal.returns-clause-line
returns-clause-line c =
    c.in_ok-push_block_line.ensures.text ∙ ap (λ ts. ts ++ block_line c.args.form c.in_ok-block.block) c.new-line.ensures.items
    ∙ ap (block_line c.args.form) c.in_ok-block.ensures.block
