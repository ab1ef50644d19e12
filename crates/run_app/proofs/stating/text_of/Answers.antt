use Rattle.std.proofs.Common.{◌∙◌, [], ap, take_all, flat_map}
use Rattle.line_statements.specs.Statements.{text_of_statement}
use Rattle.store_rows.proofs.LoopLemmas.{writes_on}
use Rattle.run_app.proofs.stating.text_of.Goals as goal

pub loop-statement-preserved : goal.loop-statement-preserved
loop-statement-preserved c =
    writes_on (text_of_statement c.args.form) [] c.loop-statement.text.items _ c.args.made.now c.loop-statement.statement-index c.statement-item.result c.loop-statement-test.true c.statement-item.is c.loop-statement.invariant
    c.in_ok-push_line_of_statement.ensures.text

pub returns-clause-text : goal.returns-clause-text
returns-clause-text c = c.loop-statement.invariant ∙ ap (flat_map (text_of_statement c.args.form)) (take_all c.loop-statement.statement-index c.args.made.now c.loop-statement-test.false)
