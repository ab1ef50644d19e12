use Rattle.std.proofs.Common.{◌∙◌}
use Rattle.run_generated.proofs.WritingLemmas.{err_of, err_too, genesis_in_part, input_in_part, input_written, none_grown, ok_too}
use Rattle.run_generated.proofs.input.write_lines.Goals as goal

pub returns-in_err-first-clause-front : goal.returns-in_err-first-clause-front
returns-in_err-first-clause-front g c = err_of c.from_residual.result _ (none_grown _ _)

pub returns-in_err-write_all-clause-front : goal.returns-in_err-write_all-clause-front
returns-in_err-write_all-clause-front g c =
    err_of c.from_residual-in_err-write_all.result _ (genesis_in_part c.args.form _ _ _ c.args.seed c.args.count (c.deref.ensures.value ∙ c.in_ok-first.ensures.line) c.in_err-write_all.ensures.err)

pub returns-clause-text : goal.returns-clause-text
returns-clause-text g c =
    ok_too c.write_blocks.result _ _
    (λ rest. input_written c.args.form _ _ _ _ c.args.seed c.args.count (c.deref.ensures.value ∙ c.in_ok-first.ensures.line) c.in_ok-write_all.ensures.ok rest)
    c.write_blocks.ensures.text

pub returns-clause-front : goal.returns-clause-front
returns-clause-front g c =
    err_too c.write_blocks.result _ _
    (λ rest. input_in_part c.args.form _ _ _ _ c.args.seed c.args.count (c.deref.ensures.value ∙ c.in_ok-first.ensures.line) c.in_ok-write_all.ensures.ok rest)
    c.write_blocks.ensures.front
