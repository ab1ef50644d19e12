use Rattle.std.proofs.Common.{◌∙◌, refl}
use Rattle.run_generated.proofs.WritingLemmas.{err_of, way_begins, way_breaks, way_ends, way_goes_on, way_stops}
use Rattle.run_generated.proofs.input.write_blocks.Goals as goal

pub loop-before-init : goal.loop-before-init
loop-before-init g c = record { told = way_begins c.args.form _ c.args.count c.args.seed _ c.new-generator.ensures; quiet = refl }

pub loop-before-preserved : goal.loop-before-preserved
loop-before-preserved g c = record {
  told =
      way_goes_on c.args.form _ _ _ c.loop-before.before c.args.count _ _ _ _ c.loop-before-test.true
      (c.deref.ensures.value ∙ c.in_ok-next_line.ensures.line) c.in_ok-next_line.ensures.state c.in_ok-write_all.ensures.ok c.loop-before.invariant.told;
  quiet = c.in_ok-write_all.ensures.quiet ∙ c.loop-before.invariant.quiet;
}

pub returns-in_err-next_line-clause-front : goal.returns-in_err-next_line-clause-front
returns-in_err-next_line-clause-front g c =
    err_of c.from_residual.result _ (way_stops c.args.form _ _ c.loop-before.before c.args.count _ _ c.loop-before.invariant.told)

pub returns-in_err-write_all-clause-front : goal.returns-in_err-write_all-clause-front
returns-in_err-write_all-clause-front g c =
    err_of c.from_residual-in_err-write_all.result _
    (way_breaks c.args.form _ _ _ c.loop-before.before c.args.count _ _ _ c.loop-before-test.true
    (c.deref.ensures.value ∙ c.in_ok-next_line.ensures.line) c.in_err-write_all.ensures.err c.loop-before.invariant.told)

pub returns-clause-text : goal.returns-clause-text
returns-clause-text g c = way_ends c.args.form _ _ c.loop-before.before c.args.count _ _ c.loop-before-test.false c.loop-before.invariant.told
