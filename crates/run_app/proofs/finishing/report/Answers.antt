use Rattle.std.proofs.Common.{subst}
use Rattle.run_app.{specs.Machine.StandsAt, proofs.PartLemmas.nothing_reported}
use Rattle.run_app.proofs.AnswerLemmas.{none_yet, lacking, report_failed, report_full, report_unflushed, report_written}
use Rattle.run_app.proofs.finishing.report.Goals as goal

pub returns-in_default-clause-stops : goal.returns-in_default-clause-stops
returns-in_default-clause-stops g c = λ s stood. lacking c.args.form s _ (none_yet c.args.chain.now s c.in_default.not-Some stood)

pub returns-in_default-report_text-clause-stops : goal.returns-in_default-report_text-clause-stops
returns-in_default-report_text-clause-stops g c = λ s stood. nothing_reported c.args.form s _

pub returns-in-Err-Failed-clause-stops : goal.returns-in-Err-Failed-clause-stops
returns-in-Err-Failed-clause-stops g c = λ s stood.
    report_failed c.args.form c.in-Some.chain s _ _ (subst (λ x. StandsAt x s) c.in-Some.is stood) c.in-Ok.ensures.text c.deref.ensures.value _ _ c.in-Err-Failed.ensures.err

pub returns-in-Err-NoMemory-clause-stops : goal.returns-in-Err-NoMemory-clause-stops
returns-in-Err-NoMemory-clause-stops g c = λ s stood.
    report_full c.args.form c.in-Some.chain s _ _ (subst (λ x. StandsAt x s) c.in-Some.is stood) c.in-Ok.ensures.text c.deref.ensures.value _ _ c.in-Err-NoMemory.ensures.err

pub returns-in-Ok-flush-clause-written : goal.returns-in-Ok-flush-clause-written
returns-in-Ok-flush-clause-written g c = λ s stood.
    report_written c.args.form c.in-Some.chain s _ _ (subst (λ x. StandsAt x s) c.in-Some.is stood) c.in-Ok.ensures.text c.deref.ensures.value _ _ _ c.in-Ok-write_all.ensures.ok c.in-Ok-flush.ensures.same

pub returns-clause-stops : goal.returns-clause-stops
returns-clause-stops g c = λ s stood.
    report_unflushed c.args.form c.in-Some.chain s _ _ (subst (λ x. StandsAt x s) c.in-Some.is stood) c.in-Ok.ensures.text c.deref.ensures.value _ _ _ c.in-Ok-write_all.ensures.ok c.flush.ensures.same
