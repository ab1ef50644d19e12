use Rattle.run_app.proofs.ReportLemmas.{report_is}
use Rattle.run_app.proofs.report.report_text.Goals as goal

pub returns-in-Ok-report-clause-text : goal.returns-in-Ok-report-clause-text
returns-in-Ok-report-clause-text c = λ p s.
    report_is c.args.form c.states_are_reported.ensures p c.in-Ok.items.items c.in-Ok-pending.pending.items _ (c.in-Ok.ensures.order p s) (c.in-Ok.ensures.items p s) (c.in-Ok-pending.ensures.pending p s)
    (rw c.deref-2.ensures.value at (rw c.deref.ensures.value at c.in-Ok-report.ensures.text))
