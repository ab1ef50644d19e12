use Rattle.line_report.{specs.Lines.redelegation_line, proofs.ReportLemmas.line_pushed}
use Rattle.line_report.proofs.pushing.push_redelegation_entries.Goals as goal

pub loop-entry-preserved : goal.loop-entry-preserved
loop-entry-preserved c =
    line_pushed (redelegation_line c.args.form c.args.who.now) c.args.entries.now c.loop-entry.entry-index c.entry-item.result c.loop-entry.out.items c.push_redelegation.new.out.items _
    c.loop-entry-test.true c.entry-item.is c.in_ok-push_redelegation.ensures.ok c.loop-entry.invariant
