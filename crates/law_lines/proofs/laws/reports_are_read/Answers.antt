use Rattle.law_lines.proofs.ReportLemmas.{reports_read}
use Rattle.law_lines.proofs.laws.reports_are_read.Goals as goal

pub returns : goal.returns
returns c = reports_read
