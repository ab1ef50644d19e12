use Rattle.law_lines.proofs.ReportLemmas.{geneses_read}
use Rattle.law_lines.proofs.laws.geneses_tell_no_fact.Goals as goal

pub returns : goal.returns
returns c = geneses_read
