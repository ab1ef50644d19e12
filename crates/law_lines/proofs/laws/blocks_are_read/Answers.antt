use Rattle.law_lines.proofs.ReportLemmas.{blocks_read}
use Rattle.law_lines.proofs.laws.blocks_are_read.Goals as goal

pub returns : goal.returns
returns c = blocks_read
