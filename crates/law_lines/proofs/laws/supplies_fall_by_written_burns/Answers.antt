use Rattle.law_lines.proofs.BurnLemmas.{written_burns}
use Rattle.law_lines.proofs.laws.supplies_fall_by_written_burns.Goals as goal

pub returns : goal.returns
returns c = written_burns
