use Rattle.law_lines.proofs.RunLemmas.{runs_written}
use Rattle.law_lines.proofs.laws.runs_are_written.Goals as goal

pub returns : goal.returns
returns c = runs_written
