use Rattle.law_lines.proofs.FactLemmas.{fact_is_read}
use Rattle.law_lines.proofs.laws.facts_are_read.Goals as goal

pub returns : goal.returns
returns c = fact_is_read
