use Rattle.law_records.proofs.GatheredLaws.{states_gathered}
use Rattle.law_records.proofs.listed.states_are_gathered.Goals as goal

pub returns : goal.returns
returns c = λ p items s m. states_gathered p items s m
