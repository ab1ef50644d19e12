use Rattle.mod_signing.proofs.StandLemmas.{banning_carries}
use Rattle.mod_signing.proofs.laws.banning_carries_records.Goals as goal

pub returns : goal.returns
returns c = banning_carries
