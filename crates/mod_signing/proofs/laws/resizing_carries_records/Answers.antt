use Rattle.mod_signing.proofs.ResizeLemmas.{resizing_carries}
use Rattle.mod_signing.proofs.laws.resizing_carries_records.Goals as goal

pub returns : goal.returns
returns c = resizing_carries
