use Rattle.law_soundness.proofs.Giving.{blocks_end}
use Rattle.law_soundness.proofs.blocks.blocks_end.Goals as goal

-- src/blocks.rt:54:1
pub returns : goal.returns
returns c = blocks_end
