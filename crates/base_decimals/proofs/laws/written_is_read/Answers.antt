use Rattle.base_decimals.proofs.Inverse.{written_canonical, written_read}
use Rattle.base_decimals.proofs.laws.written_is_read.Goals as goal

pub returns : goal.returns
returns c = λ n small. (written_canonical n small, written_read n small)
