use Rattle.base_types.proofs.MomentLemmas.{moment_of-moment_text}
use Rattle.base_types.proofs.laws.moments_read_back.Goals as goal

pub returns : goal.returns
returns c = moment_of-moment_text
