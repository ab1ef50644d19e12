use Rattle.law_soundness.proofs.Founding.{genesis_is_sound}
use Rattle.law_soundness.proofs.runs.genesis_is_sound.Goals as goal

-- src/runs.rt:14:1
pub returns : goal.returns
returns c = genesis_is_sound
