use Rattle.law_soundness.proofs.Together.{sound_is_kept}
use Rattle.law_soundness.proofs.runs.sound_is_kept.Goals as goal

-- src/runs.rt:10:1
pub returns : goal.returns
returns c = sound_is_kept
