use Rattle.mod_recorder.proofs.CallLemmas.{may_burn}
use Rattle.mod_recorder.proofs.recorder.RecorderStakingHooks.hear.Goals as goal

pub note-requires : goal.note-requires
note-requires g c = may_burn _ _ _ _ c.requires
