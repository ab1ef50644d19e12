use Rattle.law_records.proofs.PassLaws.{sound_records_pass}
use Rattle.law_records.proofs.sound.sound_records_pass.Goals as goal

pub returns : goal.returns
returns c = λ p s m. sound_records_pass p s m
