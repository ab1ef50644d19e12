use Rattle.law_records.proofs.PassLaws.{tests_make_sound}
use Rattle.law_records.proofs.sound.tests_make_sound.Goals as goal

pub returns : goal.returns
returns c = λ r a coins m t. tests_make_sound r a coins m t
