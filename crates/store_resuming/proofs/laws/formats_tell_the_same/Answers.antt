use Rattle.store_resuming.proofs.RestoreLemmas.{formats_same}
use Rattle.store_resuming.proofs.laws.formats_tell_the_same.Goals as goal

pub returns : goal.returns
returns c = λ p q s t alike f. formats_same p q s t alike f
