use Rattle.base_shares.proofs.Fractions.{fraction_is_just_above}
use Rattle.base_shares.proofs.laws.fraction_is_just_above.Goals as goal

pub returns : goal.returns
returns c = fraction_is_just_above
