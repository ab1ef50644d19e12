use Rattle.base_shares.proofs.Fractions.{fraction_gives_burn}
use Rattle.base_shares.proofs.laws.fraction_gives_burn.Goals as goal

pub returns : goal.returns
returns c = fraction_gives_burn
