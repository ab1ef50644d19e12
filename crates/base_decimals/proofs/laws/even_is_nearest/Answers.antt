use Rattle.base_decimals.proofs.Nearest.{even_nearest}
use Rattle.base_decimals.proofs.laws.even_is_nearest.Goals as goal

pub returns : goal.returns
returns c = λ a d some. ((even_nearest a d some).near, (even_nearest a d some).tie)
