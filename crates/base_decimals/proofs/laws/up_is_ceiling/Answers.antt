use Rattle.base_decimals.proofs.Nearest.{up_above, up_least}
use Rattle.base_decimals.proofs.laws.up_is_ceiling.Goals as goal

pub returns : goal.returns
returns c = λ a d some. (up_above a d some, λ n h. up_least a d n some h)
