use Rattle.base_roles.proofs.{AmountLemmas.moves_by_amounts, HoldingLemmas.supplies-moved}
use Rattle.base_roles.proofs.laws.coins_move_by_amounts.Goals as goal

pub returns : goal.returns
returns c = record { amounts = moves_by_amounts; supplies = λ h from to coins. supplies-moved coins h from to }
