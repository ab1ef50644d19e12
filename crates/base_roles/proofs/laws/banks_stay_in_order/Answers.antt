use Rattle.base_roles.proofs.HoldingLemmas.{backed-moved, backed-burned}
use Rattle.base_roles.proofs.laws.banks_stay_in_order.Goals as goal

pub returns : goal.returns
returns c = record { moves = λ h from to coins b m e. backed-moved coins h from to b m e; burns = backed-burned }
