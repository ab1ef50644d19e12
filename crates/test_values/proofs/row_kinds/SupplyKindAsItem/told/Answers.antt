use Rattle.test_values.proofs.RowKindLemmas.{supplies-rowed}
use Rattle.test_values.proofs.row_kinds.SupplyKindAsItem.told.Goals as goal

pub returns : goal.returns
returns c = supplies-rowed
