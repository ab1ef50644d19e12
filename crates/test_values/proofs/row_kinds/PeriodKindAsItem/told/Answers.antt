use Rattle.test_values.proofs.RowKindLemmas.{periods-rowed}
use Rattle.test_values.proofs.row_kinds.PeriodKindAsItem.told.Goals as goal

pub returns : goal.returns
returns c = periods-rowed
