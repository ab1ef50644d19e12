use Rattle.std.proofs.Common.{sym, ap}
use Rattle.base_table.proofs.TouchLemmas.{tells}
use Rattle.base_table.proofs.table.Table.touched.Goals as goal

pub returns-clause-settled : goal.returns-clause-settled
returns-clause-settled g c =
    let is = sym c.self.view_is in
    tells g.met.K.Ord.total _ _ _ c.len.ensures.ordered c.touched.ensures.distinct
    (ap (λ t. t.touched) is) (ap (λ t. t.entries) is) (ap (λ t. t.settled) is)
