use Rattle.base_table.proofs.MarkLemmas.{MarksRestore-opened, MarksRestore-same}
use Rattle.base_table.proofs.table.Table.mark.Goals.{in-Ok, in-Err}
use Rattle.base_table.proofs.table.Table.mark.Goals as goal

pub invariant_of-self : goal.invariant_of-self
invariant_of-self g c =
    elim c.match-mark.branch [
      | in-Ok w ↦ MarksRestore-opened g.K.Ord.cmp c.self.inside.places _ c.len.ensures.ordered w.in-Ok.ensures.ok c.self.invariant
      | in-Err w ↦ MarksRestore-same g.K.Ord.cmp c.self.inside.places _ w.in-Err.ensures.err c.self.invariant
    ]
