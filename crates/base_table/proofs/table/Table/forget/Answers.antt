use Rattle.std.proofs.Common.{refl}
use Rattle.base_table.{specs.Restored.restored, proofs.MarkLemmas.{forgotten, MarksRestore-by, MarksRestore-closed}}
use Rattle.base_table.proofs.table.Table.forget.Goals as goal

pub invariant_of-self : goal.invariant_of-self
invariant_of-self g c =
    MarksRestore-by g.K.Ord.cmp c.self.inside.places.touched c.forget.new.self.touched c.self.inside.places.entries c.forget.new.self.entries c.forget.new.self.marks c.forget.ensures.touched c.forget.ensures.entries
    (MarksRestore-closed g.K.Ord.cmp c.self.inside.places.touched c.self.inside.places.entries _ _ _ c.forget.ensures.closed.1 c.self.invariant)

pub returns : goal.returns
returns g c =
    forgotten _ _ _ c.forget.ensures.closed.0 c.self.view_is c.forget.ensures.entries c.forget.ensures.touched
    (λ i. restored g.K.Ord.cmp (c.forget.ensures.touched i) (c.forget.ensures.entries i)) refl c.forget.ensures.closed.1
