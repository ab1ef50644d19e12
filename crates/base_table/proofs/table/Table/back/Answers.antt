use Rattle.std.proofs.Common.{refl, ◌∙◌, ap}
use Rattle.base_table.specs.Restored.{restored}
use Rattle.base_table.proofs.MarkLemmas.{gone_back, restored-latest, MarksRestore-back, MarksRestore-by}
use Rattle.base_table.proofs.table.Table.back.Goals as goal

pub invariant_of-self : goal.invariant_of-self
invariant_of-self g c =
    MarksRestore-by g.K.Ord.cmp c.self.inside.places.touched c.back.new.self.touched c.back.new.self.entries c.back.new.self.entries c.back.new.self.marks c.back.ensures.touched refl
    (MarksRestore-back g.K.Ord.cmp c.self.inside.places.touched c.self.inside.places.entries _ _ _ c.back.ensures.restored c.self.invariant)

pub returns : goal.returns
returns g c =
    gone_back _ _ _ c.self.view_is c.back.ensures.touched
    (ap (λ ts. restored g.K.Ord.cmp ts c.back.new.self.entries) c.back.ensures.touched
    ∙ restored-latest g.K.Ord.cmp c.self.inside.places.touched c.self.inside.places.entries _ _ _ c.back.ensures.restored c.self.invariant)
    refl c.back.ensures.restored
