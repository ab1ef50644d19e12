use Rattle.std.proofs.Common.{◌-◌, ◌++◌, ◌∷◌, [], sym, ◌∙◌, ap, subst}
use Rattle.base_table.{specs.Places.{filled, slots, AreStamped}, proofs.KeptLemmas.{fewer, marks-closed, IsKept-closed}}
use Rattle.base_table.proofs.UndoLemmas.{marks_of-fewer}
use Rattle.base_table.proofs.places.Places.back.Goals as goal

pub invariant_of-self : goal.invariant_of-self
invariant_of-self g c =
    let ps = slots c.rewind.new.tree.entries in
    let closed = marks_of-fewer g.K.Ord.cmp c.rewind.new.log.items c.rewind.new.here.marks ps c.rewind.ensures.opened ∙ c.rewind.ensures.marks in (
      IsKept-closed c.rewind.new.log.items c.clear.new.log.items (c.rewind.new.here.marks - 1) c.rewind.new.here.len (c.self.inside.depth - 1) ps
          (fewer _ _ _ c.self.inside.depth closed c.self.invariant.0.count) (record { len = c.rewind.ensures.fits.len; named = c.rewind.ensures.fits.named }) c.rewind.ensures.below c.rewind.ensures.placed
          c.clear.ensures.open c.clear.ensures.log,
      subst (AreStamped g.K.Ord.cmp 0 c.self.inside.touched.entries) (sym c.rewind.ensures.stamps) c.self.invariant.1,
    )

pub returns-clause-restored : goal.returns-clause-restored
returns-clause-restored g c =
    let ps = slots c.rewind.new.tree.entries in
    let closed = marks_of-fewer g.K.Ord.cmp c.rewind.new.log.items c.rewind.new.here.marks ps c.rewind.ensures.opened ∙ c.rewind.ensures.marks in
    let marks = marks-closed c.rewind.new.log.items c.clear.new.log.items (c.rewind.new.here.marks - 1) c.rewind.new.here.len (c.self.inside.depth - 1) ps
    (fewer _ _ _ c.self.inside.depth closed c.self.invariant.0.count) (record { len = c.rewind.ensures.fits.len; named = c.rewind.ensures.fits.named }) c.rewind.ensures.below c.rewind.ensures.placed
    c.clear.ensures.open c.clear.ensures.log in
    ap (λ ms. ms ++ filled ps ∷ []) marks ∙ closed ∙ ap (λ m. m.marks) c.self.view_is
