use Rattle.std.proofs.Common.{◌-◌, ◌<◌, ◌++◌, ◌∷◌, [], length, sym, ◌∙◌, ap, subst}
use Rattle.base_table.{specs.Places.slots, proofs.KeptLemmas.{fewer, marks-closed, IsKept-closed}}
use Rattle.base_table.proofs.places.Places.forget.Goals as goal

pub invariant_of-self : goal.invariant_of-self
invariant_of-self g c =
    let ps = slots c.self.inside.tree.entries in
    let closed = c.close.ensures.closed ps (subst (λ m. 0 < length m.marks) (sym c.self.view_is) c.requires) in (
      IsKept-closed c.close.new.log.items c.clear.new.log.items c.close.new.here.marks c.close.new.here.len (c.self.inside.depth - 1) ps
          (fewer _ _ _ c.self.inside.depth closed.1 c.self.invariant.0.count) (record { len = c.close.ensures.here ∙ c.self.invariant.0.fits.len; named = c.self.invariant.0.fits.named })
          (c.close.ensures.below ps c.self.invariant.0.below) (c.close.ensures.placed ps c.self.invariant.0.placed)
          c.clear.ensures.open c.clear.ensures.log,
      c.self.invariant.1,
    )

pub returns-clause-closed : goal.returns-clause-closed
returns-clause-closed g c =
    let ps = slots c.self.inside.tree.entries in
    let closed = c.close.ensures.closed ps (subst (λ m. 0 < length m.marks) (sym c.self.view_is) c.requires) in
    let marks = marks-closed c.close.new.log.items c.clear.new.log.items c.close.new.here.marks c.close.new.here.len (c.self.inside.depth - 1) ps
    (fewer _ _ _ c.self.inside.depth closed.1 c.self.invariant.0.count) (record { len = c.close.ensures.here ∙ c.self.invariant.0.fits.len; named = c.self.invariant.0.fits.named })
    (c.close.ensures.below ps c.self.invariant.0.below) (c.close.ensures.placed ps c.self.invariant.0.placed)
    c.clear.ensures.open c.clear.ensures.log in
    (closed.0, ap (λ ms. ms ++ closed.0 ∷ []) marks ∙ closed.1 ∙ ap (λ m. m.marks) c.self.view_is)
