use Rattle.std.proofs.Common.{sym, ◌∙◌, ap, subst}
use Rattle.base_table.{specs.Places.{slots, stamps, AreStamped}, proofs.KeptLemmas.{marks-swept, IsKept-swept}}
use Rattle.base_table.proofs.places.Places.settle.Goals as goal

pub invariant_of-self : goal.invariant_of-self
invariant_of-self g c = (
  IsKept-swept c.self.inside.log.items c.self.inside.here c.self.inside.depth (slots c.self.inside.tree.entries) (slots c.sweep.new.tree.entries) c.self.invariant.0
      (ap (λ m. m.marks) c.self.view_is ∙ c.requires) c.sweep.ensures.entries (c.sweep.ensures.named c.self.invariant.0.fits.named),
  subst (λ ts. AreStamped g.K.Ord.cmp 0 ts (stamps c.sweep.new.tree.entries)) (sym c.empty.ensures) tt,
)

pub returns : goal.returns
returns g c = λ i. record {
  entries = (c.sweep.ensures.entries ∙ ap (λ m. m.entries) c.self.view_is) i;
  marks = (marks-swept g.K.Ord.cmp c.self.inside.log.items c.self.inside.here.marks (slots c.self.inside.tree.entries) (slots c.sweep.new.tree.entries) (ap (λ m. m.marks) c.self.view_is ∙ c.requires) ∙ sym c.requires) i;
  touched = c.empty.ensures i;
}
