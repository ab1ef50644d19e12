use Rattle.std.proofs.Common.{◌++◌, ◌∷◌, [], sym, ◌∙◌, arith}
use Rattle.base_table.{specs.Places.slots, proofs.{UndoLemmas.{latest-few, marks_of-more}, KeptLemmas.IsKept-marked}}
use Rattle.base_table.proofs.places.Places.mark.Goals as goal

pub overflow_add-self : goal.overflow_add-self
overflow_add-self g c = let few = latest-few g.K.Ord.cmp c.self.inside.log.items c.self.inside.here.marks (slots c.self.inside.tree.entries) in let count = c.self.invariant.0.count in omega arith

pub invariant_of-self : goal.invariant_of-self
invariant_of-self g c = (IsKept-marked _ _ _ _ _ (omega arith) c.self.invariant.0, c.self.invariant.1)

pub returns-clause-ok : goal.returns-clause-ok
returns-clause-ok g c =
    (λ i. record {
      entries = (c.self.view_is i).entries;
      marks = (sym (marks_of-more g.K.Ord.cmp c.self.inside.log.items c.self.inside.here.marks (slots c.self.inside.tree.entries)) ∙ (λ j. (c.self.view_is j).marks ++ (c.self.view_is j).entries ∷ [])) i;
      touched = (c.self.view_is i).touched;
    })
