-- What one call and another leave can be taken back together.
use Rattle.std.proofs.Common.{◌∙◌, [], ◌++◌, append-nil, append_assoc, refl, sym, ap}
use Rattle.base_roles.specs.{declared.bank.Ground.Ground, Ground.CanBeUndone}

module _ {B M : Type 0} (marks_of : B → M) where
  pub undone-none : (g : Ground B) → CanBeUndone marks_of g g
  undone-none g = record { marks = refl; ctx = refl; facts = ([], sym (append-nil g.facts)) }

  pub undone-then : (g g2 g3 : Ground B) → CanBeUndone marks_of g g2 → CanBeUndone marks_of g2 g3 → CanBeUndone marks_of g g3
  undone-then g g2 g3 a b = record {
    marks = b.marks ∙ a.marks;
    ctx = b.ctx ∙ a.ctx;
    facts = (a.facts.0 ++ b.facts.0, b.facts.1 ∙ ap (λ l. l ++ b.facts.0) a.facts.1 ∙ append_assoc g.facts a.facts.0 b.facts.0);
  }
