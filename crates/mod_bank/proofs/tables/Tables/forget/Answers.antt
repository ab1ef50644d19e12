use Rattle.std.proofs.Common.{◌∙◌, ◌<◌, length, sym, ap, subst}
use Rattle.mod_bank.proofs.MarkLemmas.{in_step-forgotten, booked-forgotten, depth-booked}
use Rattle.mod_bank.proofs.tables.Tables.forget.Goals as goal

pub forget-requires : goal.forget-requires
forget-requires c = record { some = subst (λ n. 0 < n) (sym (sym (depth-booked _ _ c.self.invariant c.self.inside.spent) ∙ ap (λ b. length b.marks) c.self.view_is)) c.requires.some }

pub forget-requires-2 : goal.forget-requires-2
forget-requires-2 c = record { some = subst (λ n. 0 < n) (sym (sym c.self.invariant.depth ∙ sym (depth-booked _ _ c.self.invariant c.self.inside.spent) ∙ ap (λ b. length b.marks) c.self.view_is)) c.requires.some }

pub invariant_of-self : goal.invariant_of-self
invariant_of-self c = in_step-forgotten _ _ c.self.invariant _ _ c.forget.ensures c.forget-2.ensures

pub returns : goal.returns
returns c = rw (← c.self.view_is) (booked-forgotten _ _ c.self.invariant _ _ c.self.inside.spent c.forget.ensures c.forget-2.ensures)
