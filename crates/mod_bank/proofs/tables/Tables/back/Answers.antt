use Rattle.std.proofs.Common.{◌∙◌, ◌<◌, length, sym, ap, subst}
use Rattle.mod_bank.proofs.MarkLemmas.{in_step-back, booked-back, depth-booked}
use Rattle.mod_bank.proofs.tables.Tables.back.Goals as goal

pub back-requires : goal.back-requires
back-requires c = record { some = subst (λ n. 0 < n) (sym (sym (depth-booked _ _ c.self.invariant c.self.inside.spent) ∙ ap (λ b. length b.marks) c.self.view_is)) c.requires.some }

pub back-requires-2 : goal.back-requires-2
back-requires-2 c = record { some = subst (λ n. 0 < n) (sym (sym c.self.invariant.depth ∙ sym (depth-booked _ _ c.self.invariant c.self.inside.spent) ∙ ap (λ b. length b.marks) c.self.view_is)) c.requires.some }

pub invariant_of-self : goal.invariant_of-self
invariant_of-self c = in_step-back _ _ c.self.invariant _ _ c.back.ensures c.back-2.ensures

pub returns : goal.returns
returns c = rw (← c.self.view_is) (booked-back _ _ c.self.invariant _ _ c.self.inside.spent c.back.ensures c.back-2.ensures)
