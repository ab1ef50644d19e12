use Rattle.std.proofs.Common.{◌∙◌, ◌<◌, length, sym, ap, subst}
use Rattle.mod_signing.proofs.MarkLemmas.{in_step-back, windowed-back, depth-windowed}
use Rattle.mod_signing.proofs.tables.Tables.back.Goals as goal

pub back-requires : goal.back-requires
back-requires c = record { some = subst (λ n. 0 < n) (sym (sym (depth-windowed _ _ c.self.invariant c.self.inside.spent) ∙ ap (λ b. length b.marks) c.self.view_is)) c.requires.some }

pub back-requires-2 : goal.back-requires-2
back-requires-2 c = record { some = subst (λ n. 0 < n) (sym (c.self.invariant.depth ∙ sym (depth-windowed _ _ c.self.invariant c.self.inside.spent) ∙ ap (λ b. length b.marks) c.self.view_is)) c.requires.some }

pub invariant_of-self : goal.invariant_of-self
invariant_of-self c = in_step-back _ _ c.self.invariant _ _ c.back.ensures c.back-2.ensures

pub returns : goal.returns
returns c = rw (← c.self.view_is) (windowed-back _ _ c.self.invariant _ _ c.self.inside.spent c.back.ensures c.back-2.ensures)
