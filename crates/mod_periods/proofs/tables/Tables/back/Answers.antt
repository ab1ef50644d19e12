use Rattle.std.proofs.Common.{◌∙◌, ◌<◌, length, sym, ap, subst}
use Rattle.mod_periods.proofs.MarkLemmas.{in_step-back, recorded-back, depth-recorded}
use Rattle.mod_periods.proofs.tables.Tables.back.Goals as goal

pub back-requires : goal.back-requires
back-requires c = record { some = subst (λ n. 0 < n) (sym (sym (depth-recorded c.self.inside.current c.self.inside.historical c.self.inside.starts c.self.inside.events c.self.invariant c.self.inside.spent) ∙ ap (λ b. length b.marks) c.self.view_is)) c.requires.some }

pub back-requires-2 : goal.back-requires-2
back-requires-2 c = record { some = subst (λ n. 0 < n) (sym (c.self.invariant.historical ∙ sym (depth-recorded c.self.inside.current c.self.inside.historical c.self.inside.starts c.self.inside.events c.self.invariant c.self.inside.spent) ∙ ap (λ b. length b.marks) c.self.view_is)) c.requires.some }

pub back-requires-3 : goal.back-requires-3
back-requires-3 c = record { some = subst (λ n. 0 < n) (sym (c.self.invariant.starts ∙ sym (depth-recorded c.self.inside.current c.self.inside.historical c.self.inside.starts c.self.inside.events c.self.invariant c.self.inside.spent) ∙ ap (λ b. length b.marks) c.self.view_is)) c.requires.some }

pub back-requires-4 : goal.back-requires-4
back-requires-4 c = record { some = subst (λ n. 0 < n) (sym (c.self.invariant.events ∙ sym (depth-recorded c.self.inside.current c.self.inside.historical c.self.inside.starts c.self.inside.events c.self.invariant c.self.inside.spent) ∙ ap (λ b. length b.marks) c.self.view_is)) c.requires.some }

pub invariant_of-self : goal.invariant_of-self
invariant_of-self c = in_step-back c.self.inside.current c.self.inside.historical c.self.inside.starts c.self.inside.events c.self.invariant _ _ _ _ c.back.ensures c.back-2.ensures c.back-3.ensures c.back-4.ensures

pub returns : goal.returns
returns c = rw (← c.self.view_is) (recorded-back c.self.inside.current c.self.inside.historical c.self.inside.starts c.self.inside.events c.self.invariant _ _ _ _ c.self.inside.spent c.back.ensures c.back-2.ensures c.back-3.ensures c.back-4.ensures)
