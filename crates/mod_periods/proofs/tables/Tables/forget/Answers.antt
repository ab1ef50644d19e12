use Rattle.std.proofs.Common.{◌∙◌, ◌<◌, length, sym, ap, subst}
use Rattle.mod_periods.proofs.MarkLemmas.{in_step-forgotten, recorded-forgotten, depth-recorded}
use Rattle.mod_periods.proofs.tables.Tables.forget.Goals as goal

pub forget-requires : goal.forget-requires
forget-requires c = record { some = subst (λ n. 0 < n) (sym (sym (depth-recorded c.self.inside.current c.self.inside.historical c.self.inside.starts c.self.inside.events c.self.invariant c.self.inside.spent) ∙ ap (λ b. length b.marks) c.self.view_is)) c.requires.some }

pub forget-requires-2 : goal.forget-requires-2
forget-requires-2 c = record { some = subst (λ n. 0 < n) (sym (c.self.invariant.historical ∙ sym (depth-recorded c.self.inside.current c.self.inside.historical c.self.inside.starts c.self.inside.events c.self.invariant c.self.inside.spent) ∙ ap (λ b. length b.marks) c.self.view_is)) c.requires.some }

pub forget-requires-3 : goal.forget-requires-3
forget-requires-3 c = record { some = subst (λ n. 0 < n) (sym (c.self.invariant.starts ∙ sym (depth-recorded c.self.inside.current c.self.inside.historical c.self.inside.starts c.self.inside.events c.self.invariant c.self.inside.spent) ∙ ap (λ b. length b.marks) c.self.view_is)) c.requires.some }

pub forget-requires-4 : goal.forget-requires-4
forget-requires-4 c = record { some = subst (λ n. 0 < n) (sym (c.self.invariant.events ∙ sym (depth-recorded c.self.inside.current c.self.inside.historical c.self.inside.starts c.self.inside.events c.self.invariant c.self.inside.spent) ∙ ap (λ b. length b.marks) c.self.view_is)) c.requires.some }

pub invariant_of-self : goal.invariant_of-self
invariant_of-self c = in_step-forgotten c.self.inside.current c.self.inside.historical c.self.inside.starts c.self.inside.events c.self.invariant _ _ _ _ c.forget.ensures c.forget-2.ensures c.forget-3.ensures c.forget-4.ensures

pub returns : goal.returns
returns c = rw (← c.self.view_is) (recorded-forgotten c.self.inside.current c.self.inside.historical c.self.inside.starts c.self.inside.events c.self.invariant _ _ _ _ c.self.inside.spent c.forget.ensures c.forget-2.ensures c.forget-3.ensures c.forget-4.ensures)
