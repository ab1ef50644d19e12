use Rattle.std.proofs.Common.{sym, subst}
use Rattle.chain_modules.specs.{Kept.{StandsFor, kept_of}, Marks.settled_over}
use Rattle.chain_whole.{specs.Chained.Listened, proofs.ChainLemmas.changes_are_kept}
use Rattle.chain_whole.proofs.chain.Chain.changes.Goals as goal

pub returns-clause-changes : goal.returns-clause-changes
returns-clause-changes g c = λ p q s t.
    let m = c.self.inside.modules in
    changes_are_kept (settled_over c.self.inside.settled m) (kept_of m) p q c.in_ok-changes_of.field-0.items c.self.invariant.1 c.changes_of.ensures.order
    (subst (λ (x : Listened _). StandsFor x.settled p) (sym c.self.view_is) s) (subst (λ (x : Listened _). StandsFor x.kept q) (sym c.self.view_is) t) c.in_ok-changes_of.ensures.changes
