use Rattle.std.proofs.Common.{◌∙◌, sym, ap, subst}
use Rattle.base_table.specs.Tabled as table
use Rattle.mod_signing.specs.Kept.{HaveSameMarks, windowed, with_mark}
use Rattle.mod_signing.proofs.MarkLemmas.{in_step-marked, windowed-marked}
use Rattle.mod_signing.proofs.tables.Tables.mark.Goals as goal

pub invariant_of-self-2 : goal.invariant_of-self-2
invariant_of-self-2 c =
    subst (λ t. HaveSameMarks t c.mark_both.new.second) (sym c.in_ok-mark_both.ensures.first)
    (subst (λ t. HaveSameMarks (table.with_mark c.self.inside.entries) t) (sym c.in_ok-mark_both.ensures.second) (in_step-marked c.self.inside.entries c.self.inside.rows c.self.invariant))

pub returns-clause-ok : goal.returns-clause-ok
returns-clause-ok c =
    (λ i. windowed (c.in_ok-mark_both.ensures.first i) (c.in_ok-mark_both.ensures.second i) c.self.inside.spent)
    ∙ windowed-marked c.self.inside.entries c.self.inside.rows c.self.invariant c.self.inside.spent ∙ ap with_mark c.self.view_is
