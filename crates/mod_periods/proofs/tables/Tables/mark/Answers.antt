use Rattle.mod_periods.proofs.MarkLemmas.{recorded-marked}
use Rattle.mod_periods.proofs.tables.Tables.mark.Goals as goal

pub returns-in-Ok-clause-ok : goal.returns-in-Ok-clause-ok
returns-in-Ok-clause-ok c = rw (c.in_ok-mark_both.ensures.first, c.in_ok-mark_both.ensures.second, c.in-Ok.ensures.first, c.in-Ok.ensures.second, ← c.self.view_is)
    (recorded-marked c.self.inside.current c.self.inside.historical c.self.inside.starts c.self.inside.events c.self.invariant c.self.inside.spent)
