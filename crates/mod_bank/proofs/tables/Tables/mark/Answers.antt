use Rattle.mod_bank.proofs.MarkLemmas.{in_step-marked, booked-marked}
use Rattle.mod_bank.proofs.tables.Tables.mark.Goals as goal

pub invariant_of-self-in-Ok : goal.invariant_of-self-in-Ok
invariant_of-self-in-Ok c = rw (c.in_ok-mark.ensures.ok, c.in-Ok.ensures.ok) (in_step-marked _ _ c.self.invariant)

pub returns-in-Ok-clause-ok : goal.returns-in-Ok-clause-ok
returns-in-Ok-clause-ok c = rw (c.in_ok-mark.ensures.ok, c.in-Ok.ensures.ok, ← c.self.view_is) (booked-marked _ _ c.self.invariant c.self.inside.spent)
