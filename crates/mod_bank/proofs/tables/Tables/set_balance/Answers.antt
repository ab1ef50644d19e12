use Rattle.mod_bank.proofs.{OrderLemmas.removed_at, MarkLemmas.in_step-removed}
use Rattle.mod_bank.proofs.tables.Tables.set_balance.Goals as goal

pub invariant_of-self : goal.invariant_of-self
invariant_of-self g c = in_step-removed _ _ c.self.invariant c.args.place.now c.remove.new.self (removed_at c.self.inside.balances c.remove.new.self c.args.place.now c.in-Ok.ensures.ok)
