use Rattle.std.proofs.Common.{ap}
use Rattle.std.specs.{BTreeMap.is_at, Map.remove_entry}
use Rattle.base_table.proofs.MarkLemmas.{changed_table, MarksRestore-touched}
use Rattle.base_table.proofs.table.Table.remove.Goals as goal

pub invariant_of-self : goal.invariant_of-self
invariant_of-self g c = MarksRestore-touched g.K.Ord.cmp _ _ _ _ _ _ c.in-Ok.ensures.settled (ap (λ p. p.marks) c.in-Ok.ensures.places) c.self.invariant

pub returns-in-Ok-clause-ok : goal.returns-in-Ok-clause-ok
returns-in-Ok-clause-ok g c =
    changed_table g.K.Ord.cmp (λ es. remove_entry (is_at (g.K.Ord.cmp c.args.key.now)) es) c.args.key.now c.args.self.now c.self.inside.places c.take_out.new.places c.self.inside.spent
    c.self.view_is c.in-Ok.ensures.places c.in-Ok.ensures.settled.entries
