use Rattle.std.proofs.Common.{ap}
use Rattle.std.specs.BTreeMap.{insert_entry}
use Rattle.base_table.proofs.{MarkLemmas.touched-settled, RestoredLemmas.KeepsSettled-put}
use Rattle.base_table.proofs.table.put_in.Goals as goal

pub returns-clause-places : goal.returns-clause-places
returns-clause-places g c =
    touched-settled g.met.K.Ord.total (λ es. insert_entry g.K.Ord.cmp es c.args.key.now c.args.value) c.args.key.now c.args.places.now c.change.new.self c.len.ensures.ordered c.in_ok-change.ensures.ok

pub returns-clause-settled : goal.returns-clause-settled
returns-clause-settled g c =
    KeepsSettled-put g.met.K.Ord.total _ _ _ _ _ _ c.len.ensures.ordered (ap (λ p. p.touched) c.in_ok-change.ensures.ok) (ap (λ p. p.entries) c.in_ok-change.ensures.ok)
