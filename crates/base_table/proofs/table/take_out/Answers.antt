use Rattle.std.proofs.Common.{◌∙◌, ap}
use Rattle.std.specs.{BTreeMap.is_at, Map.remove_entry}
use Rattle.base_table.proofs.{MarkLemmas.touched-settled, RestoredLemmas.KeepsSettled-remove}
use Rattle.base_table.proofs.table.take_out.Goals as goal

pub returns-clause-value : goal.returns-clause-value
returns-clause-value g c = c.in_ok-value.ensures ∙ c.get.ensures.value

pub returns-clause-places : goal.returns-clause-places
returns-clause-places g c =
    touched-settled g.met.K.Ord.total (λ es. remove_entry (is_at (g.K.Ord.cmp c.args.key.now)) es) c.args.key.now c.args.places.now c.change.new.self c.len.ensures.ordered c.in_ok-change.ensures.ok

pub returns-clause-settled : goal.returns-clause-settled
returns-clause-settled g c =
    KeepsSettled-remove g.met.K.Ord.total _ _ _ _ _ c.len.ensures.ordered (ap (λ p. p.touched) c.in_ok-change.ensures.ok) (ap (λ p. p.entries) c.in_ok-change.ensures.ok)
