use Rattle.std.proofs.Common.{◌≡◌}
use Rattle.store_loading.proofs.HoldLemmas.{Holding}
use Rattle.store_loading.proofs.loading.put_all.Given as goal

abbrev pub invariant-loop-item : goal.invariant-loop-item
invariant-loop-item g l =
    Holding g.M.Records.is_kind l.items l.item-index (g.M.Records.items (g.M.Records.kept l.records))
    × (g.M.Records.marks l.records ≡ g.M.Records.marks l.initial.records)
    × (g.M.Records.spent l.records ≡ g.M.Records.spent l.initial.records)
