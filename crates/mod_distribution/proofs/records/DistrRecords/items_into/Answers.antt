use Rattle.std.proofs.Common.{subst}
use Rattle.base_roles.specs.Items.{IsOnce}
use Rattle.base_records.proofs.KindLemmas.{on_ok}
use Rattle.mod_distribution.{specs.Items.items_of, proofs.ItemLemmas.{once_all, record_items, shared_items}}
use Rattle.mod_distribution.proofs.records.DistrRecords.items_into.Goals as goal

pub known-requires : goal.known-requires
known-requires g c = record { told = (λ k v m. tt, λ k v m. tt) }

pub items_into-requires-2 : goal.items_into-requires-2
items_into-requires-2 g c = record { told = (λ k v m. tt, λ k v m. tt) }

pub returns-clause-once : goal.returns-clause-once
returns-clause-once g c = on_ok c.items_into-3.result
    (λ last. subst (λ t. IsOnce (items_of t.kept)) c.self.view_is
    (once_all _ (shared_items c.self.inside.alloc.kept) (record_items c.self.inside.f1.kept) c.in_ok-items_into.ensures.once c.in_ok-items_into-2.ensures.once last)) c.items_into-3.ensures.once
