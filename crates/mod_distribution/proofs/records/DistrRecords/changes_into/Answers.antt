use Rattle.std.proofs.Common.{◌≡◌, ◌++◌, List, subst, Bool, OnOk}
use Rattle.base_roles.specs.{declared.items.Item.Item, Items.AreChanges}
use Rattle.base_records.proofs.KindLemmas.{added-twice, on_ok}
use Rattle.mod_distribution.specs.{Kept.{Distributed, distributed}, Items.items_of}
use Rattle.mod_distribution.proofs.ItemLemmas.{changes_all, record_items, shared_items}
use Rattle.mod_distribution.proofs.records.DistrRecords.changes_into.Goals as goal

pub known-requires : goal.known-requires
known-requires g c = record { told = (λ k v m. tt, λ k v m. tt) }

pub changes_into-requires-2 : goal.changes_into-requires-2
changes_into-requires-2 g c = record { told = (λ k v m. tt, λ k v m. tt) }

pub returns-clause-changes : goal.returns-clause-changes
returns-clause-changes g c =
    let seen = distributed c.self.inside.f1 c.self.inside.alloc c.self.inside.withdraw c.self.inside.spent in
    let out = c.args.out.now.items in
    let one = c.changes_into.new.out.items in
    let two = c.changes_into-2.new.out.items in
    let three = c.changes_into-3.new.out.items in
    let x = c.in_ok-changes_into.ensures.changes in
    let y = c.in_ok-changes_into-2.ensures.changes in
    subst (λ (t : Distributed). OnOk c.changes_into-3.result ((changes : List (Item × Bool)) × ((three ≡ out ++ changes) × AreChanges (items_of t.settled) (items_of t.kept) changes))) c.self.view_is
    (on_ok c.changes_into-3.result (λ z. (
      x.0 ++ (y.0 ++ z.0),
      (
        added-twice out one three x.0 (y.0 ++ z.0) x.1.0 (added-twice one two three y.0 z.0 y.1.0 z.1.0),
        changes_all seen.settled seen.kept (shared_items seen.settled.purses) (record_items seen.settled.rewards) (shared_items seen.kept.purses) (record_items seen.kept.rewards) x.0 y.0 z.0 x.1.1 y.1.1 z.1.1,
      ),
    )) c.changes_into-3.ensures.changes)
