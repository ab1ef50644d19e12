use Rattle.std.proofs.Common.{◌≡◌, ◌++◌, Bool, List, subst, OnOk}
use Rattle.base_types.specs.Orders.{cons_cmp}
use Rattle.base_roles.{specs.{declared.items.Item.Item, Items.AreChanges}, proofs.StakeLemmas.on_ok}
use Rattle.base_records.specs.Items.{changes_of}
use Rattle.mod_signing.specs.{Kept.kept_of, Items.{items_of, same_signed, signing_gone, signing_item, touched_over}}
use Rattle.mod_signing.proofs.SettledLemmas.{records_changed}
use Rattle.mod_signing.proofs.tables.Tables.changes_into.Goals as goal

pub returns-clause-changes : goal.returns-clause-changes
returns-clause-changes g c =
    let e = c.self.inside.entries in
    let r = c.self.inside.rows in
    let done = c.changes_into.ensures in
    subst (λ w. OnOk c.changes_into.result ((changes : List (Item × Bool)) × ((c.changes_into.new.out.items ≡ c.args.out.now.items ++ changes) × AreChanges (items_of w.settled) (items_of w.kept) changes))) c.self.view_is
    (on_ok c.changes_into.result
    (λ made. (changes_of cons_cmp signing_item signing_gone same_signed (touched_over r.settled e.touched) (kept_of e.entries r.entries), (made, records_changed e r c.self.invariant.touched done.settled done.settled_rows done.ordered)))
    done.changes)
