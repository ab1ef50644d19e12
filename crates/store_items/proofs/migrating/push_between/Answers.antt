use Rattle.std.proofs.Common.{◌∙◌, ap, sym, is_eq}
use Rattle.std.proofs.lemmas.Result.{err_from_is_err_and}
use Rattle.store_items.proofs.MigrationLemmas.{pushed_none, pushed_one, refused_never}
use Rattle.store_items.proofs.migrating.push_between.Goals as goal

pub returns-in_err-item-clause-fault : goal.returns-in_err-item-clause-fault
returns-in_err-item-clause-fault c = λ item has same.
    let p = err_from_is_err_and c.from_residual.result c.from_residual.ensures.1 in
    rw (p.1, p.2) (refused_never c.in_err-item.field-0.0 item c.args.row.now has same c.in_err-item.ensures.only)

pub returns-then-is_eq-clause-made : goal.returns-then-is_eq-clause-made
returns-then-is_eq-clause-made c = λ item has same.
    let order = rw (c.as_slice.ensures.value, c.as_slice-2.ensures.value) at c.cmp.ensures in
    pushed_none item c.in_ok-item.item c.args.row.now c.in_ok-second.second c.args.changes.now.items (c.in_ok-item.ensures.alone item has same) c.in_ok-item.ensures.found.1 c.in_ok-second.ensures.row
    (ap is_eq (sym order) ∙ sym c.is_eq.ensures ∙ c.if-is_eq.true)

pub returns-clause-made : goal.returns-clause-made
returns-clause-made c = λ item has same.
    let order = rw (c.as_slice.ensures.value, c.as_slice-2.ensures.value) at c.cmp.ensures in
    pushed_one item c.in_ok-item.item c.args.row.now c.in_ok-second.second c.args.changes.now.items c.push.new.self.items (c.in_ok-item.ensures.alone item has same) c.in_ok-item.ensures.found.1 c.in_ok-second.ensures.row
    (ap is_eq (sym order) ∙ sym c.is_eq.ensures ∙ c.if-is_eq.false) c.in_ok-push.ensures.items
