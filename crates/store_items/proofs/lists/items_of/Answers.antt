use Rattle.std.proofs.Common.{All, List, subst, sym}
use Rattle.std.proofs.lemmas.{Result.err_from_is_err_and, List.Elements.All-push}
use Rattle.base_io.specs.Changes.{pair_of}
use Rattle.base_roles.specs.declared.items.Item.{Item}
use Rattle.store_rows.specs.{Rows.row_in, Spelled.HasRow}
use Rattle.store_items.proofs.Loops.{no_items, one_more, same_fault}
use Rattle.store_items.proofs.lists.items_of.Goals as goal

pub loop-row-preserved : goal.loop-row-preserved
loop-row-preserved c =
    let so_far = c.loop-row.invariant in
    let read = c.in_ok-item.ensures.found in
    record {
      rows = one_more (row_in c.args.format) pair_of c.loop-row.items.items c.push.new.self.items c.in_ok-item.item c.args.rows.now c.loop-row.row-index c.row-item.result c.loop-row-test.true c.row-item.is so_far.rows read.1 c.in_ok-push.ensures.items;
      found = subst (λ (xs : List Item). All HasRow xs) (sym c.in_ok-push.ensures.items) (All-push HasRow c.loop-row.items.items c.in_ok-item.item so_far.found read.0);
    }

pub returns-in_err-item-clause-only : goal.returns-in_err-item-clause-only
returns-in_err-item-clause-only c =
    let p = err_from_is_err_and c.from_residual.result c.from_residual.ensures.1 in
    λ bad. no_items c.args.format c.args.rows.now c.loop-row.row-index c.row-item.result c.loop-row-test.true c.row-item.is (c.in_err-item.ensures.only (same_fault _ _ (rw (p.1, p.2) at bad)))
