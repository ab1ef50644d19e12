use Rattle.store_items.proofs.{Loops.item_at, Members.place_of}
use Rattle.store_resuming.proofs.restoring.have_long_window.Goals as goal

pub returns-then-has_long_window : goal.returns-then-has_long_window
returns-then-has_long_window c = λ long f items all e.
    let (x, has, same, more, there) = item_at f items c.args.rows.now c.loop-row.row-index c.row-item.result all e c.loop-row-test.true c.row-item.is in
    (x, place_of items x there, c.has_long_window.ensures c.if-has_long_window.true f x has same)
