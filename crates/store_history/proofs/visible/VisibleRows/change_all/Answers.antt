use Rattle.std.proofs.Common.{◌∙◌, ◌+◌, ap, drop}
use Rattle.base_io.{specs.Changes.changed, proofs.RowLemmas.next_change}
use Rattle.store_history.proofs.visible.VisibleRows.change_all.Goals as goal

pub loop-change-preserved : goal.loop-change-preserved
loop-change-preserved c =
    ap (changed (drop (c.loop-change.change-index + 1) c.args.changes.now)) c.in_ok-change.ensures
    ∙ next_change c.args.changes.now c.loop-change.change-index c.change-item.result c.loop-change.self c.loop-change-test.true c.change-item.is
    ∙ c.loop-change.invariant
