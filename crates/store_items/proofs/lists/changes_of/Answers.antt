use Rattle.store_items.specs.Making.{HasKeyInRange, HasRowIfPut, change_seen, item_change}
use Rattle.store_items.proofs.Loops.{all_more, one_more}
use Rattle.store_items.proofs.lists.changes_of.Goals as goal

pub loop-change-preserved : goal.loop-change-preserved
loop-change-preserved c = record {
  made = one_more change_seen item_change c.loop-change.made.items c.push.new.self.items c.in_ok-row.row c.args.changes.now c.loop-change.change-index c.change-item.result c.loop-change-test.true c.change-item.is c.loop-change.invariant.made c.in_ok-row.ensures.change c.in_ok-push.ensures.items;
  have = all_more HasRowIfPut c.args.changes.now c.loop-change.change-index c.change-item.result c.loop-change-test.true c.change-item.is c.loop-change.invariant.have c.in_ok-row.ensures.has;
  ranged = all_more HasKeyInRange c.args.changes.now c.loop-change.change-index c.change-item.result c.loop-change-test.true c.change-item.is c.loop-change.invariant.ranged c.in_ok-row.ensures.range;
}
