use Rattle.base_io.specs.declared.keeper.Change.TheVariants.{Put}
use Rattle.store_rows.specs.Spelled.{HasRow}
use Rattle.store_items.{specs.Making.{change_seen, item_put}, proofs.Loops.{all_more, one_more, put_seen}}
use Rattle.store_items.proofs.lists.puts_of.Goals as goal

pub loop-item-preserved : goal.loop-item-preserved
loop-item-preserved c = record {
  made = one_more change_seen item_put c.loop-item.made.items c.push.new.self.items (Put c.in_ok-row.row) c.args.items.now c.loop-item.item-index c.item-item.result c.loop-item-test.true c.item-item.is c.loop-item.invariant.made (put_seen c.item-item.result c.in_ok-row.row c.in_ok-row.ensures.row) c.in_ok-push.ensures.items;
  have = all_more HasRow c.args.items.now c.loop-item.item-index c.item-item.result c.loop-item-test.true c.item-item.is c.loop-item.invariant.have c.in_ok-row.ensures.has;
}
