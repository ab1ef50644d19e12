use Rattle.std.proofs.Common.{◌≡◌, All, map, take}
use Rattle.store_rows.specs.Spelled.{HasRow}
use Rattle.store_items.specs.Making.{change_seen, item_put}
use Rattle.store_items.proofs.lists.puts_of.Given as goal

abbrev pub invariant-loop-item : goal.invariant-loop-item
invariant-loop-item l = record {
  made : map change_seen l.made.items ≡ map item_put (take l.item-index l.items);
  have : All HasRow (take l.item-index l.items);
}
