use Rattle.std.proofs.Common.{◌≡◌, All, map, take}
use Rattle.store_items.specs.Making.{HasKeyInRange, HasRowIfPut, change_seen, item_change}
use Rattle.store_items.proofs.lists.changes_of.Given as goal

abbrev pub invariant-loop-change : goal.invariant-loop-change
invariant-loop-change l = record {
  made : map change_seen l.made.items ≡ map item_change (take l.change-index l.changes);
  have : All HasRowIfPut (take l.change-index l.changes);
  ranged : All HasKeyInRange (take l.change-index l.changes);
}
