use Rattle.std.proofs.Common.{◌≡◌, All, List, map, take, flat_map}
use Rattle.base_io.specs.Changes.{pair_of}
use Rattle.base_roles.specs.declared.items.Item.{Item}
use Rattle.store_rows.specs.{declared.format.Format.TheVariants.First, Rows.row_in, Spelled.HasRow}
use Rattle.store_items.specs.{Making.change_seen, Migrating.change_between}
use Rattle.store_items.proofs.migrating.migrate.Given as goal

abbrev pub invariant-loop-row : goal.invariant-loop-row
invariant-loop-row l = (items : List Item) → All HasRow items → map (row_in First) items ≡ map pair_of l.rows → map change_seen l.changes.items ≡ flat_map change_between (take l.row-index items)
