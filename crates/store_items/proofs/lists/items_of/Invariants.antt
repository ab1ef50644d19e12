use Rattle.std.proofs.Common.{◌≡◌, All, map, take}
use Rattle.base_io.specs.Changes.{pair_of}
use Rattle.store_rows.specs.{Rows.row_in, Spelled.HasRow}
use Rattle.store_items.proofs.lists.items_of.Given as goal

abbrev pub invariant-loop-row : goal.invariant-loop-row
invariant-loop-row l = record { rows : map (row_in l.format) l.items.items ≡ map pair_of (take l.row-index l.rows); found : All HasRow l.items.items }
