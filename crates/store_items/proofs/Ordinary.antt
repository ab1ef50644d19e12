-- A commit of which the last height is a new one is taken by every keeper.
use Rattle.std.proofs.Common.{◌≡◌, ◌∙◌, Bool, true, List, sym, ap, subst, Contains}
use Rattle.std.specs.List.{AllByRecursion}
use Rattle.sqlite_rules.{specs.Lists.Has, proofs.ListLemmas.all_from}
use Rattle.base_io.specs.{declared.keeper.Change.Change, Changes.{IsOrdinary, IsPutOfHead, IsReserved}}
use Rattle.base_io.specs.declared.keeper.Change.TheVariants as change
use Rattle.base_io.specs.Rows as rows
use Rattle.base_roles.specs.declared.items.Item.{Item}
use Rattle.base_roles.specs.declared.items.Item.TheVariants as item
use Rattle.store_rows.specs.Formats.{written}
use Rattle.store_items.specs.{Making.{AreMade, HasNewHead, change_seen, item_change}, Stored.HaveOwnKeys}
use Rattle.store_items.proofs.{Members.{has_map, has_of, map_has, place_of}, MigrationLemmas.{is_head, item_free}}
use Rattle.store_items.proofs.Reached.{are_distinct, made_put, seen_key}

module _ (old new : List Item) (list : List Change) (made : AreMade old new list) where
  -- each change of a row is that of an item
  of_item : (c : Change) → Has list c → (d : Item × Bool) × Has made.changes d × (item_change d ≡ change_seen c)
  of_item c there = map_has item_change made.changes (change_seen c) (subst (λ l. Has l (change_seen c)) made.same (has_map change_seen list c there))

  -- and that of each item is one of a row
  of_row : (d : Item × Bool) → Has made.changes d → (c : Change) × Has list c × (change_seen c ≡ item_change d)
  of_row d there = map_has change_seen list (item_change d) (subst (λ l. Has l (item_change d)) (sym made.same) (has_map item_change made.changes d there))

  free : AllByRecursion (λ c. IsReserved (rows.key_of c) → ⊥) list
  free =
      all_from (λ c. IsReserved (rows.key_of c) → ⊥) list (λ c there held.
      let (d, from, is) = of_item c there in
      item_free d.0 (subst IsReserved (sym (seen_key c) ∙ ap (λ s. s.0) (sym is)) held))

  head_put : HasNewHead old new → (put : Change) × Contains list put × IsPutOfHead put
  head_put head =
      let i : Item = item.Head head.height head.time in
      let from : Contains made.changes (i, true) = (made.from_items.stands i).1 (head.stands, head.is_new) in
      let (c, there, is) = of_row (i, true) (has_of made.changes (i, true) from) in
      let (r, same, row) = made_put written c i is in
      (change.Put r, place_of list (change.Put r) (subst (Has list) (sym same) there), is_head r head.height head.time row)

pub ordinary : (old new : List Item) (list : List Change) → HaveOwnKeys new → AreMade old new list → HasNewHead old new → IsOrdinary list
ordinary old new list own made head = record { distinct = are_distinct old new list own made; head = head_put old new list made head; free = free old new list made }
