-- Changes of items as changes of rows.
use Rattle.std.specs.Prelude.{◌≡◌, ℕ, Bool, true, if◌then◌else◌, List, map, All, Contains, Option, Some, None}
use Rattle.base_io.specs.declared.keeper.Change.{Change}
use Rattle.base_io.specs.declared.keeper.Change.TheVariants as change
use Rattle.base_roles.specs.declared.items.Item.{Item}
use Rattle.base_roles.specs.declared.items.Item.TheVariants as item
use Rattle.base_roles.specs.Items.{AreChanges}
use Rattle.store_rows.specs.Rows.{key_bytes, value_bytes}
use Rattle.store_rows.specs.Spelled.{HasRow, IsKeyInRange, IsWritable}

-- the key of a change, and the value that it puts there, if any
abbrev pub change_seen : Change → List ℕ × Option (List ℕ)
change_seen (change.Put row) = (row.key.items, Some row.value.items)
change_seen (change.Remove key) = (key.items, None)

-- the same of an item, which stands where the truth value is true, and else is gone
abbrev pub item_change : Item × Bool → List ℕ × Option (List ℕ)
item_change c = (key_bytes c.0, if c.1 then Some (value_bytes c.0) else None)

-- the same of an item that stands
abbrev pub item_put : Item → List ℕ × Option (List ℕ)
item_put i = (key_bytes i, Some (value_bytes i))

-- an item that is to stand can be written
abbrev pub CanBeWritten : Item × Bool → Type 0
CanBeWritten c = c.1 ≡ true → IsWritable c.0

-- and then has a row
abbrev pub HasRowIfPut : Item × Bool → Type 0
HasRowIfPut c = c.1 ≡ true → HasRow c.0

-- each value of the key of a changed item is in the range of its type
abbrev pub HasKeyInRange : Item × Bool → Type 0
HasKeyInRange c = IsKeyInRange c.0

-- Changes of rows that are those from some items to others, of which each key was encoded.
pub record AreMade (old new : List Item) (list : List Change) : Type 0 where
  pub changes : List (Item × Bool)
  pub from_items : AreChanges old new changes
  pub in_range : All HasKeyInRange changes
  pub same : map change_seen list ≡ map item_change changes

-- The last height and time of the new items are none of the old ones.
pub record HasNewHead (old new : List Item) : Type 0 where
  pub height : ℕ
  pub time : ℕ
  pub stands : Contains new (item.Head height time)
  pub is_new : ¬ Contains old (item.Head height time)
