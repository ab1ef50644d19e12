-- The changes that bring rows from the first format to the second.
use Rattle.std.specs.Prelude.{◌≡◌, ℕ, if◌then◌else◌, List, [], ◌∷◌, map, All, Contains, Option, Some}
use Rattle.std.specs.Ordering.{is_eq}
use Rattle.std.specs.List.{AllByRecursion}
use Rattle.base_io.specs.declared.keeper.Change.{Change}
use Rattle.base_io.specs.Changes.{ChangesRows, IsOrdinary, changed}
use Rattle.base_io.specs.Rows.{Pair, key_cmp}
use Rattle.base_roles.specs.declared.items.Item.{Item}
use Rattle.base_roles.specs.declared.items.Item.TheVariants as item
use Rattle.base_roles.specs.Items.{IsOnce, key_of}
use Rattle.store_rows.specs.declared.format.Format.{Format}
use Rattle.store_rows.specs.declared.format.Format.TheVariants.{First, Second}
use Rattle.store_rows.specs.Rows.{key_bytes, row_in, value_in}
use Rattle.store_rows.specs.Spelled.{HasRow}
use Rattle.store_items.specs.Stored.{AreStored, rows_as}

-- the put of an item's row in the second format, where its value is another there than in the first
abbrev pub change_between : Item → List (List ℕ × Option (List ℕ))
change_between i =
    if is_eq (key_cmp (value_in First i) (value_in Second i)) then []
    else ((key_bytes i, Some (value_in Second i)) ∷ [])

-- one of these is the last height and time
abbrev pub HaveHead : List Item → Type 0
HaveHead items = (height time : ℕ) × Contains items (item.Head height time)

-- Items of a chain that has begun: each has a row of its own, and one of them is the last height
-- and time.
pub record HaveBegun (items : List Item) : Type 0 where
  pub stored : AreStored items
  pub head : HaveHead items

-- these are the rows of such items in the first format
abbrev pub AreOld : List Item → List Pair → Type 0
AreOld items rows = HaveBegun items × (rows ≡ rows_as First items)

-- The rows as they stand are those of these items, one after the other; no key is that of two, and
-- one is the last height and time.
pub record AreListed (f : Format) (items : List Item) (rows : List Pair) : Type 0 where
  pub have_rows : All HasRow items
  pub once : IsOnce (map key_of items)
  pub head : HaveHead items
  pub same : map (row_in f) items ≡ rows

-- Changes of these rows: each changes them, every keeper takes all of them, and they leave the rows
-- of the same items in the second format.
pub record IsMigration (items : List Item) (list : List Change) : Type 0 where
  pub reached : changed list (rows_as First items) ≡ rows_as Second items
  pub changing : AllByRecursion (ChangesRows (rows_as First items)) list
  pub ordinary : IsOrdinary list
