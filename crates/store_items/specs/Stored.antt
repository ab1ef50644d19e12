-- Items as the rows of a keeper, and changes of items as changes of rows.
use Rattle.std.specs.Prelude.{◌≡◌, List, [], ◌∷◌, Contains}
use Rattle.base_io.specs.Rows.{Pair, put}
use Rattle.base_roles.specs.declared.items.Item.{Item}
use Rattle.base_roles.specs.Items.{key_of}
use Rattle.store_rows.specs.declared.format.Format.{Format}
use Rattle.store_rows.specs.Formats.{written}
use Rattle.store_rows.specs.Rows.{row_in}
use Rattle.store_rows.specs.Spelled.{HasRow}

-- the rows of items in a format, in whatever order these stand
abbrev pub rows_as : Format → List Item → List Pair
rows_as f [] = []
rows_as f (i ∷ items) = put (row_in f i) (rows_as f items)

-- the same in the format that is written
abbrev pub rows_in : List Item → List Pair
rows_in items = rows_as written items

-- none has the key of another
abbrev pub HaveOwnKeys : List Item → Type 0
HaveOwnKeys items = (i j : Item) → Contains items i → Contains items j → key_of i ≡ key_of j → i ≡ j

-- Items of which each has a row, and none the key of another.
pub record AreStored (items : List Item) : Type 0 where
  pub have_rows : (i : Item) → Contains items i → HasRow i
  pub once : HaveOwnKeys items
