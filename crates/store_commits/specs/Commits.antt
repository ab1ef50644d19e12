-- What a commit of a chain's changes does.
use Rattle.std.specs.Prelude.{◌≡◌, ◌⊎◌, ⊤, List, Option, Result, IfSome, IsSome, OnOk, OnErr}
use Rattle.base_io.specs.declared.keeper.Change.{Change}
use Rattle.base_io.specs.declared.keeper.KeepFault.{KeepFault}
use Rattle.base_io.specs.Rows.{Makes, Pair}
use Rattle.base_io.specs.Changes.{IsOrdinary, LeavesRows, changed}
use Rattle.base_roles.specs.declared.items.Item.{Item}
use Rattle.store_items.specs.Stored.{AreStored, rows_in}
use Rattle.store_items.specs.Making.{AreMade}

-- A keeper holds these items: where its rows are told, each item has a row, and the rows are just
-- these. Where it tells none, as where it keeps nothing, nothing is said: a commit that is not made
-- encodes no item, so nobody finds out whether each has a row.
pub record Holds (items : List Item) (told : Option (List Pair)) : Type 0 where
  pub stored : IsSome told → AreStored items
  pub rows : IfSome told (λ rows. rows ≡ rows_in items)

-- These changes lead from some items to others, and every keeper takes them. If each of the first items
-- has a row, so has each of the others.
pub record IsCommit (old new : List Item) (list : List Change) : Type 0 where
  pub made : AreMade old new list
  pub ordinary : IsOrdinary list
  pub stored : AreStored old → AreStored new

-- These changes lead from the rows that a keeper tells to those of these items, of which each has
-- one then.
pub record LeadTo (items : List Item) (list : List Change) (told : Option (List Pair)) : Type 0 where
  pub stored : IsSome told → AreStored items
  pub rows : IfSome told (λ rows. changed list rows ≡ rows_in items)

-- What a commit leaves that is to bring a keeper to these items: after Ok just their rows, of which
-- each item has one where they are told, and after a fault the rows that it held. A stop then leaves
-- what it could leave before, or just their rows, and then each has one.
pub record Commits (result : Result ⊤ KeepFault) (items : List Item) (rows rows' : Option (List Pair)) (honest honest' : Type 0) (leaves leaves' : List Pair → Type 0) : Type 0 where
  pub stored : OnOk result (IsSome rows' → AreStored items)
  pub ok : OnOk result (Makes (λ before. rows_in items) rows rows')
  pub told : OnOk result (honest' → IsSome rows → IsSome rows')
  pub err : OnErr result (Makes (λ before. before) rows rows')
  pub settled : LeavesRows leaves rows → LeavesRows leaves' rows'
  pub back : honest' → honest
  pub stop : honest' → IsSome rows → (left : List Pair) → leaves' left → leaves left ⊎ ((left ≡ rows_in items) × AreStored items)
