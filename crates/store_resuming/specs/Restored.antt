-- The states that rows are of, and the chain of rows that were loaded.
use Rattle.std.specs.Prelude.{◌≡◌, List, [], Option, IfSome, IsSome}
use Rattle.base_io.specs.Rows.{Pair}
use Rattle.rule_machine.specs.Items.{items_of}
use Rattle.rule_modules.specs.Chain.{State}
use Rattle.rule_modules.specs.Sound.{IsSound}
use Rattle.store_rows.specs.declared.format.Format.{Format}
use Rattle.store_rows.specs.declared.format.Format.TheVariants.{First}
use Rattle.store_rows.specs.Formats.{written}
use Rattle.store_items.specs.Stored.{AreStored, rows_as}

-- ---- the states that rows are of

-- the rows of a state in a format
abbrev pub state_rows : Format → State → List Pair
state_rows f p = rows_as f (items_of p)

-- those in the format that is written
abbrev pub rows_of : State → List Pair
rows_of p = state_rows written p

-- those in the first format, which runs of earlier programs left
abbrev pub old_rows_of : State → List Pair
old_rows_of p = state_rows First p

-- these are the rows of a state, in one format or the other
abbrev pub AreStateRows : List Pair → State → Type 0
AreStateRows rows p = (f : Format) × (rows ≡ state_rows f p)

-- A state that a keeper can hold between two runs: it is sound, each of its items has a row of its own, and no facts are left of what
-- led to it. Its log is not kept.
pub record IsStorable (p : State) : Type 0 where
  pub sound : IsSound p
  pub stored : AreStored (items_of p)
  pub none : p.view.facts ≡ []

-- some rows are those of both, so what is kept does not tell them apart
abbrev pub HaveSameRows : State → State → Type 0
HaveSameRows p q = (rows : List Pair) × AreStateRows rows p × AreStateRows rows q

-- States that have the same rows in one format have the same in each.
abbrev pub FormatsTellTheSame : Type 0
FormatsTellTheSame =
    (p q : State) → IsStorable p → IsStorable q → HaveSameRows p q
    → (f : Format) → state_rows f p ≡ state_rows f q

-- these are the rows of no such state
abbrev pub AreOfNone : List Pair → Type 0
AreOfNone rows = (p : State) → IsStorable p → AreStateRows rows p → ⊥

-- Rows were loaded, and are left: they are so where they are told; an honest keeper still tells them.
pub record AreLoaded (rows rows' : Option (List Pair)) (honest' : Type 0) (P : List Pair → Type 0) : Type 0 where
  pub are : IfSome rows' P
  pub told : honest' → IsSome rows → IsSome rows'
