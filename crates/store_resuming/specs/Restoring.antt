-- What a chain restored from rows stands for, and when none is.
use Rattle.std.specs.Prelude.{◌≡◌, ◌≢◌, ◌⊎◌, ◌<◌, List, [], length, Option, Result, Ok, Err}
use Rattle.chain_whole.specs.Chained.{Chained}
use Rattle.chain_whole.specs.declared.fault.ChainFault.{ChainFault}
use Rattle.chain_whole.specs.declared.fault.ChainFault.TheVariants as unmade
use Rattle.base_io.specs.declared.keeper.Change.{Change}
use Rattle.base_io.specs.Rows.{Pair}
use Rattle.base_roles.specs.declared.items.Item.{Item}
use Rattle.base_roles.specs.declared.items.Item.TheVariants as item
use Rattle.base_io.specs.Changes.{IsOrdinary, Rises}
use Rattle.chain_modules.specs.Kept.{StandsFor}
use Rattle.rule_machine.specs.Items.{items_of}
use Rattle.rule_modules.specs.Chain.{State}
use Rattle.store_items.specs.Migrating.{AreListed, IsMigration}
use Rattle.store_resuming.specs.declared.fault.RestoreFault.{RestoreFault}
use Rattle.store_resuming.specs.declared.fault.RestoreFault.TheVariants as fault
use Rattle.store_rows.specs.declared.fault.RowFault.{RowFault}
use Rattle.store_rows.specs.declared.fault.RowFault.TheVariants as row
use Rattle.store_rows.specs.declared.format.Format.{Format}
use Rattle.store_rows.specs.declared.format.Format.TheVariants.{First, Second}
use Rattle.store_resuming.specs.Restored.{AreLoaded, AreOfNone, AreStateRows, HaveSameRows, IsStorable, old_rows_of, rows_of, state_rows}

-- ---- the chain of rows

-- A chain of rows: it stands for a state of which these are the rows, as far as they are told, and
-- for each of the same rows; and it is settled.
pub record IsChainOf (told : (List Pair → Type 0) → Type 0) (chain : Chained) : Type 0 where
  pub first : State
  pub storable : IsStorable first
  pub rows_are : told (λ now. AreStateRows now first)
  pub stands : (p : State) → IsStorable p → HaveSameRows p first → StandsFor chain.kept p
  pub settled : chain.settled ≡ chain.kept

-- these are the rows of a state in the first format, and the changes bring them to the one that is
-- written
abbrev pub AreMigrated : State → List Change → List Pair → Type 0
AreMigrated p list rows = (rows ≡ old_rows_of p) × IsMigration (items_of p) list

-- Changes for the rows of a state: there are none where they are in the format that is written;
-- where they are in the first, the changes bring them to that format, and every keeper takes them.
abbrev pub AreBrought : ((List Pair → Type 0) → Type 0) → State → List Change → Type 0
AreBrought told p list =
    (told (λ now. now ≡ rows_of p) × (list ≡ []))
    ⊎ (told (AreMigrated p list) × IsOrdinary list)

-- A chain of rows, and the changes for them.
pub record IsRestored (told : (List Pair → Type 0) → Type 0) (chain : Chained) (list : List Change) : Type 0 where
  pub restored : IsChainOf told chain
  pub brought : AreBrought told restored.first list

-- rows are told as a keeper gives them, in the order of their keys
abbrev pub InOrder : List Pair → (List Pair → Type 0) → Type 0
InOrder rows P = Rises rows → P rows

-- The same of rows that were read in one format.
pub record IsChainIn (f : Format) (told : (List Pair → Type 0) → Type 0) (chain : Chained) : Type 0 where
  pub first : State
  pub storable : IsStorable first
  pub rows_are : told (λ now. now ≡ state_rows f first)
  pub stands : (p : State) → IsStorable p → state_rows f p ≡ state_rows f first → StandsFor chain.kept p
  pub settled : chain.settled ≡ chain.kept

-- these are in a format the rows of no state
abbrev pub AreOfNoneIn : Format → List Pair → Type 0
AreOfNoneIn f rows = (p : State) → IsStorable p → rows ≡ state_rows f p → ⊥

-- changes for rows that were read in a format
abbrev pub AreChangesFrom : Format → List Pair → List Change → Type 0
AreChangesFrom First rows list =
    ((p : State) → IsStorable p → rows ≡ old_rows_of p → IsMigration (items_of p) list)
    × ((items : List Item) → AreListed First items rows → IsOrdinary list)
AreChangesFrom Second rows list = list ≡ []

-- why no chain comes of rows that are not read
abbrev pub not_read : RowFault → RestoreFault
not_read row.BadRow = fault.Unsound
not_read row.NoMemory = fault.NoMemory

-- a fault of items, which is none of a genesis
abbrev pub IsOfItems : ChainFault → Type 0
IsOfItems (unmade.BadGenesis number) = ⊥
IsOfItems unmade.BadItems = Unit {0}
IsOfItems unmade.NoMemory = Unit {0}

-- why no chain comes of the items of rows
abbrev pub IsNotResumed : ChainFault → RestoreFault → Type 0
IsNotResumed (unmade.BadGenesis number) why = ⊥
IsNotResumed unmade.BadItems why = why ≡ fault.Unsound
IsNotResumed unmade.NoMemory why = why ≡ fault.NoMemory

-- Why no chain comes of rows: they are those of no sound state (`OfNone`), or memory is wanting.
abbrev pub IsNoChain : (List Pair → Type 0) → List Pair → RestoreFault → Type 0
IsNoChain OfNone rows fault.Failed = ⊥
IsNoChain OfNone rows fault.NoMemory = Unit {0}
IsNoChain OfNone rows fault.Empty = ⊥
IsNoChain OfNone rows fault.Unsound = InOrder rows OfNone

-- Why none comes of a keeper: its rows are not loaded, memory is wanting, there are none, or they are those of no sound state.
abbrev pub IsUnrestored : Option (List Pair) → Option (List Pair) → Type 0 → RestoreFault → Type 0
IsUnrestored rows rows' honest' fault.Failed = Unit {0}
IsUnrestored rows rows' honest' fault.NoMemory = Unit {0}
IsUnrestored rows rows' honest' fault.Empty = AreLoaded rows rows' honest' (λ now. now ≡ [])
IsUnrestored rows rows' honest' fault.Unsound = AreLoaded rows rows' honest' (λ now. (now ≢ []) × AreOfNone now)

-- the fact holds, unless the keeper failed
abbrev pub UnlessFailed : {X : Type 0} → Result X RestoreFault → Type 0 → Type 0
UnlessFailed (Ok x) P = P
UnlessFailed (Err fault.Failed) P = Unit {0}
UnlessFailed (Err fault.NoMemory) P = P
UnlessFailed (Err fault.Empty) P = P
UnlessFailed (Err fault.Unsound) P = P

-- what comes of a keeper that keeps nothing: no chain, and no judgement of rows, since it has none
abbrev pub IsOfNothing : {X : Type 0} → Result X RestoreFault → Type 0
IsOfNothing (Ok x) = ⊥
IsOfNothing (Err fault.Failed) = Unit {0}
IsOfNothing (Err fault.NoMemory) = Unit {0}
IsOfNothing (Err fault.Empty) = Unit {0}
IsOfNothing (Err fault.Unsound) = ⊥

-- ---- windows that no sound state has

-- the item is a signing record whose window has more than 100,000 places
abbrev pub HasLongWindow : Item → Type 0
HasLongWindow (item.Signing cons info ring) = 100000 < length ring
HasLongWindow i = ⊥
