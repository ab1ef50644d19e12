-- What is seen of a run from outside: what its source, its sink and its keeper tell, as it begins and as it has ended.
use Rattle.std.specs.Prelude.{ℕ, List, Option}
use Rattle.base_io.specs.Rows.{Pair}
use Rattle.store_history.specs.Held.{ShowsLeft, shown}

-- the bytes that a source has left, where it tells them
pub record SourceTold : Type 0 where
  pub left : Option (List ℕ)
  pub left' : Option (List ℕ)

abbrev pub source_told : Option (List ℕ) → Option (List ℕ) → SourceTold
source_told left left' = record { left = left; left' = left' }

-- the same of a source before and after a run
abbrev pub by_source : {S : Type 0} → (S → Option (List ℕ)) → S → S → SourceTold
by_source left before now = source_told (left before) (left now)

-- the bytes that were written to a sink, where it tells them
pub record SinkTold : Type 0 where
  pub written : Option (List ℕ)
  pub written' : Option (List ℕ)

abbrev pub sink_told : Option (List ℕ) → Option (List ℕ) → SinkTold
sink_told written written' = record { written = written; written' = written' }

abbrev pub by_sink : {K : Type 0} → (K → Option (List ℕ)) → K → K → SinkTold
by_sink written before now = sink_told (written before) (written now)

-- the rows of a keeper, where it tells them, what a stop may leave, and whether it is honest to the end
pub record KeeperTold : Type 1 where
  pub rows : Option (List Pair)
  pub rows' : Option (List Pair)
  pub honest' : Type 0
  pub leaves : List Pair → Type 0
  pub leaves' : List Pair → Type 0

abbrev pub keeper_told : Option (List Pair) → Option (List Pair) → Type 0 → (List Pair → Type 0) → (List Pair → Type 0) → KeeperTold
keeper_told rows rows' honest' leaves leaves' = record { rows = rows; rows' = rows'; honest' = honest'; leaves = leaves; leaves' = leaves' }

abbrev pub by_keeper : {D : Type 0} → (D → Option (List Pair)) → (D → Type 0) → (D → List Pair → Type 0) → D → D → KeeperTold
by_keeper rows honest leaves before now = keeper_told (rows before) (rows now) (honest now) (leaves before) (leaves now)

-- the same of what is visible of the rows of a keeper that keeps a history
abbrev pub visible : KeeperTold → KeeperTold
visible keeper = keeper_told (shown keeper.rows) (shown keeper.rows') keeper.honest' (ShowsLeft keeper.leaves) (ShowsLeft keeper.leaves')
