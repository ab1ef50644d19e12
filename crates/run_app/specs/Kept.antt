-- What a run keeps in its keeper, and what it leaves there.
use Rattle.std.specs.Prelude.{◌≡◌, ◌≢◌, ◌⊎◌, false, List, [], Option, Some, None, IfSome, IsSome}
use Rattle.chain_whole.specs.Chained.{Chained}
use Rattle.base_io.specs.Rows.{Makes, Pair}
use Rattle.base_io.specs.Changes.{LeavesRows}
use Rattle.store_commits.specs.Held.{HasRisen, items_at, rows_at}
use Rattle.store_commits.specs.Commits.{Holds}
use Rattle.store_items.specs.Stored.{AreStored, rows_as}
use Rattle.store_rows.specs.declared.format.Format.{Format}
use Rattle.run_app.specs.declared.status.Status.{Status}
use Rattle.run_app.specs.declared.status.Status.TheVariants.{KeepFault, NoMemory, WrongStore}
use Rattle.run_app.specs.Seen.{KeeperTold}
use Rattle.run_app.specs.Machine.{SettledAt, Standing, StandsAt}

-- how a run began: on the rows of what it was to go on from, and these rows, where they were told
pub record Began : Type 0 where
  pub first : Standing
  pub rows : Option (List Pair)

-- the rows were told, and are those of what it was to go on from, in one format or the other
abbrev pub BeganOnRows : Began → Type 0
BeganOnRows b = (f : Format) × (b.rows ≡ Some (rows_as f (items_at b.first)))

-- Between two lines: the chain stands for what they have led to, `t`. What was settled of it stands for what was committed, `s`, and
-- the keeper holds the items of this. While the keeper is honest, it still tells its rows, and a stop leaves just these.
pub record Keeping (b : Began) (chain : Option Chained) (told : Option (List Pair)) (honest : Type 0) (leaves : List Pair → Type 0) (s t : Standing) : Type 0 where
  pub stands : StandsAt chain t
  pub same : SettledAt chain s
  pub held : Holds (items_at s) told
  pub began : IfSome told (λ now. BeganOnRows b)
  pub tells : honest → IsSome b.rows → IsSome told
  pub settled : LeavesRows leaves told

-- from one state to another the height rose
abbrev pub HasGrown : Standing → Standing → Type 0
HasGrown (Some p) (Some q) = HasRisen p q
HasGrown None t = Unit {0}
HasGrown (Some p) None = Unit {0}

-- these are the rows of what lines have led to, in the format that is written, of which each item
-- has one
abbrev pub AreRowsOf : List Pair → Standing → Type 0
AreRowsOf rows s = (rows ≡ rows_at s) × AreStored (items_at s)

-- What a run leaves that began so, whose last committed lines led to `s`, and that was to commit what leads to `t`: where the
-- rows are told, they are those of `s`. While the keeper is honest, a stop leaves those of `s` or those of `t`.
pub record LeftIn (b : Began) (told : Option (List Pair)) (honest : Type 0) (leaves : List Pair → Type 0) (s t : Standing) : Type 0 where
  pub rows : IfSome told (λ now. BeganOnRows b × AreRowsOf now s)
  pub stop : honest → IsSome b.rows → (left : List Pair) → leaves left → AreRowsOf left s ⊎ AreRowsOf left t

-- a run that began on no rows
abbrev pub on_none : Option (List Pair) → Began
on_none rows = record { first = None; rows = rows }

-- ---- runs that leave the rows as they were

-- a call of a keeper left the rows, and what a stop may leave
pub record AreLeft (keeper : KeeperTold) : Type 0 where
  pub rows_are : Makes (λ before. before) keeper.rows keeper.rows'
  pub stop : keeper.honest' → (left : List Pair) → keeper.leaves' left → keeper.leaves left

-- no call was made
pub record AreUntouched (rows rows' : Option (List Pair)) (leaves leaves' : List Pair → Type 0) : Type 0 where
  pub rows_are : rows' ≡ rows
  pub stop : (left : List Pair) → leaves' left → leaves left

-- there are rows
pub record AreSome (rows rows' : Option (List Pair)) (honest' : Type 0) : Type 0 where
  pub some : IfSome rows' (λ now. now ≢ [])
  pub told : honest' → IsSome rows → IsSome rows'

-- Why a replay did not begin: its rows were not loaded, memory was wanting, or there are rows.
abbrev pub IsUnbegun : Status → Type 0 → Type 0
IsUnbegun KeepFault some = Unit {0}
IsUnbegun NoMemory some = Unit {0}
IsUnbegun (WrongStore is_empty) some = (is_empty ≡ false) × some
IsUnbegun _ some = ⊥
