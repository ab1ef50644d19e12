-- What is seen of a keeper over a keeper.
use Rattle.std.specs.Prelude.{◌≡◌, ◌⊎◌, map, Vec, Result, IsSome, OnOk, OnErr, ℕ, Bool, true, ◌&&◌, nat_lt, if◌then◌else◌, List, [], ◌∷◌, Option, Some, None, option_map, refl, unwrap_or, IfSome}
use Rattle.std.specs.Borrow.{MutBor}
use Rattle.std.specs.Coded.{Coded, code_by}
use denote.MutBor.{mut_coded}
use Rattle.std.specs.declared.alloc.Global.{Global}
use Rattle.base_io.specs.declared.keeper.Row.{Row}
use Rattle.base_io.specs.declared.keeper.Change.{Change}
use Rattle.base_io.specs.declared.keeper.KeepFault.{KeepFault}
use Rattle.std.specs.Ordering.{is_eq}
use Rattle.base_io.specs.Rows.{HasDistinctKeys, Makes, Pair, key_cmp, put}
use Rattle.base_io.specs.Changes.{LeavesRows, Rises}
use Rattle.store_history.specs.Commits.{AreCommits, after, committed, is_kept, made_by}
use Rattle.store_history.specs.Commits as commits
use Rattle.store_history.specs.History.{IsHistory, base_in, base_key, is_visible, kept_height, kept_key, kept_name, kept_value, stored_base, visible, was}

-- a keeper over another, which it was lent
pub record Held (D : Type 0) : Type 0 where
  pub inner : MutBor D

abbrev pub held_code : {D : Type 0} → Coded D → Coded (Held D)
held_code {D = D} code =
    code_by (MutBor D) (mut_coded code) (λ h. h.inner) (λ i. record { inner = i }) (λ _. refl)

-- the visible rows of those that are told
abbrev pub shown : Option (List Pair) → Option (List Pair)
shown = option_map visible

-- a stop may leave visible rows where it may leave rows of which they are the visible ones
abbrev pub ShowsLeft : (List Pair → Type 0) → List Pair → Type 0
ShowsLeft leaves left = (rows : List Pair) × leaves rows × (left ≡ visible rows)

-- every list of changes of distinct keys is taken
abbrev pub TakesDistinct : (List Change → Type 0) → Type 0
TakesDistinct takes = (changes : List Change) → HasDistinctKeys changes → takes changes

-- The base and the visible rows of rows, where they are told.
pub record Knows (told : Option (List Pair)) (base : Option ℕ) (seen : List Pair) : Type 0 where
  pub base_is : IfSome told (λ rows. base ≡ stored_base rows)
  pub seen_are : IfSome told (λ rows. seen ≡ visible rows)

-- What is true of a keeper over another between two calls: the other takes every list of distinct
-- keys, a stop leaves its rows, the keys of its rows rise and a history in them is of its form, and
-- its base and its visible rows are known, unless memory was wanting for them.
pub record IsKeeping
    (takes : List Change → Type 0) (told : Option (List Pair)) (leaves : List Pair → Type 0)
    (known : Bool) (base : Option ℕ) (seen : List Pair) : Type 0 where
  pub takes_all : TakesDistinct takes
  pub settled : LeavesRows leaves told
  pub rises : IfSome told Rises
  pub history : IfSome told IsHistory
  pub knows : known ≡ true → Knows told base seen

-- ---- what became of rows

-- these rows are what commits made of the first ones
abbrev pub Became : List Pair → List Pair → Type 0
Became first rows = (commits : List (List Change)) × AreCommits commits × (rows ≡ after commits first)

-- where rows are told, they are what commits made of the first ones, which were told
abbrev pub HaveBecome : Option (List Pair) → Option (List Pair) → Type 0
HaveBecome first told =
    IfSome told (λ rows. (before : List Pair) × (first ≡ Some before) × Became before rows)

-- ---- reading rows, one after the other

-- an entry of a map as a row
abbrev pub row_in : Vec ℕ Global × Vec ℕ Global → Row
row_in e = record { key = e.0; value = e.1 }

-- the visible rows with this one, if it is visible
abbrev pub shown_with : Pair → List Pair → List Pair
shown_with p ps = if is_visible p.0 then put p ps else ps

-- the base, where this row has it
abbrev pub base_with : Pair → Option ℕ → Option ℕ
base_with p base = if is_eq (key_cmp p.0 base_key) then base_in p.1 else base

-- the rows that keep something with this one, if it does
abbrev pub kept_with : Pair → List Pair → List Pair
kept_with p ps = if is_kept p.0 then put p ps else ps

-- ---- going back

-- the visible rows once what this row keeps is as it was, where it is of a height above
abbrev pub restored : ℕ → Pair → List Pair → List Pair
restored height p ps =
    if is_kept p.0 && nat_lt height (kept_height p.0)
    then made_by (kept_name p.0) (was p.1) ps
    else ps

-- the same of all these rows, the last of them first, so that of one key the first decides
abbrev pub undone : ℕ → List Pair → List Pair → List Pair
undone height [] ps = ps
undone height (p ∷ rows) ps = restored height p (undone height rows ps)

-- a row that keeps something is what its height, its visible key and what it keeps make
abbrev pub IsWhole : Pair → Type 0
IsWhole p =
    is_kept p.0 ≡ true →
    (p.0 ≡ kept_key (kept_height p.0) (kept_name p.0)) × (p.1 ≡ kept_value (was p.1))

-- ---- after a commit

-- the base after a commit of this height, where this base stood and this was the last height
abbrev pub base_after : Option ℕ → Option ℕ → ℕ → Option ℕ
base_after base None height = Some height
base_after base (Some last) height =
    Some (if nat_lt last height then unwrap_or base last else height)

-- What is left of the rows of a keeper to which these changes were to be committed with those of
-- the history: after Ok just the rows after the commit, and after a fault the rows that it held. A
-- stop then leaves what it could leave before, or the rows after it.
pub record CommitsTo {X : Type 0}
    (result : Result X KeepFault) (list : List Change) (rows rows' : Option (List Pair))
    (honest honest' : Type 0) (leaves leaves' : List Pair → Type 0) : Type 0 where
  pub ok : OnOk result (Makes (committed (map commits.seen list)) rows rows')
  pub told : OnOk result (honest' → IsSome rows → IsSome rows')
  pub err : OnErr result (Makes (λ before. before) rows rows')
  pub settled : LeavesRows leaves' rows'
  pub back : honest' → honest
  pub stop : honest' → IfSome rows (λ before. (left : List Pair) →
      leaves' left → leaves left ⊎ (left ≡ committed (map commits.seen list) before))
