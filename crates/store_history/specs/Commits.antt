-- What a commit makes of rows in which a history is kept, and what stood after commits.
use Rattle.std.specs.Prelude.{◌≡◌, ℕ, ◌^◌, ◌<◌, ◌≤◌, Bool, true, false, ◌==◌, nat_lt, if◌then◌else◌, List, [], ◌∷◌, ◌++◌, filter, map, Option, Some, None, IsSomeAnd, MatchOption, is_some, option_and_then}
use Rattle.std.specs.Option.{option_flatten}
use Rattle.std.specs.Ordering.{is_eq}
use Rattle.base_io.specs.declared.keeper.Change.{Change}
use Rattle.base_io.specs.declared.keeper.Change.TheVariants as change
use Rattle.base_io.specs.Changes.{IsOrdinary, Rises, changed, remove, value_of}
use Rattle.base_io.specs.Rows.{Pair, key_cmp, put}
use Rattle.store_history.specs.History.{ArePast, IsHistory, base_key, base_of, eight_bytes, head_key, height_in, kept_key, kept_value, last_of, stored_base, visible}

-- ---- changes

-- a change of a row: its key, and the value that it puts there, if any
abbrev pub Seen : Type 0
Seen = List ℕ × Option (List ℕ)

abbrev pub seen : Change → Seen
seen (change.Put row) = (row.key.items, Some row.value.items)
seen (change.Remove key) = (key.items, None)

abbrev pub made_by : List ℕ → Option (List ℕ) → List Pair → List Pair
made_by key None = remove key
made_by key (Some value) = put (key, value)

-- the rows after the changes, made in turn
abbrev pub made : List Seen → List Pair → List Pair
made [] rows = rows
made (c ∷ changes) rows = made changes (made_by c.0 c.1 rows)

-- what the changes make of the row of a key, where they change it
abbrev pub change_at : List ℕ → List Seen → Option (Option (List ℕ))
change_at key [] = None
change_at key (c ∷ changes) = if is_eq (key_cmp c.0 key) then Some c.1 else change_at key changes

-- the height of a commit: the one that its head names
abbrev pub height_of : List Seen → Option ℕ
height_of changes = option_and_then height_in (option_flatten (change_at head_key changes))

-- ---- what a commit changes

-- what is noted of a change: what the row was before the commit of this height
abbrev pub note : ℕ → List Pair → Seen → Seen
note height rows c = (kept_key height c.0, Some (kept_value (value_of c.0 rows)))

-- the base is put, unless it stands
abbrev pub put_base : Bool → ℕ → List Seen
put_base true height = []
put_base false height = (base_key, Some (eight_bytes height)) ∷ []

-- whether a key is that of a row that keeps what a visible row was
abbrev pub is_kept : List ℕ → Bool
is_kept [] = false
is_kept (first ∷ others) = first == 96

-- the row is removed
abbrev pub removal : Pair → Seen
removal p = (p.0, None)

-- this height stands as the base
abbrev pub is_base : ℕ → Option ℕ → Bool
is_base height None = false
is_base height (Some base) = base == height

-- A commit goes on from the last height to a greater one: each change is noted. Where no base
-- stands, the last height is put as the base.
abbrev pub going_on : List Pair → ℕ → ℕ → List Seen → List Seen
going_on rows last height changes =
    put_base (is_some (stored_base rows)) last ++ (map (note height rows) changes ++ changes)

-- Any other commit begins a new history: all that was kept goes, and its height is the base.
abbrev pub anew : List Pair → ℕ → List Seen → List Seen
anew rows height changes =
    map removal (filter (λ p. is_kept p.0) rows)
    ++ (put_base (is_base height (stored_base rows)) height ++ changes)

-- the changes that a commit of this height makes, where the head names this last height or does
-- not stand
abbrev pub changes_from : List Pair → Option ℕ → ℕ → List Seen → List Seen
changes_from rows None height changes = anew rows height changes
changes_from rows (Some last) height changes =
    if nat_lt last height then going_on rows last height changes else anew rows height changes

-- the same, where the height is named
abbrev pub changes_at : List Pair → List Seen → Option ℕ → List Seen
changes_at rows changes None = changes
changes_at rows changes (Some height) = changes_from rows (last_of rows) height changes

-- the changes that a commit makes, with those of the history
abbrev pub all_changes : List Pair → List Seen → List Seen
all_changes rows changes = changes_at rows changes (height_of changes)

-- the rows after a commit
abbrev pub committed : List Seen → List Pair → List Pair
committed changes rows = made (all_changes rows changes) rows

-- ---- commits, the latest first

abbrev pub after : List (List Change) → List Pair → List Pair
after [] rows = rows
after (c ∷ earlier) rows = committed (map seen c) (after earlier rows)

-- whether a commit has at most this height
abbrev pub is_at_most : ℕ → Option ℕ → Bool
is_at_most height None = false
is_at_most height (Some n) = if nat_lt height n then false else true

-- the rows after the last commit of at most a height
abbrev pub last_at : ℕ → List (List Change) → List Pair → Option (List Pair)
last_at height [] rows = None
last_at height (c ∷ earlier) rows =
    if is_at_most height (height_of (map seen c))
    then Some (after (c ∷ earlier) rows)
    else last_at height earlier rows

-- a commit that every keeper takes, of a height that is a number of 64 bits
abbrev pub IsCommit : List Change → Type 0
IsCommit c = IsOrdinary c × IsSomeAnd (height_of (map seen c)) (λ n. n < 2 ^ 64)

abbrev pub AreCommits : List (List Change) → Type 0
AreCommits [] = Unit {0}
AreCommits (c ∷ earlier) = IsCommit c × AreCommits earlier

-- After commits to a history, the past rows at a height from the base to the last one are the
-- visible rows that stood after the last commit of at most that height; where there was none, they
-- are what they were at first.
abbrev pub PastIsWhatStood : Type 0
PastIsWhatStood =
    (rows : List Pair) → Rises rows → IsHistory rows →
    (commits : List (List Change)) → AreCommits commits →
    (last : ℕ) → last_of (after commits rows) ≡ Some last →
    (height : ℕ) → base_of (after commits rows) last ≤ height → height ≤ last →
    (past : List Pair) → ArePast (after commits rows) height past →
    MatchOption (last_at height commits rows)
    (ArePast rows height past)
    (λ stood. past ≡ visible stood)

-- What past rows are is told: there are no two lists of them.
abbrev pub PastIsOne : Type 0
PastIsOne =
    (rows : List Pair) (height : ℕ) (past other : List Pair) →
    ArePast rows height past → ArePast rows height other → past ≡ other

-- A commit keeps the history of its form, makes its height the last one, and its visible rows are
-- what the changes make of those before.
abbrev pub CommitsKeepHistory : Type 0
CommitsKeepHistory =
    (rows : List Pair) → Rises rows → IsHistory rows → (c : List Change) → IsCommit c →
    Rises (committed (map seen c) rows) × IsHistory (committed (map seen c) rows)
    × (last_of (committed (map seen c) rows) ≡ height_of (map seen c))
    × (visible (committed (map seen c) rows) ≡ changed c (visible rows))
