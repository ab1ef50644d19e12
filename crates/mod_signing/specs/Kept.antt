-- What the window keeps in its tables, how it is seen with its open marks, and what one change makes of it.
use Rattle.std.specs.Prelude.{◌≡◌, ℕ, Bool, false, List, [], ◌∷◌, ◌++◌, length, Option, None}
use Rattle.std.specs.List.Sorted.{IsStrictlySortedBy}
use Rattle.std.specs.Map.{keys_of}
use Rattle.base_types.specs.Orders.{cons_cmp}
use Rattle.base_table.specs.Tabled.{Tabled, value_at}
use Rattle.base_roles.specs.declared.entities.SigningInfo.{SigningInfo}
use Rattle.base_roles.specs.Entries.{at, with}
use Rattle.base_records.specs.Marks.{side_by_side}
use Rattle.mod_signing.specs.declared.entry.Entry.{Entry}
use Rattle.mod_signing.specs.Rings.{Rows, ring_of, row_cmp}

-- a signing record as it is kept: its info, and the last votes by their places in the window, true where one was missed
pub record Signed : Type 0 where
  pub info : SigningInfo
  pub ring : List Bool

-- the signing records by consensus address
abbrev pub Kept : Type 0
Kept = List (List ℕ × Signed)

-- the record of a consensus address
abbrev pub signed_of : Kept → List ℕ → Option Signed
signed_of kept cons = at cons_cmp kept cons

-- with this record of a consensus address
abbrev pub with_signed : List ℕ → Signed → Kept → Kept
with_signed cons s kept = with cons_cmp kept cons s

-- the keys ascend
abbrev pub AreInOrder : Kept → Type 0
AreInOrder kept = IsStrictlySortedBy cons_cmp (keys_of kept)

-- ---- marks

-- What the window is seen as: its records, those at each open mark with the latest last, those at the last settling, and
-- whether memory was wanting in a change.
pub record Windowed : Type 0 where
  pub kept : Kept
  pub marks : List Kept
  pub settled : Kept
  pub spent : Bool

-- what stays while records change: the open marks, and what was settled
pub record Behind : Type 0 where
  pub marks : List Kept
  pub settled : Kept

abbrev pub behind : Windowed → Behind
behind w = record { marks = w.marks; settled = w.settled }

-- nothing stands yet
abbrev pub new_window : Windowed
new_window = record { kept = []; marks = []; settled = []; spent = false }

-- with other records
abbrev pub keeping : Kept → Windowed → Windowed
keeping k w = record w { kept = k }

-- with one more mark
abbrev pub with_mark : Windowed → Windowed
with_mark w = record w { marks = w.marks ++ w.kept ∷ [] }

-- the new one is the old one gone back to its latest mark, which is closed
pub record IsGoneBack (old new : Windowed) : Type 0 where
  pub restored : new.marks ++ new.kept ∷ [] ≡ old.marks
  pub rest : new ≡ record old { kept = new.kept; marks = new.marks }

-- the new one is the old one with its latest mark closed
pub record IsForgotten (old new : Windowed) : Type 0 where
  pub closed : (last : Kept) × (new.marks ++ last ∷ [] ≡ old.marks)
  pub rest : new ≡ record old { marks = new.marks }

-- ---- two tables

-- each entry with the first places of its ring
abbrev pub kept_of : List (List ℕ × Entry) → Rows → Kept
kept_of [] rows = []
kept_of (e ∷ es) rows = (e.0, record { info = e.1.info; ring = ring_of rows e.0 e.1.places }) ∷ kept_of es rows

-- what is seen of two tables
abbrev pub windowed : Tabled (List ℕ) Entry → Tabled (ℕ × List ℕ) ℕ → Bool → Windowed
windowed entries rows spent = record {
  kept = kept_of entries.entries rows.entries;
  marks = side_by_side kept_of entries.marks rows.marks;
  settled = kept_of entries.settled rows.settled;
  spent = spent;
}

-- where a row is listed as touched, so is the entry of its consensus address
abbrev pub AreTouched : List (List ℕ × Option Entry) → List ((ℕ × List ℕ) × Option ℕ) → Type 0
AreTouched entries rows = (cons : List ℕ) (number : ℕ) → value_at cons_cmp entries cons ≡ None → value_at row_cmp rows (number, cons) ≡ None

-- two tables that are marked together
pub record HaveSameMarks (entries : Tabled (List ℕ) Entry) (rows : Tabled (ℕ × List ℕ) ℕ) : Type 0 where
  pub depth : length rows.marks ≡ length entries.marks
  pub touched : AreTouched entries.touched rows.touched
