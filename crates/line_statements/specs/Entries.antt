-- The entries of a statement, as its line spells them and as they are written.
use Rattle.std.specs.Prelude.{ℕ, List, [], ◌∷◌, map, bytes_eq, codes, if◌then◌else◌, Option, Some, None, Result, Ok}
use Rattle.serde_json.specs.Data.{Data, array, string}
use Rattle.serde_json.specs.View.{items_of}
use Rattle.base_coins.specs.Steps.{◌>>=◌}
use Rattle.base_messages.specs.declared.faults.LineFault.{LineFault}
use Rattle.line_json.specs.Members.{amount_at, decimal_at, member_at, only_named, spelled_by}
use Rattle.line_json.specs.Coin.{dec_coins_at}
use Rattle.line_json.specs.Nested.{list_at}
use Rattle.line_json.specs.Line.{object_of}
use Rattle.line_json.specs.Values.{dec_coins_data, decimal_data, whole_data}
use Rattle.mod_statement.specs.declared.entry.Entry.{Entry}
use Rattle.mod_statement.specs.declared.entry.Entry.TheVariants as entry
use Rattle.line_statements.specs.declared.kind.EntryKind.{EntryKind}
use Rattle.line_statements.specs.declared.kind.EntryKind.TheVariants as kind

-- ---- what is read

-- the kind of this name
unfoldable pub kind_of : List ℕ → Option EntryKind
kind_of name =
    if bytes_eq name (codes "started") then Some kind.Started
    else (if bytes_eq name (codes "allocated") then Some kind.Allocated
    else (if bytes_eq name (codes "ended") then Some kind.Ended
    else (if bytes_eq name (codes "slashed") then Some kind.Slashed
    else (if bytes_eq name (codes "touched") then Some kind.Touched else None))))

-- the kind of an entry
abbrev pub kind_at : Data → Result EntryKind LineFault
kind_at = member_at (spelled_by kind_of) 131 (codes "kind")

-- the validator's tokens
abbrev pub tokens_at : Data → Result ℕ LineFault
tokens_at = amount_at 133 (codes "tokens")

-- the rewards of a delegation begin
unfoldable pub started_of : Data → Result Entry LineFault
started_of d = do
  shares ← decimal_at 132 (codes "shares") d
  tokens ← tokens_at d
  total ← decimal_at 135 (codes "total") d
  only ← only_named (codes "kind" ∷ codes "shares" ∷ codes "tokens" ∷ codes "total" ∷ []) d
  Ok (entry.Started shares tokens total)

-- the validator's delegators get coins
unfoldable pub allocated_of : Data → Result Entry LineFault
allocated_of d = do
  coins ← dec_coins_at 136 (codes "coins") d
  tokens ← tokens_at d
  only ← only_named (codes "kind" ∷ codes "coins" ∷ codes "tokens" ∷ []) d
  Ok (entry.Allocated coins tokens)

-- a slash burns tokens
unfoldable pub slashed_of : Data → Result Entry LineFault
slashed_of d = do
  burned ← amount_at 137 (codes "burned") d
  tokens ← tokens_at d
  only ← only_named (codes "kind" ∷ codes "burned" ∷ codes "tokens" ∷ []) d
  Ok (entry.Slashed burned tokens)

-- an entry that has its kind alone
abbrev pub alone : Entry → Data → Result Entry LineFault
alone e d = only_named (codes "kind" ∷ []) d >>= λ only. Ok e

-- the entry of this kind
abbrev pub entry_of_kind : EntryKind → Data → Result Entry LineFault
entry_of_kind kind.Started d = started_of d
entry_of_kind kind.Allocated d = allocated_of d
entry_of_kind kind.Ended d = alone entry.Ended d
entry_of_kind kind.Slashed d = slashed_of d
entry_of_kind kind.Touched d = alone entry.Touched d

-- the entry of a tree
unfoldable pub entry_of : Data → Result Entry LineFault
entry_of d = do
  found ← kind_at d
  entry_of_kind found d

-- the entries of a statement, each walked in full
abbrev pub entries_at : Data → Result (List Entry) LineFault
entries_at = list_at entry_of 130 (codes "entries")

-- ---- what is written

-- the kind of an entry, by its name
abbrev pub of_kind : List ℕ → List ℕ × Data
of_kind name = (codes "kind", string name)

-- an entry, by its kind
abbrev pub entry_data : Entry → Data
entry_data (entry.Started shares tokens total) = object_of (
    of_kind (codes "started")
    ∷ (codes "shares", decimal_data shares)
    ∷ (codes "tokens", whole_data tokens)
    ∷ (codes "total", decimal_data total)
    ∷ [])
entry_data (entry.Allocated coins tokens) = object_of (
    of_kind (codes "allocated")
    ∷ (codes "coins", dec_coins_data coins)
    ∷ (codes "tokens", whole_data tokens)
    ∷ [])
entry_data entry.Ended = object_of (of_kind (codes "ended") ∷ [])
entry_data (entry.Slashed burned tokens) = object_of (
    of_kind (codes "slashed")
    ∷ (codes "burned", whole_data burned)
    ∷ (codes "tokens", whole_data tokens)
    ∷ [])
entry_data entry.Touched = object_of (of_kind (codes "touched") ∷ [])

-- entries, in their order
abbrev pub entries_data : List Entry → Data
entries_data es = array (items_of (map entry_data es))
