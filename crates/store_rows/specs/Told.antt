-- What rows tell before they are read.
use Rattle.std.specs.Prelude.{ℕ, Bool, false, ◌==◌, if◌then◌else◌, List, [], ◌∷◌, length, Option, Some, None}
use Rattle.base_io.specs.Rows.{Pair}
use Rattle.base_roles.specs.declared.items.Item.{Item}
use Rattle.base_roles.specs.declared.items.Item.TheVariants as item
use Rattle.store_rows.specs.declared.format.Format.{Format}
use Rattle.store_rows.specs.declared.format.Format.TheVariants.{First, Second}

-- the format whose number stands in front of these bytes
abbrev pub format_in : List ℕ → Option Format
format_in [] = None
format_in (number ∷ others) = if number == 1 then Some First else (if number == 2 then Some Second else None)

-- the key of the last height and time
abbrev pub is_head_key : List ℕ → Bool
is_head_key [] = false
is_head_key (byte ∷ []) = byte == 1
is_head_key (byte ∷ next ∷ others) = false

-- the format of rows, by the number in front of the last height
abbrev pub format_told : List Pair → Option Format
format_told [] = None
format_told (row ∷ rows) = if is_head_key row.0 then format_in row.1 else format_told rows

-- how many places the window of a signing record has
abbrev pub window_of : Item → Option ℕ
window_of (item.Signing cons info ring) = Some (length ring)
window_of i = None
