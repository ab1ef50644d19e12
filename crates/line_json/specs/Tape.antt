-- When `serde_json` reads the tree that a tape holds, and what that tree is.
use Rattle.std.specs.Prelude.{◌≡◌, ℕ, ◌+◌, ◌-◌, ◌^◌, ◌&&◌, ◌==◌, List, [], ◌∷◌, length, slice_index, Bool, true, nat_lt, Option, Some, option_and_then, unwrap_or, is_some, None, if◌then◌else◌}
use Rattle.fast_float.specs.Text.{minus, scan, digits_of}
use Rattle.json.specs.Token as token
use Rattle.json.specs.Json as json
use Rattle.json.specs.Find.{BeginsWith, InItems}
use Rattle.serde_json.specs.Find.{as_array}
use Rattle.serde_json.specs.Data.{Data, null, Items, no_items}
use Rattle.serde_json.specs.Read.{is_integer, of_json, of_items}
use Rattle.line_json.specs.Members.{is_among}

-- the whole number of 64 bits that a text spells without a sign, a point or an exponent
abbrev pub count_of : List ℕ → Option ℕ
count_of s = if slice_index s 0 == minus then None else (if is_integer (scan s) && nat_lt (digits_of (scan s)) (2 ^ 64) then Some (digits_of (scan s)) else None)

abbrev pub is_count : List ℕ → Bool
is_count s = is_some (count_of s)

-- each number is such a text, and no more brackets than `room` are open at once
abbrev pub is_plain : ℕ → List token.Token → Bool
is_plain room [] = true
is_plain room (token.begin_object ∷ ts) = nat_lt 0 room && is_plain (room - 1) ts
is_plain room (token.end_object ∷ ts) = is_plain (room + 1) ts
is_plain room (token.begin_array ∷ ts) = nat_lt 0 room && is_plain (room - 1) ts
is_plain room (token.end_array ∷ ts) = is_plain (room + 1) ts
is_plain room (token.key s ∷ ts) = is_plain room ts
is_plain room (token.string s ∷ ts) = is_plain room ts
is_plain room (token.number s ∷ ts) = is_count s && is_plain room ts
is_plain room (token.boolean b ∷ ts) = is_plain room ts
is_plain room (token.null ∷ ts) = is_plain room ts
is_plain room (token.bad ∷ ts) = is_plain room ts

-- the tokens begin with the tree d
abbrev pub Spells : List token.Token → Data → Type 0
Spells ts d = (j : json.Json) × BeginsWith ts j × (of_json j ≡ Some d)

-- the tree that the tokens begin with
unfoldable pub tree_at : List token.Token → Data
tree_at ts = unwrap_or (option_and_then (λ p. of_json p.0) (json.value (length ts) ts)) null

-- a tree begins here, and serde_json reads it
abbrev pub IsTree : List token.Token → Type 0
IsTree ts = (d : Data) × Spells ts d

-- the elements of an array
abbrev pub elements_of : Data → Items
elements_of d = unwrap_or (as_array d) no_items

-- the elements that are left, up to the bracket that closes the array
abbrev pub elements_at : List token.Token → Items
elements_at ts = elements_of (tree_at (token.begin_array ∷ ts))

-- elements are left here, or none, and serde_json reads them
abbrev pub AreElements : List token.Token → Type 0
AreElements ts = (js : json.Items) × InItems ts js × (ds : Items) × (of_items js ≡ Some ds)

-- each name of a member is one of these
abbrev pub keys_among : List (List ℕ) → json.Members → Bool
keys_among names json.no_members = true
keys_among names (json.member k j ms) = is_among names k && keys_among names ms
