-- A history among the rows of a keeper: what it keeps of the rows that commits changed, and the
-- past rows that it tells.
use Rattle.std.specs.Prelude.{◌≡◌, ℕ, zero, suc, ◌+◌, ◌-◌, ◌^◌, ◌<◌, ◌≤◌, Bool, true, not, ◌==◌, ◌||◌, nat_lt, if◌then◌else◌, List, [], ◌∷◌, ◌++◌, drop, filter, length, take, Option, Some, None, option_and_then, unwrap_or, IfSome, IsSomeAnd}
use Rattle.std.specs.Int.{w64, from_be_bytes, to_be_bytes}
use Rattle.std.specs.List.{AllByRecursion}
use Rattle.base_io.specs.Rows.{Pair}
use Rattle.base_io.specs.Changes.{Rises, value_of}

-- ---- the rows that a history has for itself

-- a number in eight bytes, the highest first
unfoldable pub eight_bytes : ℕ → List ℕ
eight_bytes n = to_be_bytes w64 n

-- the number that eight bytes spell
unfoldable pub number_in : List ℕ → ℕ
number_in bytes = from_be_bytes w64 bytes

-- the key of the head, whose value names the last height
abbrev pub head_key : List ℕ
head_key = 1 ∷ []

-- the key of the row that has the base, the least height of which the history tells
abbrev pub base_key : List ℕ
base_key = 97 ∷ []

-- the key of the row that keeps what the visible row of a key was before the commit of a height
abbrev pub kept_key : ℕ → List ℕ → List ℕ
kept_key height key = 96 ∷ (eight_bytes height ++ key)

-- the value of such a row: no row stood, or one of this value
abbrev pub kept_value : Option (List ℕ) → List ℕ
kept_value None = 0 ∷ []
kept_value (Some value) = 1 ∷ value

-- what such a value keeps
abbrev pub was : List ℕ → Option (List ℕ)
was [] = None
was (zero ∷ rest) = None
was (suc tag ∷ rest) = Some rest

-- the height and the visible key in the key of such a row
abbrev pub kept_height : List ℕ → ℕ
kept_height key = number_in (take 8 (drop 1 key))

abbrev pub kept_name : List ℕ → List ℕ
kept_name key = drop 9 key

-- whether a key is of none of these rows
abbrev pub is_visible : List ℕ → Bool
is_visible [] = true
is_visible (first ∷ others) = not (first == 96 || first == 97)

-- the rows without those of the history
abbrev pub visible : List Pair → List Pair
visible = filter (λ p. is_visible p.0)

-- ---- heights

-- the number that the first eight bytes spell
abbrev pub number_at : List ℕ → Option ℕ
number_at bytes = if nat_lt (length bytes) 8 then None else Some (number_in (take 8 bytes))

-- the height that a value of the head names: eight bytes behind the first
abbrev pub height_in : List ℕ → Option ℕ
height_in [] = None
height_in (form ∷ rest) = number_at rest

-- the last height, where the head stands
abbrev pub last_of : List Pair → Option ℕ
last_of rows = option_and_then height_in (value_of head_key rows)

-- the height in a value of the row with the base: eight bytes
abbrev pub base_in : List ℕ → Option ℕ
base_in value = if length value == 8 then number_at value else None

-- the base that stands
abbrev pub stored_base : List Pair → Option ℕ
stored_base rows = option_and_then base_in (value_of base_key rows)

-- the base: the one that stands, and without one the last height
abbrev pub base_of : List Pair → ℕ → ℕ
base_of rows last = unwrap_or (stored_base rows) last

-- ---- the form of a history

-- the first byte of the key
abbrev pub Begins : ℕ → List ℕ → Type 0
Begins byte [] = ⊥
Begins byte (first ∷ others) = first ≡ byte

-- A row that keeps what a visible row was: key and value are what its height, its visible key and
-- what it keeps make, and its height is above the base and at most the last one.
pub record IsKept (base last : Option ℕ) (p : Pair) : Type 0 where
  pub key : p.0 ≡ kept_key (kept_height p.0) (kept_name p.0)
  pub name : is_visible (kept_name p.0) ≡ true
  pub value : p.1 ≡ kept_value (was p.1)
  pub above : IsSomeAnd base (λ b. b < kept_height p.0)
  pub within : IsSomeAnd last (λ l. kept_height p.0 ≤ l)

-- The row with the base, which is at most the last height.
pub record IsBase (base last : Option ℕ) (p : Pair) : Type 0 where
  pub key : p.0 ≡ base_key
  pub value : length p.1 ≡ 8
  pub within : IsSomeAnd base (λ b. IsSomeAnd last (λ l. b ≤ l))

-- a row of the history's own is of either form
pub record IsFormed (base last : Option ℕ) (p : Pair) : Type 0 where
  pub kept : Begins 96 p.0 → IsKept base last p
  pub based : Begins 97 p.0 → IsBase base last p

-- a value of the head that names a height, a number of 64 bits
abbrev pub IsHead : List ℕ → Type 0
IsHead value = IsSomeAnd (height_in value) (λ height. height < 2 ^ 64)

-- Rows in which a history is of its form: the head, where it stands, names a height, and each row
-- of the history's own is of its form. So rows that keep something stand only beside a base, and a
-- base only beside a head.
pub record IsHistory (rows : List Pair) : Type 0 where
  pub head : IfSome (value_of head_key rows) IsHead
  pub formed : AllByRecursion (IsFormed (stored_base rows) (last_of rows)) rows

-- ---- past rows

-- what a row keeps, where it stands, and else this
abbrev pub kept_or : Option (List ℕ) → Option (List ℕ) → Option (List ℕ)
kept_or None other = other
kept_or (Some value) other = was value

-- What the visible row of a key was before the first commit that changed it, among those of so many
-- heights from this one on; where none changed it, what it is now.
abbrev pub value_before : List Pair → List ℕ → ℕ → ℕ → Option (List ℕ)
value_before rows key zero height = value_of key rows
value_before rows key (suc more) height =
    kept_or (value_of (kept_key height key) rows) (value_before rows key more (height + 1))

-- The value of a visible key at a past height: what is kept of it at the least height above, up to
-- the last one, and else the value that it has.
abbrev pub past_value : List Pair → ℕ → List ℕ → Option (List ℕ)
past_value rows height key =
    value_before rows key (unwrap_or (last_of rows) 0 - height) (height + 1)

-- These are the past rows at a height: just the visible keys that had a value then, each with that
-- value.
pub record ArePast (rows : List Pair) (height : ℕ) (past : List Pair) : Type 0 where
  pub rises : Rises past
  pub are_visible : AllByRecursion (λ p. is_visible p.0 ≡ true) past
  pub values : (key : List ℕ) → is_visible key ≡ true →
      value_of key past ≡ past_value rows height key
