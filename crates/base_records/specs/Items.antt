-- Entries of a table as items of the state, and how a table differs from what was settled.
use Rattle.std.specs.Prelude.{◌≡◌, if◌then◌else◌, Bool, true, false, List, map, Option, Some, None, is_some, Contains}
use Rattle.std.specs.declared.cmp.Ordering.{Ordering}
use Rattle.std.specs.declared.cmp.Ordering.TheVariants.{Equal}
use Rattle.std.specs.List.{filter_map}
use Rattle.base_table.specs.Tabled.{value_at}
use Rattle.base_roles.specs.declared.items.Item.{Item}
use Rattle.base_roles.specs.Items.{key_of}

-- an item for each entry
abbrev pub rows_of : {K V : Type 0} → (K → V → Item) → List (K × V) → List Item
rows_of of entries = map (λ e. of e.0 e.1) entries

-- any value may stand under a key
abbrev pub AnyValue : {K V : Type 0} → K → V → Type 0
AnyValue key value = Unit {0}

-- each value fits its key
abbrev pub AreFit : {K V : Type 0} → (K → V → Type 0) → List (K × V) → Type 0
AreFit {K = K} {V = V} Fits entries = (k : K) (v : V) → Contains entries (k, v) → Fits k v

module _ {K V : Type 0} (of : K → V → Item) (gone : K → Item) (same : V → V → Bool) where
  -- the change of a key, from the value that was settled to the present one
  abbrev pub change_of : K → Option V → Option V → Option (Item × Bool)
  change_of k None None = None
  change_of k None (Some v) = Some (of k v, true)
  change_of k (Some was) None = Some (gone k, false)
  change_of k (Some was) (Some v) = if same was v then None else Some (of k v, true)

-- the changes of the touched keys
abbrev pub changes_of : {K V : Type 0} → (K → K → Ordering) → (K → V → Item) → (K → Item) → (V → V → Bool) → List (K × Option V) → List (K × V) → List (Item × Bool)
changes_of cmp of gone same touched entries = filter_map (λ t. change_of of gone same t.0 t.1 (value_at cmp entries t.0)) touched

-- What a kind of records is told by: the order of its keys, the values that fit a key, the item of a key and a value, that
-- of a key alone, a test of two values, and the key and the value of an item, which has none where it is of another kind.
pub record IsRowed {K V : Type 0} (cmp : K → K → Ordering) (Fits : K → V → Type 0) (of : K → V → Item) (gone : K → Item) (same : V → V → Bool) (entry : Item → Option (K × V)) : Type 0 where
  -- keys that compare equal are one key
  pub exact : (a b : K) → cmp a b ≡ Equal → a ≡ b
  -- of an item that was made of a key and a value these are read, and of no other
  pub read : (k : K) (v : V) → Fits k v → entry (of k v) ≡ Some (k, v)
  pub made : (i : Item) (k : K) (v : V) → entry i ≡ Some (k, v) → (i ≡ of k v) × Fits k v
  -- its key tells the kind of an item
  pub kind : (i : Item) → is_some (entry (key_of i)) ≡ is_some (entry i)
  -- the item of a key alone is the key of its items, and tells the key
  pub keyed : (k : K) (v : V) → Fits k v → key_of (of k v) ≡ gone k
  pub gone_keyed : (k : K) → key_of (gone k) ≡ gone k
  pub alone : (k q : K) → gone k ≡ gone q → k ≡ q
  -- the test of two values is right
  pub yes : (v w : V) → same v w ≡ true → v ≡ w
  pub no : (v w : V) → same v w ≡ false → v ≡ w → ⊥
