-- Signing records as items of the state.
use Rattle.std.specs.Prelude.{ℕ, ◌==◌, ◌&&◌, Bool, true, false, List, [], ◌∷◌, map, Option, Some, None, option_map}
use Rattle.base_roles.specs.declared.entities.SigningInfo.{SigningInfo}
use Rattle.base_roles.specs.declared.items.Item.{Item}
use Rattle.base_roles.specs.declared.items.Item.TheVariants as item
use Rattle.base_roles.specs.Items.{no_info}
use Rattle.mod_staking.specs.Items.{same_flag}
use Rattle.base_records.specs.Items.{rows_of}
use Rattle.mod_signing.specs.declared.entry.Entry.{Entry}
use Rattle.mod_signing.specs.Kept.{Signed, Kept}
use Rattle.mod_signing.specs.Rings.{Rows, ring_of}

-- the item of a record
abbrev pub signing_item : List ℕ → Signed → Item
signing_item cons s = item.Signing cons s.info s.ring

-- the same with its key alone
abbrev pub signing_gone : List ℕ → Item
signing_gone cons = item.Signing cons no_info []

-- whether two values are one
abbrev pub same_info : SigningInfo → SigningInfo → Bool
same_info a b = ((((a.start == b.start) && (a.counted == b.counted)) && (a.missed == b.missed)) && (a.jailed_until == b.jailed_until)) && same_flag a.tombstoned b.tombstoned

abbrev pub same_ring : List Bool → List Bool → Bool
same_ring [] [] = true
same_ring [] (b ∷ bs) = false
same_ring (a ∷ rest) [] = false
same_ring (a ∷ rest) (b ∷ bs) = same_flag a b && same_ring rest bs

abbrev pub same_signed : Signed → Signed → Bool
same_signed a b = same_info a.info b.info && same_ring a.ring b.ring

-- the key and the value of an item, where it is a signing record
abbrev pub signing_entry : Item → Option (List ℕ × Signed)
signing_entry (item.Signing cons info ring) = Some (cons, record { info = info; ring = ring })
signing_entry _ = None

-- the items of records
abbrev pub items_of : Kept → List Item
items_of kept = rows_of signing_item kept

-- whether an item is one of these
abbrev pub is_signing : Item → Bool
is_signing (item.Signing cons info ring) = true
is_signing _ = false

-- the record of an entry, over rows
abbrev pub signed_over : Rows → List ℕ → Entry → Signed
signed_over rows cons e = record { info = e.info; ring = ring_of rows cons e.places }

-- what is listed as touched, as records over the rows that were settled
abbrev pub touched_over : Rows → List (List ℕ × Option Entry) → List (List ℕ × Option Signed)
touched_over rows touched = map (λ t. (t.0, option_map (signed_over rows t.0) t.1)) touched
