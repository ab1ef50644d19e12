-- The items of which the row is the same in both formats.
use Rattle.std.proofs.Common.{◌≡◌, ◌∙◌, ℕ, zero, suc, ◌+◌, ◌*◌, ◌≤◌, ◌<◌, Bool, true, false, List, [], ◌∷◌, ◌++◌, length, take, drop, replicate, refl, sym, ap, ap₂, arith, flat_map}
use Rattle.base_io.specs.Rows.{Pair}
use Rattle.base_roles.specs.declared.items.Item.{Item}
use Rattle.base_roles.specs.declared.items.Item.TheVariants as item
use Rattle.store_rows.specs.declared.format.Format.TheVariants.{First, Second}
use Rattle.store_rows.specs.Fields.{four_bytes, list_bytes, missed_of, missed_ring_bytes, packed, packed_len, packed_ring_bytes, places_byte}
use Rattle.store_rows.{specs.{Alike.IsAlike, Rows.{info_bytes, key_bytes, row_in}}, proofs.MissedLemmas.none_missed}

-- a byte of signed places
byte_signed : (k n : ℕ) → places_byte (take k (replicate n false)) ≡ 0
byte_signed zero n = refl
byte_signed (suc k) zero = refl
byte_signed (suc k) (suc n) = omega (arith, byte_signed k n)

drop_signed : (k n : ℕ) → (m : ℕ) × (drop k (replicate n false) ≡ replicate m false)
drop_signed zero n = (n, refl)
drop_signed (suc k) zero = (0, refl)
drop_signed (suc k) (suc n) = drop_signed k n

packed_signed : (k n : ℕ) → packed k (replicate n false) ≡ replicate k 0
packed_signed zero n = refl
packed_signed (suc k) n =
    let (m, left) = drop_signed 8 n in
    ap₂ (λ (b : ℕ) (bs : List ℕ). b ∷ bs) (byte_signed 8 n) (ap (packed k) left ∙ packed_signed k m)

no_places : list_bytes four_bytes [] ≡ replicate 4 0
unfolding four_bytes
no_places = refl

rings_alike : (ring : List Bool) → missed_of ring ≡ [] → 25 ≤ length ring → length ring ≤ 32 → packed_ring_bytes ring ≡ missed_ring_bytes ring
rings_alike ring none many few =
    let n = length ring in
    let four : packed_len n ≡ 4 = omega (arith, many, few) in
    let signed : packed (packed_len n) ring ≡ replicate 4 0 = ap₂ packed four (none_missed 0 ring none) ∙ packed_signed 4 n in
    ap (λ (bs : List ℕ). four_bytes n ++ bs) (signed ∙ sym no_places ∙ ap (list_bytes four_bytes) (sym none))

pub alike : (i : Item) → IsAlike i → row_in First i ≡ row_in Second i
alike (item.Head height time) h = absurd h
alike (item.Parameters params) h = refl
alike (item.Balance account denom amount) h = refl
alike (item.Supply denom amount) h = refl
alike (item.Validator validator) h = refl
alike (item.Delegation operator delegator shares) h = refl
alike (item.Unbonding delegator operator entries) h = refl
alike (item.Redelegation delegator source target entries) h = refl
alike (item.Signing cons info ring) h = ap (λ (bs : List ℕ). (key_bytes (item.Signing cons info ring), info_bytes info ++ bs)) (rings_alike ring h.0 h.1 h.2)
alike (item.Purse operator purse) h = refl
alike (item.Pool coins) h = refl
alike (item.Withdraw delegator to) h = refl
alike (item.CurrentPeriod operator period) h = refl
alike (item.Historical operator period history) h = refl
alike (item.Start operator delegator info) h = refl
alike (item.Event operator event) h = refl
