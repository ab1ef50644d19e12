-- Signing records as items: how they are told apart, one more, and the changes since the last settling.
use Rattle.std.proofs.Common.{◌≡◌, ◌∙◌, ℕ, Bool, true, false, List, [], ◌∷◌, refl, sym, ap, inl, inr, ◌⊎◌, ◌&&◌, ◌==◌, ◌≢◌, is_some, length, Result, Ok, Err, OnOk, OnErr}
use Rattle.std.specs.{BTreeMap.insert_entry, List.Sorted.IsStrictlySortedBy, Map.keys_of}
use Rattle.std.proofs.lemmas.Map.Lookups.{exact_bytes}
use Rattle.base_types.specs.Orders.{cons_cmp}
use Rattle.base_roles.specs.{declared.{entities.SigningInfo.SigningInfo, items.Item.Item}, Items.{IsOnce, IsAdded}}
use Rattle.base_roles.specs.declared.items.Item.TheVariants as item
use Rattle.base_records.specs.{Kinds.{AreOf, IsByKey}, Items.{AnyValue, IsRowed}}
use Rattle.base_records.proofs.RowedLemmas.{IsOfKind, IsOfOther, rowed}
use Rattle.base_records.proofs.RowLemmas.{row-added, rows-of-kind, rows-told-once}
use Rattle.base_records.proofs.SameLemmas.{both, number, number_itself}
use Rattle.mod_staking.specs.Items.{same_flag}
use Rattle.mod_signing.specs.{Kept.{Signed, Kept}, Rings.{Rows, place_set, ring_of}}
use Rattle.mod_signing.specs.Items.{items_of, is_signing, same_info, same_ring, same_signed, signing_entry, signing_gone, signing_item}
use Rattle.mod_signing.proofs.{TableLemmas.cons_total, UptoLemmas.first_length}

-- ---- what is said of an answer

pub always : {A E P : Type 0} (r : Result A E) → P → OnOk r P
always (Ok a) p = p
always (Err e) p = tt

pub always-err : {A E P : Type 0} (r : Result A E) → P → OnErr r P
always-err (Ok a) p = tt
always-err (Err e) p = p

-- ---- the tests tell whether values are one

pub flag : (a b : Bool) → same_flag a b ≡ true → a ≡ b
flag true true h = refl
flag true false h = cc
flag false true h = cc
flag false false h = refl

pub flag_itself : (a : Bool) → same_flag a a ≡ true
flag_itself true = refl
flag_itself false = refl

info : (a b : SigningInfo) → same_info a b ≡ true → a ≡ b
info a b h =
    let d = both ((((a.start == b.start) && (a.counted == b.counted)) && (a.missed == b.missed)) && (a.jailed_until == b.jailed_until)) (same_flag a.tombstoned b.tombstoned) h in
    let c = both (((a.start == b.start) && (a.counted == b.counted)) && (a.missed == b.missed)) (a.jailed_until == b.jailed_until) d.0 in
    let m = both ((a.start == b.start) && (a.counted == b.counted)) (a.missed == b.missed) c.0 in
    let s = both (a.start == b.start) (a.counted == b.counted) m.0 in
    let is_start = number a.start b.start s.0 in
    let is_counted = number a.counted b.counted s.1 in
    let is_missed = number a.missed b.missed m.1 in
    let is_until = number a.jailed_until b.jailed_until c.1 in
    let is_tombstoned = flag a.tombstoned b.tombstoned d.1 in
    λ i. record { start = is_start i; counted = is_counted i; missed = is_missed i; jailed_until = is_until i; tombstoned = is_tombstoned i }

info_itself : (a : SigningInfo) → same_info a a ≡ true
info_itself a = λ i. (((number_itself a.start i && number_itself a.counted i) && number_itself a.missed i) && number_itself a.jailed_until i) && flag_itself a.tombstoned i

pub ring_same : (a b : List Bool) → same_ring a b ≡ true → a ≡ b
ring_same [] [] h = refl
ring_same [] (y ∷ b) h = cc
ring_same (x ∷ a) [] h = cc
ring_same (x ∷ a) (y ∷ b) h =
    let parts = both (same_flag x y) (same_ring a b) h in
    let first = flag x y parts.0 in
    let rest = ring_same a b parts.1 in
    λ i. first i ∷ rest i

pub ring_itself : (a : List Bool) → same_ring a a ≡ true
ring_itself [] = refl
ring_itself (x ∷ a) = λ i. flag_itself x i && ring_itself a i

signed_yes : (a b : Signed) → same_signed a b ≡ true → a ≡ b
signed_yes a b h =
    let parts = both (same_info a.info b.info) (same_ring a.ring b.ring) h in
    let first = info a.info b.info parts.0 in
    let rest = ring_same a.ring b.ring parts.1 in
    λ i. record { info = first i; ring = rest i }

signed_itself : (a : Signed) → same_signed a a ≡ true
signed_itself a = λ i. info_itself a.info i && ring_itself a.ring i

true_false : true ≡ false → ⊥
true_false e = absurd cc

signed_no : (a b : Signed) → same_signed a b ≡ false → a ≡ b → ⊥
signed_no a b h e = true_false (sym (signed_itself a) ∙ ap (λ x. same_signed a x) e ∙ h)

-- records whose infos differ, or whose rings do, are two
pub other-info : (a b : Signed) → same_info a.info b.info ≡ false → false ≡ same_signed a b
other-info a b h = sym (ap (λ x. x && same_ring a.ring b.ring) h)

pub other-ring : (a b : Signed) → same_info a.info b.info ≡ true → (a.ring ≡ b.ring → ⊥) → false ≡ same_signed a b
other-ring a b h differ = by (same_ring a.ring b.ring) refl
  where
    by : (r : Bool) → same_ring a.ring b.ring ≡ r → false ≡ same_signed a b
    by false e = sym (λ i. h i && e i)
    by true e = absurd (differ (ring_same a.ring b.ring e))

-- those whose infos are one are one where their rings are
pub as-rings : (a b : Signed) (r : Bool) → same_info a.info b.info ≡ true → (r ≡ true → a.ring ≡ b.ring) → (r ≡ false → a.ring ≡ b.ring → ⊥) → r ≡ same_signed a b
as-rings a b true h same differ = sym (λ i. h i && (ring_itself_as (same refl)) i)
  where
    ring_itself_as : a.ring ≡ b.ring → same_ring a.ring b.ring ≡ true
    ring_itself_as e = sym (ap (same_ring a.ring) e) ∙ ring_itself a.ring
as-rings a b false h same differ = other-ring a b h (differ refl)

-- rings of other lengths
pub other-length : (settled rows : Rows) (cons : List ℕ) (was places : ℕ) → was ≢ places → ring_of settled cons was ≡ ring_of rows cons places → ⊥
other-length settled rows cons was places ne e = ne (sym (first_length (place_set settled cons) was) ∙ ap length e ∙ first_length (place_set rows cons) places)

-- ---- what is asked of the kind

signing_or_not : (i : Item) → IsOfKind AnyValue signing_item i ⊎ IsOfOther signing_entry i
signing_or_not (item.Signing c f r) = inl (record { key = c; value = record { info = f; ring = r }; made = refl; fits = tt })
signing_or_not _ = inr (refl, refl)

alone : (k q : List ℕ) → signing_gone k ≡ signing_gone q → k ≡ q
alone k q e = cc

pub signings_are_rowed : IsRowed cons_cmp AnyValue signing_item signing_gone same_signed signing_entry
signings_are_rowed = rowed cons_cmp AnyValue signing_item signing_gone same_signed signing_entry
    signing_or_not (λ k v f. refl) (λ k. refl) (λ k v f. refl) (λ k. refl) alone exact_bytes signed_yes signed_no

-- ---- in the words of records

pub signing_kind : (i : Item) → is_some (signing_entry i) ≡ is_signing i
signing_kind (item.Signing c f r) = refl
signing_kind _ = refl

pub signings_of_kind : (kept : Kept) → AreOf is_signing (items_of kept)
signings_of_kind kept i c = sym (signing_kind i) ∙ rows-of-kind cons_cmp cons_total AnyValue signing_item signing_gone same_signed signing_entry signings_are_rowed kept (λ k v m. tt) i c

pub signings_by_key : IsByKey is_signing
signings_by_key (item.Signing c f r) = refl
signings_by_key _ = refl

pub signings_once : (kept : Kept) → IsStrictlySortedBy cons_cmp (keys_of kept) → IsOnce (items_of kept)
signings_once kept s = rows-told-once cons_cmp cons_total AnyValue signing_item signing_gone same_signed signing_entry signings_are_rowed kept (λ k v m. tt) s

pub signing_added : (kept : Kept) (cons : List ℕ) (s : Signed) → IsStrictlySortedBy cons_cmp (keys_of kept) → IsAdded (items_of kept) (signing_item cons s) (items_of (insert_entry cons_cmp kept cons s))
signing_added kept cons s sorted = row-added cons_cmp cons_total AnyValue signing_item signing_gone same_signed signing_entry signings_are_rowed kept (λ k v m. tt) sorted cons s tt

-- an item that is none
pub no_signing : (i : Item) → ((c : List ℕ) (f : SigningInfo) (r : List Bool) → i ≡ item.Signing c f r → ⊥) → is_signing i ≡ false
no_signing (item.Signing c f r) h = absurd (h c f r refl)
no_signing _ h = refl
