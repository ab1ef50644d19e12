-- Places taken from bytes, and packed into bytes, one after the other as a loop does.
use Rattle.std.proofs.Common.{◌≡◌, ◌∙◌, ℕ, suc, ◌+◌, ◌-◌, ◌/◌, ◌%◌, ◌^◌, ◌<◌, ◌≤◌, min, inl, inr, Bool, true, false, not, cond, eqb, List, [], ◌∷◌, ◌++◌, length, get_or, take, drop, Result, Ok, Err, refl, sym, ap, ap₂, append_assoc, arith, append-nil, length-drop, take_all}
use Rattle.std.proofs.lemmas.{Bool.cases_lt, List.{drop_all, drop_more}}
use Rattle.store_rows.specs.declared.fault.RowFault.{RowFault, TheVariants.BadRow}
use Rattle.store_rows.specs.{Fields.{packed, packed_len, places_byte}, Reading.{places_in, places_of, with_places}}

-- one more place of a byte
pub place_on : (front : List Bool) (count i byte : ℕ) (total : List Bool) → i < count → front ++ places_in (count - i) byte ≡ total
    → (front ++ not (eqb (byte % 2) 0) ∷ []) ++ places_in (count - (i + 1)) (byte / 2) ≡ total
place_on front count i byte total lt so_far =
    let k : count - i ≡ suc (count - (i + 1)) = omega arith in
    append_assoc front (not (eqb (byte % 2) 0) ∷ []) (places_in (count - (i + 1)) (byte / 2))
    ∙ sym (ap (λ (n : ℕ). front ++ places_in n byte) k)
    ∙ so_far

regroup : (front more : List Bool) (read : Result (List Bool) RowFault) → with_places front (with_places more read) ≡ with_places (front ++ more) read
regroup front more (Ok places) = ap (λ (ps : List Bool). Ok ps) (sym (append_assoc front more places))
regroup front more (Err fault) = refl

-- the places of one more byte
pub byte_on : (front : List Bool) (left byte : ℕ) (bytes : List ℕ) (total : Result (List Bool) RowFault) → eqb (byte / 2 ^ min left 8) 0 ≡ true
    → with_places front (places_of left (byte ∷ bytes)) ≡ total → with_places (front ++ places_in (min left 8) byte) (places_of (left - min left 8) bytes) ≡ total
unfolding places_of
byte_on front left byte bytes total clear so_far =
    sym (regroup front (places_in (min left 8) byte) (places_of (left - min left 8) bytes))
    ∙ sym (ap (λ (b : Bool). with_places front (cond b (with_places (places_in (min left 8) byte) (places_of (left - min left 8) bytes)) (Err BadRow))) clear)
    ∙ so_far

pub byte_fails : (front : List Bool) (left byte : ℕ) (bytes : List ℕ) (total : Result (List Bool) RowFault) → eqb (byte / 2 ^ min left 8) 0 ≡ false
    → with_places front (places_of left (byte ∷ bytes)) ≡ total → total ≡ Err BadRow
unfolding places_of
byte_fails front left byte bytes total bits so_far =
    sym so_far ∙ ap (λ (b : Bool). with_places front (cond b (with_places (places_in (min left 8) byte) (places_of (left - min left 8) bytes)) (Err BadRow))) bits

pub bytes_done : (front : List Bool) (left : ℕ) (total : Result (List Bool) RowFault) → with_places front (places_of left []) ≡ total → total ≡ Ok front
unfolding places_of
bytes_done front left total so_far = sym so_far ∙ ap (λ (ps : List Bool). Ok ps) (append-nil front)

-- the same at a place of the bytes
pub goes_on_at : (front more : List Bool) (left here i byte : ℕ) (bytes : List ℕ) (total : Result (List Bool) RowFault) → i < length bytes → byte ≡ get_or bytes i 0 → here ≡ min left 8 → eqb (byte / 2 ^ here) 0 ≡ true
    → more ≡ front ++ places_in here byte → with_places front (places_of left (drop i bytes)) ≡ total → with_places more (places_of (left - here) (drop (i + 1) bytes)) ≡ total
goes_on_at front more left here i byte bytes total lt is few clear pushed so_far =
    let next : drop i bytes ≡ byte ∷ drop (i + 1) bytes = drop_more bytes i 0 lt ∙ ap (λ (b : ℕ). b ∷ drop (i + 1) bytes) (sym is) in
    let at_8 = ap (λ (k : ℕ). eqb (byte / 2 ^ k) 0) (sym few) ∙ clear in
    let it = byte_on front left byte (drop (i + 1) bytes) total at_8 (ap (λ (bs : List ℕ). with_places front (places_of left bs)) (sym next) ∙ so_far) in
    ap₂ (λ (m : List Bool) (k : ℕ). with_places m (places_of (left - k) (drop (i + 1) bytes))) (pushed ∙ ap (λ (k : ℕ). front ++ places_in k byte) few) few ∙ it

pub fails_at : (front : List Bool) (left here i byte : ℕ) (bytes : List ℕ) (total : Result (List Bool) RowFault) → i < length bytes → byte ≡ get_or bytes i 0 → here ≡ min left 8 → eqb (byte / 2 ^ here) 0 ≡ false
    → with_places front (places_of left (drop i bytes)) ≡ total → total ≡ Err BadRow
fails_at front left here i byte bytes total lt is few bits so_far =
    let next : drop i bytes ≡ byte ∷ drop (i + 1) bytes = drop_more bytes i 0 lt ∙ ap (λ (b : ℕ). b ∷ drop (i + 1) bytes) (sym is) in
    byte_fails front left byte (drop (i + 1) bytes) total (ap (λ (k : ℕ). eqb (byte / 2 ^ k) 0) (sym few) ∙ bits) (ap (λ (bs : List ℕ). with_places front (places_of left bs)) (sym next) ∙ so_far)

pub done_at : (front : List Bool) (left i : ℕ) (bytes : List ℕ) (total : Result (List Bool) RowFault) → length bytes ≤ i → with_places front (places_of left (drop i bytes)) ≡ total → total ≡ Ok front
done_at front left i bytes total le so_far = bytes_done front left total (ap (λ (bs : List ℕ). with_places front (places_of left bs)) (sym (drop_all i bytes le)) ∙ so_far)

-- the first eight places, or all
first_few : (ps : List Bool) (n : ℕ) → n ≡ min (length ps) 8 → (take n ps ≡ take 8 ps) × (drop n ps ≡ drop 8 ps)
first_few ps n e = elim (cases_lt (length ps) 8) [
  | inl few ↦
      let k : n ≡ length ps = omega (arith, e) in (
        ap (λ (m : ℕ). take m ps) k ∙ take_all (length ps) ps (omega arith) ∙ sym (take_all 8 ps (omega arith)),
        ap (λ (m : ℕ). drop m ps) k ∙ drop_all (length ps) ps (omega arith) ∙ sym (drop_all 8 ps (omega arith)),
      )
  | inr many ↦ let k : n ≡ 8 = omega (arith, e) in (ap (λ (m : ℕ). take m ps) k, ap (λ (m : ℕ). drop m ps) k)
]

-- one more byte of places
pub packed_on : (out : List ℕ) (ps : List Bool) (n : ℕ) (total : List ℕ) → 0 < length ps → n ≡ min (length ps) 8 → out ++ packed (packed_len (length ps)) ps ≡ total
    → (out ++ places_byte (take n ps) ∷ []) ++ packed (packed_len (length (drop n ps))) (drop n ps) ≡ total
packed_on out ps n total some e so_far =
    let parts = first_few ps n e in
    let k : packed_len (length ps) ≡ suc (packed_len (length (drop n ps))) = omega (arith, e, some, length-drop n ps) in
    append_assoc out (places_byte (take n ps) ∷ []) (packed (packed_len (length (drop n ps))) (drop n ps))
    ∙ ap (λ (x : List Bool). out ++ places_byte x ∷ packed (packed_len (length (drop n ps))) (drop n ps)) parts.0
    ∙ ap (λ (x : List Bool). out ++ places_byte (take 8 ps) ∷ packed (packed_len (length (drop n ps))) x) parts.1
    ∙ sym (ap (λ (m : ℕ). out ++ packed m ps) k)
    ∙ so_far

-- the same of what a loop has split
pub packed_at : (out new : List ℕ) (ps here others : List Bool) (n b : ℕ) (total : List ℕ) → 0 < length ps → n ≡ min (length ps) 8 → here ≡ take n ps → others ≡ drop n ps → b ≡ places_byte here → new ≡ out ++ b ∷ []
    → out ++ packed (packed_len (length ps)) ps ≡ total → new ++ packed (packed_len (length others)) others ≡ total
packed_at out new ps here others n b total some e here_is others_is b_is pushed so_far =
    ap₂ (λ (x : List ℕ) (y : List Bool). x ++ packed (packed_len (length y)) y) (pushed ∙ ap (λ (v : ℕ). out ++ v ∷ []) (b_is ∙ ap places_byte here_is)) others_is ∙ packed_on out ps n total some e so_far
