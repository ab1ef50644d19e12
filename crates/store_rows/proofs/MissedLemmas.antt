-- The missed places of a window, and the window that they make.
use Rattle.std.proofs.Common.{◌≡◌, ◌∙◌, ℕ, zero, suc, ◌+◌, ◌-◌, ◌*◌, ◌<◌, ◌≤◌, ltb, leb, Bool, true, false, List, [], ◌∷◌, ◌++◌, length, get_or, take, drop, replicate, refl, sym, ap, ap₂, append_assoc, arith, flat_map, le-leb, leb-true, lt-ltb, ltb-true, append-nil, length-append, length-take, take-append-drop, take_all}
use Rattle.std.{specs.List.{AllByRecursion, splice}, proofs.lemmas.Bool.{and_from, and_parts}}
use Rattle.std.proofs.Math.Seq.{drop-append_seam, take-append_seam}
use Rattle.std.proofs.lemmas.List.{drop_all, drop_more, length-replicate, replicate_more, take_more}
use Rattle.std.proofs.lemmas.Grind.{flat_map-append}
use Rattle.store_rows.specs.Fields.{four_bytes, missed_from, missed_of, missed_ring_bytes}
use Rattle.store_rows.specs.Reading.{are_places, comes_next, places_with}

-- ---- the missed places of a window

pub missed_few : (n : ℕ) (ps : List Bool) → length (missed_from n ps) ≤ length ps
missed_few n [] = omega arith
missed_few n (true ∷ ps) = omega (arith, missed_few (n + 1) ps)
missed_few n (false ∷ ps) = omega (arith, missed_few (n + 1) ps)

pub missed_below : (n : ℕ) (ps : List Bool) (limit : ℕ) → n + length ps ≤ limit → AllByRecursion (λ p. p < limit) (missed_from n ps)
missed_below n [] limit le = tt
missed_below n (true ∷ ps) limit le = (omega (arith, le), missed_below (n + 1) ps limit (omega (arith, le)))
missed_below n (false ∷ ps) limit le = missed_below (n + 1) ps limit (omega (arith, le))

-- the places of a window one part after the other
missed_parts : (n : ℕ) (ps qs : List Bool) → missed_from n (ps ++ qs) ≡ missed_from n ps ++ missed_from (n + length ps) qs
missed_parts n [] qs = let k : n ≡ n + 0 = omega arith in ap (λ (m : ℕ). missed_from m qs) k
missed_parts n (true ∷ ps) qs =
    let k : n + 1 + length ps ≡ n + suc (length ps) = omega arith in
    ap (λ (ms : List ℕ). n ∷ ms) (missed_parts (n + 1) ps qs ∙ ap (λ (m : ℕ). missed_from (n + 1) ps ++ missed_from m qs) k)
missed_parts n (false ∷ ps) qs =
    let k : n + 1 + length ps ≡ n + suc (length ps) = omega arith in
    missed_parts (n + 1) ps qs ∙ ap (λ (m : ℕ). missed_from (n + 1) ps ++ missed_from m qs) k

-- one place more
missed_at : (n : ℕ) (ps : List Bool) (i : ℕ) (b : Bool) → i < length ps → b ≡ get_or ps i false → missed_from n (take (i + 1) ps) ≡ missed_from n (take i ps) ++ missed_from (n + i) (b ∷ [])
missed_at n ps i b lt is =
    let k : n + length (take i ps) ≡ n + i = omega (arith, length-take i ps, lt) in
    ap (missed_from n) (take_more ps i false lt ∙ ap (λ (x : Bool). take i ps ++ x ∷ []) (sym is))
    ∙ missed_parts n (take i ps) (b ∷ [])
    ∙ ap (λ (m : ℕ). missed_from n (take i ps) ++ missed_from m (b ∷ [])) k

-- counted one after the other
pub counted : (ps : List Bool) (i count more : ℕ) (b : Bool) → i < length ps → b ≡ get_or ps i false → count ≡ length (missed_of (take i ps)) → more ≡ length (missed_from 0 (b ∷ []))
    → count + more ≡ length (missed_of (take (i + 1) ps))
counted ps i count more b lt is so_far one =
    let whole = ap length (missed_at 0 ps i b lt is) in
    omega (arith, whole, so_far, one, one_counted b, length-append (missed_of (take i ps)) (missed_from (0 + i) (b ∷ [])))
  where
    one_counted : (b : Bool) → length (missed_from 0 (b ∷ [])) ≡ length (missed_from (0 + i) (b ∷ []))
    one_counted true = refl
    one_counted false = refl

pub count_few : (ps : List Bool) (i count : ℕ) → count ≡ length (missed_of (take i ps)) → count ≤ length ps
count_few ps i count so_far = omega (arith, so_far, missed_few 0 (take i ps), length-take i ps)

pub all_counted : (ps : List Bool) (i count : ℕ) → length ps ≤ i → count ≡ length (missed_of (take i ps)) → count ≡ length (missed_of ps)
all_counted ps i count le so_far = so_far ∙ ap (λ (qs : List Bool). length (missed_of qs)) (take_all i ps le)

-- written one after the other
pub one_written : (front out new : List ℕ) (n : ℕ) (ps : List Bool) (i : ℕ) (b : Bool) → i < length ps → b ≡ get_or ps i false → out ≡ front ++ flat_map four_bytes (missed_from n (take i ps))
    → new ≡ out ++ flat_map four_bytes (missed_from (n + i) (b ∷ [])) → new ≡ front ++ flat_map four_bytes (missed_from n (take (i + 1) ps))
one_written front out new n ps i b lt is so_far written =
    written
    ∙ ap (λ (o : List ℕ). o ++ flat_map four_bytes (missed_from (n + i) (b ∷ []))) so_far
    ∙ append_assoc front (flat_map four_bytes (missed_from n (take i ps))) (flat_map four_bytes (missed_from (n + i) (b ∷ [])))
    ∙ ap (λ (o : List ℕ). front ++ o) (sym (flat_map-append four_bytes (missed_from n (take i ps)) (missed_from (n + i) (b ∷ []))) ∙ ap (flat_map four_bytes) (sym (missed_at n ps i b lt is)))

pub all_written : (front out : List ℕ) (n : ℕ) (ps : List Bool) (i : ℕ) → length ps ≤ i → out ≡ front ++ flat_map four_bytes (missed_from n (take i ps)) → out ≡ front ++ flat_map four_bytes (missed_from n ps)
all_written front out n ps i le so_far = so_far ∙ ap (λ (qs : List Bool). front ++ flat_map four_bytes (missed_from n qs)) (take_all i ps le)

-- where none was missed, none is written
pub none_written : (out : List ℕ) (n : ℕ) (ps : List Bool) → length (missed_of ps) ≡ 0 → out ≡ out ++ flat_map four_bytes (missed_from n ps)
none_written out n ps none = sym (ap (λ (ms : List ℕ). out ++ flat_map four_bytes ms) (no_miss n 0 ps none) ∙ append-nil out)
  where
    no_miss : (k m : ℕ) (qs : List Bool) → length (missed_from m qs) ≡ 0 → missed_from k qs ≡ []
    no_miss k m [] e = refl
    no_miss k m (true ∷ qs) e = absurd cc
    no_miss k m (false ∷ qs) e = no_miss (k + 1) (m + 1) qs e

-- one part written after the other
pub part_written : (out new : List ℕ) (n k : ℕ) (left part others : List Bool) (whole : List ℕ) → part ≡ take k left → others ≡ drop k left → length part ≡ k → new ≡ out ++ flat_map four_bytes (missed_from n part)
    → out ++ flat_map four_bytes (missed_from n left) ≡ whole → new ++ flat_map four_bytes (missed_from (n + k) others) ≡ whole
part_written out new n k left part others whole is rest size written so_far =
    let split : part ++ others ≡ left = (λ i. is i ++ rest i) ∙ take-append-drop k left in
    ap (λ (o : List ℕ). o ++ flat_map four_bytes (missed_from (n + k) others)) written
    ∙ append_assoc out (flat_map four_bytes (missed_from n part)) (flat_map four_bytes (missed_from (n + k) others))
    ∙ ap (λ (o : List ℕ). out ++ o) (sym (flat_map-append four_bytes (missed_from n part) (missed_from (n + k) others)))
    ∙ ap (λ (m : ℕ). out ++ flat_map four_bytes (missed_from n part ++ missed_from (n + m) others)) (sym size)
    ∙ ap (λ (ms : List ℕ). out ++ flat_map four_bytes ms) (sym (missed_parts n part others) ∙ ap (missed_from n) split)
    ∙ so_far

-- ---- a count that is set behind the numbers that it counts

four_long : (n : ℕ) → length (four_bytes n) ≡ 4
unfolding four_bytes
four_long n = refl

pub each_long : (ns : List ℕ) → length (flat_map four_bytes ns) ≡ 4 * length ns
each_long [] = refl
each_long (n ∷ ns) = omega (arith, length-append (four_bytes n) (flat_map four_bytes ns), four_long n, each_long ns)

-- the bytes behind the room for a count tell it
pub count_told : (out roomy new : List ℕ) (ns : List ℕ) → roomy ≡ out ++ four_bytes 0 → new ≡ roomy ++ flat_map four_bytes ns → (length roomy ≡ length out + 4) × (length new ≡ length roomy + 4 * length ns)
count_told out roomy new ns room written = (
  omega (arith, ap length room, length-append out (four_bytes 0), four_long 0),
  omega (arith, ap length written, length-append roomy (flat_map four_bytes ns), each_long ns),
)

counted_behind : (out rest : List ℕ) (n : ℕ) → splice ((out ++ four_bytes 0) ++ rest) (length out) (length out + 4) (four_bytes n) ≡ out ++ (four_bytes n ++ rest)
counted_behind out rest n =
    let room = four_bytes 0 in
    let e : length out + 4 ≡ length (out ++ room) = omega (arith, length-append out room, four_long 0) in
    ap (λ (f : List ℕ). f ++ (four_bytes n ++ drop (length out + 4) ((out ++ room) ++ rest))) (ap (take (length out)) (append_assoc out room rest) ∙ take-append_seam out (room ++ rest))
    ∙ ap (λ (k : ℕ). out ++ (four_bytes n ++ drop k ((out ++ room) ++ rest))) e
    ∙ ap (λ (r : List ℕ). out ++ (four_bytes n ++ r)) (drop-append_seam (out ++ room) rest)

pub ring_written : (front out roomy new last : List ℕ) (ps : List Bool) (at count : ℕ) → out ≡ front ++ four_bytes (length ps) → at ≡ length out → roomy ≡ out ++ four_bytes 0 → new ≡ roomy ++ flat_map four_bytes (missed_of ps) → count ≡ length (missed_of ps)
    → last ≡ splice new at (at + 4) (four_bytes count) → last ≡ front ++ missed_ring_bytes ps
ring_written front out roomy new last ps at count size place room written told set =
    let rest = flat_map four_bytes (missed_of ps) in
    let whole : new ≡ (out ++ four_bytes 0) ++ rest = written ∙ ap (λ (w : List ℕ). w ++ rest) room in
    set
    ∙ ap (λ (w : List ℕ). splice w at (at + 4) (four_bytes count)) whole
    ∙ ap₂ (λ (k n : ℕ). splice ((out ++ four_bytes 0) ++ rest) k (k + 4) (four_bytes n)) place told
    ∙ counted_behind out rest (length (missed_of ps))
    ∙ ap (λ (o : List ℕ). o ++ (four_bytes (length (missed_of ps)) ++ rest)) size
    ∙ append_assoc front (four_bytes (length ps)) (four_bytes (length (missed_of ps)) ++ rest)

-- ---- places that ascend

pub places_parts : (least end p : ℕ) (ms : List ℕ) → are_places least end (p ∷ ms) ≡ true → (least ≤ p) × (p < end) × (are_places (p + 1) end ms ≡ true)
places_parts least end p ms up =
    let (next, others) = and_parts (comes_next least end p) (are_places (p + 1) end ms) up in
    let (low, high) = and_parts (leb least p) (ltb p end) next in
    (leb-true least p low, ltb-true p end high, others)

places_from : (least end p : ℕ) (ms : List ℕ) → least ≤ p → p < end → are_places (p + 1) end ms ≡ true → are_places least end (p ∷ ms) ≡ true
places_from least end p ms low high others =
    and_from (comes_next least end p) (are_places (p + 1) end ms) (and_from (leb least p) (ltb p end) (le-leb least p low) (lt-ltb p end high)) others

next : (ms : List ℕ) (i p : ℕ) → i < length ms → p ≡ get_or ms i 0 → drop i ms ≡ p ∷ drop (i + 1) ms
next ms i p lt is = drop_more ms i 0 lt ∙ ap (λ (q : ℕ). q ∷ drop (i + 1) ms) (sym is)

-- ---- a window of them, one after the other

pub record IsBuilt (ring : List Bool) (end : ℕ) (left : List ℕ) (total : List Bool) : Type 0 where
  pub ascend : are_places (length ring) end left ≡ true
  pub built : ring ++ places_with (length ring) end left ≡ total

pub none_built : (ring : List Bool) (end : ℕ) (ms : List ℕ) → ring ≡ [] → are_places 0 end ms ≡ true → IsBuilt ring end ms (places_with 0 end ms)
none_built ring end ms none up = record {
  ascend = ap (λ (r : List Bool). are_places (length r) end ms) none ∙ up;
  built = ap (λ (r : List Bool). r ++ places_with (length r) end ms) none;
}

pub one_built : (ring more new : List Bool) (end i p : ℕ) (ms : List ℕ) (total : List Bool) → i < length ms → p ≡ get_or ms i 0 → more ≡ ring ++ replicate (p - length ring) false → new ≡ more ++ true ∷ []
    → IsBuilt ring end (drop i ms) total → IsBuilt new end (drop (i + 1) ms) total
one_built ring more new end i p ms total lt is pushed missed so_far =
    let left = drop (i + 1) ms in
    let here = next ms i p lt is in
    let (low, high, others) = places_parts (length ring) end p left (sym (ap (are_places (length ring) end) here) ∙ so_far.ascend) in
    let signed = replicate (p - length ring) false in
    let whole : new ≡ (ring ++ signed) ++ true ∷ [] = missed ∙ ap (λ (r : List Bool). r ++ true ∷ []) pushed in
    let len : length new ≡ p + 1 = omega (arith, low, ap length whole, length-append (ring ++ signed) (true ∷ []), length-append ring signed, length-replicate (p - length ring) false) in
    record {
      ascend = ap (λ (n : ℕ). are_places n end left) len ∙ others;
      built =
          ap₂ (λ (r : List Bool) (n : ℕ). r ++ places_with n end left) whole len
          ∙ append_assoc (ring ++ signed) (true ∷ []) (places_with (p + 1) end left)
          ∙ append_assoc ring signed (true ∷ places_with (p + 1) end left)
          ∙ sym (ap (λ (l : List ℕ). ring ++ places_with (length ring) end l) here)
          ∙ so_far.built;
    }

pub all_built : (ring new : List Bool) (end i : ℕ) (ms : List ℕ) (total : List Bool) → length ms ≤ i → new ≡ ring ++ replicate (end - length ring) false → IsBuilt ring end (drop i ms) total → total ≡ new
all_built ring new end i ms total le pushed so_far = sym so_far.built ∙ ap (λ (l : List ℕ). ring ++ places_with (length ring) end l) (drop_all i ms le) ∙ sym pushed

-- signed places pushed one after the other
pub one_signed : (ring before new : List Bool) (i : ℕ) → before ≡ ring ++ replicate i false → new ≡ before ++ false ∷ [] → new ≡ ring ++ replicate (i + 1) false
one_signed ring before new i so_far pushed =
    pushed
    ∙ ap (λ (r : List Bool). r ++ false ∷ []) so_far
    ∙ append_assoc ring (replicate i false) (false ∷ [])
    ∙ ap (λ (r : List Bool). ring ++ r) (replicate_more i false)

-- ---- a window is that of its missed places, and the places are those that the window misses

-- a place that was signed stands before the missed ones
signed_before : (at end : ℕ) (ms : List ℕ) → at < end → are_places (at + 1) end ms ≡ true → (are_places at end ms ≡ true) × (places_with at end ms ≡ false ∷ places_with (at + 1) end ms)
signed_before at end [] lt up = let k : end - at ≡ suc (end - (at + 1)) = omega (arith, lt) in (refl, ap (λ (n : ℕ). replicate n false) k)
signed_before at end (p ∷ ms) lt up =
    let (low, high, others) = places_parts (at + 1) end p ms up in
    let k : p - at ≡ suc (p - (at + 1)) = omega (arith, low) in
    (places_from at end p ms (omega (arith, low)) high others, ap (λ (n : ℕ). replicate n false ++ true ∷ places_with (p + 1) end ms) k)

pub window_again : (at end : ℕ) (ps : List Bool) → end ≡ at + length ps → (are_places at end (missed_from at ps) ≡ true) × (places_with at end (missed_from at ps) ≡ ps)
window_again at end [] e = let k : end - at ≡ 0 = omega (arith, e) in (refl, ap (λ (n : ℕ). replicate n false) k)
window_again at end (true ∷ ps) e =
    let (up, same) = window_again (at + 1) end ps (omega (arith, e)) in
    let k : at - at ≡ 0 = omega arith in
    (places_from at end at (missed_from (at + 1) ps) (omega arith) (omega (arith, e)) up, ap₂ (λ (n : ℕ) (qs : List Bool). replicate n false ++ true ∷ qs) k same)
window_again at end (false ∷ ps) e =
    let (up, same) = window_again (at + 1) end ps (omega (arith, e)) in
    let (first, whole) = signed_before at end (missed_from (at + 1) ps) (omega (arith, e)) up in
    (first, whole ∙ ap (λ (qs : List Bool). false ∷ qs) same)

-- no signed place is missed
missed_behind : (n k : ℕ) (ps : List Bool) → missed_from n (replicate k false ++ ps) ≡ missed_from (n + k) ps
missed_behind n zero ps = let e : n ≡ n + 0 = omega arith in ap (λ (m : ℕ). missed_from m ps) e
missed_behind n (suc k) ps = let e : n + 1 + k ≡ n + suc k = omega arith in missed_behind (n + 1) k ps ∙ ap (λ (m : ℕ). missed_from m ps) e

pub window_taken : (at end : ℕ) (ms : List ℕ) → at ≤ end → are_places at end ms ≡ true → (length (places_with at end ms) ≡ end - at) × (missed_from at (places_with at end ms) ≡ ms)
window_taken at end [] le up =
    let signed = replicate (end - at) false in
    (length-replicate (end - at) false, ap (missed_from at) (sym (append-nil signed)) ∙ missed_behind at (end - at) [])
window_taken at end (p ∷ ms) le up =
    let (low, high, others) = places_parts at end p ms up in
    let later = places_with (p + 1) end ms in
    let (len, back) = window_taken (p + 1) end ms (omega (arith, high)) others in
    let k : at + (p - at) ≡ p = omega (arith, low) in (
      omega (arith, low, high, len, length-append (replicate (p - at) false) (true ∷ later), length-replicate (p - at) false),
      missed_behind at (p - at) (true ∷ later) ∙ ap (λ (n : ℕ). missed_from n (true ∷ later)) k ∙ ap (λ (l : List ℕ). p ∷ l) back,
    )

-- ---- a window without a miss

pub none_missed : (n : ℕ) (ps : List Bool) → missed_from n ps ≡ [] → ps ≡ replicate (length ps) false
none_missed n [] e = refl
none_missed n (true ∷ ps) e = absurd cc
none_missed n (false ∷ ps) e = ap (λ (qs : List Bool). false ∷ qs) (none_missed (n + 1) ps e)
