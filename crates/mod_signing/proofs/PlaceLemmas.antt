-- Rows whose places that are set are marked in lists of signed votes: which place is the next that is set, and what a list has become.
use Rattle.std.proofs.Common.{◌≡◌, ◌∙◌, ℕ, ◌+◌, ◌-◌, ◌/◌, ◌%◌, ◌^◌, ◌<◌, ◌≤◌, ◌==◌, Bool, true, false, List, ◌∷◌, ◌++◌, [], length, length-append, take, drop, replicate, slice_set, refl, sym, ap, subst, append_assoc, append-nil, take_at, arith, zero, suc, shr-shr, drop_at}
use Rattle.std.{specs.Int.{bit_at, Count.{count_trailing_zeros, trailing_of_zero}}, proofs.lemmas.Nat.shr_le}
use Rattle.std.proofs.lemmas.Nat.Bits.{bit_at-trailing_zeros, bit_at-zero}
use Rattle.std.proofs.lemmas.List.{drop-replicate, length-replicate, replicate-append-replicate, replicate_more, set_at, take-replicate}
use borrow.Rule.Slice.PartMut.{put_mid}
use mir.Syntax.{w128}
use Rattle.base_roles.specs.Entries.{number_at}
use Rattle.mod_signing.specs.Rings.{Rows, firsts, is_set, place_set, places_of, ring_of, row_cmp}
use Rattle.mod_signing.proofs.{UptoLemmas.{first_length, first_more}, WalkLemmas.ring_more}

-- ---- the next place that is set

-- what stands in a row from a place on
rest_at : (row from p : ℕ) → from ≤ p → bit_at row p ≡ bit_at (row / 2 ^ from) (p - from)
rest_at row from p h =
    let e : from + (p - from) ≡ p = omega (arith, h) in
    ap (bit_at row) (sym e) ∙ ap (λ x. x % 2) (sym (shr-shr row from (p - from)))

rest_fits : (row from : ℕ) → row < 2 ^ 128 → row / 2 ^ from < 2 ^ 128
rest_fits row from fits = omega (arith, fits, shr_le row from)

none_lowest : (rest i : ℕ) → rest < 2 ^ 128 → i < count_trailing_zeros 128 rest → bit_at rest i ≡ 0
none_lowest zero i fits l = bit_at-zero i
none_lowest (suc n) i fits l = (bit_at-trailing_zeros w128 (suc n) (omega arith) fits).2 i l

-- before the lowest of what is left none is set
pub none_lower : (row from p : ℕ) → row < 2 ^ 128 → from ≤ p → p < from + count_trailing_zeros 128 (row / 2 ^ from) → is_set row p ≡ false
none_lower row from p fits h l =
    ap (λ b. b == 1) (rest_at row from p h ∙ none_lowest (row / 2 ^ from) (p - from) (rest_fits row from fits) (omega (arith, h, l)))

-- and the lowest is
pub lowest_set : (row from place : ℕ) → row < 2 ^ 128 → place < 128 → from ≤ place → place ≡ from + count_trailing_zeros 128 (row / 2 ^ from) → is_set row place ≡ true
lowest_set row from place fits few h e = by (row / 2 ^ from) refl
  where
    by : (rest : ℕ) → rest ≡ row / 2 ^ from → is_set row place ≡ true
    by zero none = absurd (omega (arith, few, e, ap (count_trailing_zeros 128) (sym none), trailing_of_zero 128))
    by (suc n) some =
        let low : place - from ≡ count_trailing_zeros 128 (suc n) = omega (arith, e, ap (count_trailing_zeros 128) some) in
        let below : suc n < 2 ^ 128 = subst (λ r. r < 2 ^ 128) (sym some) (rest_fits row from fits) in
        ap (λ b. b == 1) (rest_at row from place h ∙ ap (λ r. bit_at r (place - from)) (sym some) ∙ ap (bit_at (suc n)) low
        ∙ (bit_at-trailing_zeros w128 (suc n) (omega arith) below).1)

-- ---- a list of signed votes in which places are marked

-- no test passes at so many numbers from one on
first_none : (f : ℕ → Bool) (n k : ℕ) → ((p : ℕ) → n ≤ p → p < n + k → f p ≡ false) → firsts f (n + k) ≡ firsts f n ++ replicate k false
first_none f n zero h = let e : n + zero ≡ n = omega arith in ap (firsts f) e ∙ sym (append-nil (firsts f n))
first_none f n (suc k) h =
    let e : n + suc k ≡ suc (n + k) = omega arith in
    let one : suc k ≡ k + 1 = omega arith in
    ap (firsts f) e
    ∙ (λ i. first_none f n k (λ p m l. h p m (omega (arith, l))) i ++ h (n + k) (omega arith) (omega arith) i ∷ [])
    ∙ append_assoc (firsts f n) (replicate k false) (false ∷ [])
    ∙ ap (λ l. firsts f n ++ l) (replicate_more k false ∙ ap (λ m. replicate m false) (sym one))

-- the places of a row before this one, and signed votes up to the end
abbrev pub marked : ℕ → ℕ → ℕ → List Bool
marked row end place = places_of row place ++ replicate (end - place) false

pub marked_begun : (row end : ℕ) → replicate end false ≡ marked row end 0
marked_begun row end = let e : end - 0 ≡ end = omega arith in ap (λ n. replicate n false) (sym e)

-- places of which none is set are passed
pub marked_none : (row end place next : ℕ) → place ≤ next → next ≤ end → ((p : ℕ) → place ≤ p → p < next → is_set row p ≡ false) → marked row end place ≡ marked row end next
marked_none row end place next h m none =
    let k : place + (next - place) ≡ next = omega (arith, h) in
    let sum : next - place + (end - next) ≡ end - place = omega (arith, h, m) in
    ap (λ n. places_of row place ++ replicate n false) (sym sum)
    ∙ ap (λ l. places_of row place ++ l) (sym (replicate-append-replicate (next - place) (end - next) false))
    ∙ sym (append_assoc (places_of row place) (replicate (next - place) false) (replicate (end - next) false))
    ∙ ap (λ l. l ++ replicate (end - next) false) (sym (first_none (is_set row) place (next - place) (λ p l b. none p l (omega (arith, b, k)))))
    ∙ ap (λ n. places_of row n ++ replicate (end - next) false) k

-- a place that is set is marked
pub marked_one : (row end place : ℕ) → place < end → is_set row place ≡ true → slice_set (marked row end place) place true ≡ marked row end (place + 1)
marked_one row end place l set =
    let some : end - place ≡ suc (end - (place + 1)) = omega (arith, l) in
    let later = replicate (end - (place + 1)) false in
    ap (λ n. slice_set (places_of row place ++ replicate n false) place true) some
    ∙ set_at (places_of row place) false later true place (first_length (is_set row) place)
    ∙ sym (append_assoc (places_of row place) (true ∷ []) later)
    ∙ ap (λ b. (places_of row place ++ b ∷ []) ++ later) (sym set)
    ∙ ap (λ l. l ++ later) (sym (first_more (is_set row) place))

-- ---- a ring of signed votes in which a row is marked

-- the places of a ring before this one, and signed votes up to the end
abbrev pub ring_marked : Rows → List ℕ → ℕ → ℕ → List Bool
ring_marked rows cons end from = ring_of rows cons from ++ replicate (end - from) false

pub ring_marked_length : (rows : Rows) (cons : List ℕ) (end from : ℕ) → from ≤ end → length (ring_marked rows cons end from) ≡ end
ring_marked_length rows cons end from h =
    length-append (ring_of rows cons from) (replicate (end - from) false)
    ∙ omega (arith, first_length (place_set rows cons) from, length-replicate (end - from) false, h)

module _ (votes ring : List Bool) (from some end : ℕ) (is : votes ≡ ring ++ replicate (end - from) false) (size : length ring ≡ from) (within : from + some ≤ end) where
  -- the votes of the next row are signed yet
  part_is : take some (drop from votes) ≡ replicate some false
  part_is =
      ap (λ l. take some (drop from l)) is
      ∙ ap (take some) (drop_at ring (replicate (end - from) false) from size)
      ∙ take-replicate some (end - from) false (omega (arith, within))

  part_length : length (take some (drop from votes)) ≡ some
  part_length = ap length part_is ∙ length-replicate some false

  pub part_signed : take some (drop from votes) ≡ replicate (length (take some (drop from votes))) false
  part_signed = part_is ∙ ap (λ n. replicate n false) (sym part_length)

  -- and then they are those of its places
  part_put : (part : List Bool) → put_mid from some votes part ≡ (ring ++ part) ++ replicate (end - (from + some)) false
  part_put part =
      let left : end - from - some ≡ end - (from + some) = omega arith in
      let behind : drop some (drop from (ring ++ replicate (end - from) false)) ≡ replicate (end - (from + some)) false
      = ap (drop some) (drop_at ring (replicate (end - from) false) from size) ∙ drop-replicate some (end - from) false ∙ ap (λ k. replicate k false) left in
      ap (λ l. put_mid from some l part) is
      ∙ (λ i. take_at ring (replicate (end - from) false) from size i ++ (part ++ behind i))
      ∙ sym (append_assoc ring part (replicate (end - (from + some)) false))

pub row_marked : (rows : Rows) (cons : List ℕ) (votes part : List Bool) (from some end row : ℕ) → from % 128 ≡ 0 → some ≤ 128 → from + some ≤ end → votes ≡ ring_marked rows cons end from
    → row ≡ number_at row_cmp rows (from / 128, cons) → part ≡ places_of row (length (take some (drop from votes)))
    → put_mid from some votes part ≡ ring_marked rows cons end (from + some)
row_marked rows cons votes part from some end row whole few within is stands marks =
    let size : length (ring_of rows cons from) ≡ from = first_length (place_set rows cons) from in
    let here : part ≡ places_of (number_at row_cmp rows (from / 128, cons)) some
    = marks ∙ ap (places_of row) (part_length votes (ring_of rows cons from) from some end is size within) ∙ ap (λ r. places_of r some) stands in
    part_put votes (ring_of rows cons from) from some end is size within part
    ∙ ap (λ l. l ++ replicate (end - (from + some)) false) (ap (λ l. ring_of rows cons from ++ l) here ∙ sym (ring_more rows cons from some whole few))
