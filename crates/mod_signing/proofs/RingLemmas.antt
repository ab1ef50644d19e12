-- A vote in a ring: what stood at its place gives way, and the ring holds the last votes of the window with this one.
use Rattle.std.proofs.Common.{◌≡◌, ◌∙◌, ◌⊎◌, inl, inr, ℕ, ◌+◌, ◌-◌, ◌*◌, ◌/◌, ◌%◌, ◌<◌, ◌≤◌, Bool, false, cond, List, [], ◌∷◌, ◌++◌, length, get_or, take, drop, sym, ap, subst, append_assoc, add-one, length-append, length-drop, div-add-mod', mod-lt, arith, reverse, append-nil, length-take-le, take-append-drop, take_all, take_at, drop_at}
use Rattle.std.proofs.lemmas.List.{get_or_past, length_push, length-reverse, reverse-append, drop_all, take_more, drop_more}
use Rattle.std.proofs.lemmas.Nat.{mod-mul-add}
use Rattle.rule_modules.specs.{Amounts.count_where, Window.{IsRing, missed_of}}
use Rattle.mod_signing.{specs.Rings.ring_with, proofs.UptoLemmas.at_end}

-- ---- the next place

suc_times : (q w : ℕ) → (q + 1) * w ≡ q * w + w
suc_times q w = grind arith

next_within : (n w : ℕ) → n % w + 1 < w → (n + 1) % w ≡ n % w + 1
next_within n w h =
    let whole : n / w * w + (n % w + 1) ≡ n + 1 = omega (arith, div-add-mod' n w) in
    ap (λ x. x % w) (sym whole) ∙ mod-mul-add (n / w) w (n % w + 1) h

next_around : (n w : ℕ) → n % w + 1 ≡ w → (n + 1) % w ≡ 0
next_around n w h =
    let whole : (n / w + 1) * w + 0 ≡ n + 1 = omega (arith, div-add-mod' n w, suc_times (n / w) w, h) in
    let some : 0 < w = omega (arith, h) in
    ap (λ x. x % w) (sym whole) ∙ mod-mul-add (n / w + 1) w 0 some

pub next_low : (n w : ℕ) → n < w → n % w ≡ n
next_low n w h = ap (λ x. x % w) (the_same n w) ∙ mod-mul-add 0 w n h
  where
    the_same : (k v : ℕ) → k ≡ 0 * v + k
    the_same k v = omega arith

-- ---- a ring read from its next place on

-- from a place on, then up to it
abbrev pub turned : ℕ → List Bool → List Bool
turned k ring = drop k ring ++ take k ring

pub turned_length : (k : ℕ) (ring : List Bool) → length (turned k ring) ≡ length ring
turned_length k ring = omega (arith, length-append (drop k ring) (take k ring), length-append (take k ring) (drop k ring), ap length (take-append-drop k ring))

-- a ring has as many places as the window has votes
pub ring_length : (w : ℕ) (votes ring : List Bool) → IsRing w votes ring → length ring ≡ length (take w votes)
ring_length w votes ring r = sym (turned_length (length votes % w) ring) ∙ ap length r ∙ length-reverse (take w votes)

-- how many are set of two lists
pub count_of_join : (xs ys : List Bool) → count_where (λ x. x) (xs ++ ys) ≡ count_where (λ x. x) xs + count_where (λ x. x) ys
count_of_join [] ys = omega arith
count_of_join (x ∷ xs) ys = omega (arith, count_of_join xs ys)

take_cons : (m : ℕ) (b : Bool) (votes : List Bool) → take (m + 1) (b ∷ votes) ≡ b ∷ take m votes
take_cons m b votes = ap (λ k. take k (b ∷ votes)) (add-one m)

-- with one more vote the last ones end with it
last_votes : (m : ℕ) (b : Bool) (votes : List Bool) → reverse (take (m + 1) (b ∷ votes)) ≡ reverse (take m votes) ++ b ∷ []
last_votes m b votes = ap reverse (take_cons m b votes) ∙ reverse-append (b ∷ []) (take m votes)

-- ---- while the ring grows

module _ (m : ℕ) (votes ring : List Bool) (b : Bool) (few : length votes < m + 1) (r : IsRing (m + 1) votes ring) where
  grows_at : length votes % (m + 1) ≡ length votes
  grows_at = next_low (length votes) (m + 1) few

  all_votes : take (m + 1) votes ≡ votes
  all_votes = take_all (m + 1) votes (omega (arith, few))

  grown_length : length ring ≡ length votes
  grown_length = ring_length (m + 1) votes ring r ∙ ap length all_votes

  -- the ring is the votes, the earliest first
  grown : ring ≡ reverse votes
  grown =
      let none : drop (length votes) ring ≡ [] = drop_all (length votes) ring (omega (arith, grown_length)) in
      let whole : take (length votes) ring ≡ ring = take_all (length votes) ring (omega (arith, grown_length)) in
      let straight : turned (length votes) ring ≡ ring = (λ i. none i ++ whole i) in
      sym straight ∙ sym (ap (λ k. turned k ring) grows_at) ∙ r ∙ ap reverse all_votes

  grown_with : ring_with (length votes) b ring ≡ ring ++ b ∷ []
  grown_with =
      let none : drop (length votes + 1) ring ≡ [] = drop_all (length votes + 1) ring (omega (arith, grown_length)) in
      let whole : take (length votes) ring ≡ ring = take_all (length votes) ring (omega (arith, grown_length)) in
      (λ i. whole i ++ b ∷ none i)

  grown_end : ring ++ b ∷ [] ≡ reverse (take (m + 1) (b ∷ votes))
  grown_end =
      let short : take m votes ≡ votes = take_all m votes (omega (arith, few)) in
      ap (λ t. t ++ b ∷ []) (grown ∙ ap reverse (sym short)) ∙ sym (last_votes m b votes)

  grown_turned : (k : ℕ) → (k ≡ 0) ⊎ (k ≡ length ring + 1) → turned k (ring ++ b ∷ []) ≡ ring ++ b ∷ []
  grown_turned k (inl e) = ap (λ j. turned j (ring ++ b ∷ [])) e ∙ append-nil (ring ++ b ∷ [])
  grown_turned k (inr e) =
      let size : length (ring ++ b ∷ []) ≡ k = length_push ring b ∙ sym e in
      let none : drop k (ring ++ b ∷ []) ≡ [] = drop_all k (ring ++ b ∷ []) (omega (arith, size)) in
      let whole : take k (ring ++ b ∷ []) ≡ ring ++ b ∷ [] = take_all k (ring ++ b ∷ []) (omega (arith, size)) in
      (λ i. none i ++ whole i)

  grows_next : ((length votes + 1) % (m + 1) ≡ 0) ⊎ ((length votes + 1) % (m + 1) ≡ length ring + 1)
  grows_next = by (at_end (length votes + 1) (m + 1) (omega (arith, few)))
    where
      by : (length votes + 1 ≡ m + 1) ⊎ (length votes + 1 < m + 1) → ((length votes + 1) % (m + 1) ≡ 0) ⊎ ((length votes + 1) % (m + 1) ≡ length ring + 1)
      by (inl e) = inl (next_around (length votes) (m + 1) (ap (λ k. k + 1) grows_at ∙ e))
      by (inr l) = inr (next_low (length votes + 1) (m + 1) l ∙ ap (λ k. k + 1) (sym grown_length))

  growing_ring : IsRing (m + 1) (b ∷ votes) (ring_with (length votes % (m + 1)) b ring)
  growing_ring =
      let new : ring_with (length votes % (m + 1)) b ring ≡ ring ++ b ∷ [] = ap (λ k. ring_with k b ring) grows_at ∙ grown_with in
      let next : length (b ∷ votes) % (m + 1) ≡ (length votes + 1) % (m + 1) = ap (λ k. k % (m + 1)) (sym (add-one (length votes))) in
      ap (λ k. turned k (ring_with (length votes % (m + 1)) b ring)) next
      ∙ ap (turned ((length votes + 1) % (m + 1))) new
      ∙ grown_turned ((length votes + 1) % (m + 1)) grows_next
      ∙ grown_end

  -- nothing stood at the place
  growing_misses : missed_of (m + 1) (b ∷ votes) ≡ missed_of (m + 1) votes - cond (get_or ring (length votes % (m + 1)) false) 1 0 + cond b 1 0
  growing_misses =
      let place : get_or ring (length votes % (m + 1)) false ≡ false = ap (λ k. get_or ring k false) (grows_at ∙ sym grown_length) ∙ get_or_past ring (length ring) false (omega arith) in
      let short : take m votes ≡ votes = take_all m votes (omega (arith, few)) in
      let now : missed_of (m + 1) (b ∷ votes) ≡ cond b 1 0 + count_where (λ x. x) votes = ap (count_where (λ x. x)) (take_cons m b votes ∙ ap (λ t. b ∷ t) short) in
      let was : missed_of (m + 1) votes ≡ count_where (λ x. x) votes = ap (count_where (λ x. x)) all_votes in
      let nothing : ◌≡◌ {A = ℕ} (cond (get_or ring (length votes % (m + 1)) false) 1 0) 0 = ap (λ c. cond c 1 0) place in
      omega (arith, now, was, nothing)

-- ---- once it is full

module _ (m : ℕ) (votes ring : List Bool) (b : Bool) (many : m + 1 ≤ length votes) (r : IsRing (m + 1) votes ring) where
  full_length : length ring ≡ m + 1
  full_length = ring_length (m + 1) votes ring r ∙ length-take-le (m + 1) votes many

  abbrev place : ℕ
  place = length votes % (m + 1)

  place_within : place < m + 1
  place_within = mod-lt (length votes) (omega arith)

  abbrev before : List Bool
  before = take place ring

  abbrev behind : List Bool
  behind = drop (place + 1) ring

  abbrev here : Bool
  here = get_or ring place false

  abbrev oldest : Bool
  oldest = get_or votes m false

  before_length : length before ≡ place
  before_length = length-take-le place ring (omega (arith, full_length, place_within))

  -- the oldest vote, then the others
  votes_split : take (m + 1) votes ≡ take m votes ++ oldest ∷ []
  votes_split = take_more votes m false (omega (arith, many))

  ring_split : here ∷ (behind ++ before) ≡ oldest ∷ reverse (take m votes)
  ring_split =
      ap (λ t. t ++ before) (sym (drop_more ring place false (omega (arith, full_length, place_within))))
      ∙ r ∙ ap reverse votes_split ∙ reverse-append (take m votes) (oldest ∷ [])

  here_is : here ≡ oldest
  here_is = let e = ring_split in cc

  others_are : behind ++ before ≡ reverse (take m votes)
  others_are = let e = ring_split in cc

  full_end : behind ++ (before ++ b ∷ []) ≡ reverse (take (m + 1) (b ∷ votes))
  full_end =
      sym (append_assoc behind before (b ∷ [])) ∙ ap (λ t. t ++ b ∷ []) others_are ∙ sym (last_votes m b votes)

  full_turned : turned (place + 1) (ring_with place b ring) ≡ behind ++ (before ++ b ∷ [])
  full_turned =
      let split : ring_with place b ring ≡ (before ++ b ∷ []) ++ behind = sym (append_assoc before (b ∷ []) behind) in
      let size : length (before ++ b ∷ []) ≡ place + 1 = length_push before b ∙ ap (λ k. k + 1) before_length in
      ap (turned (place + 1)) split
      ∙ (λ i. drop_at (before ++ b ∷ []) behind (place + 1) size i ++ take_at (before ++ b ∷ []) behind (place + 1) size i)

  -- the last place is followed by the first
  full_around : place + 1 ≡ m + 1 → turned 0 (ring_with place b ring) ≡ behind ++ (before ++ b ∷ [])
  full_around e =
      let none : behind ≡ [] = drop_all (place + 1) ring (omega (arith, full_length, e)) in
      append-nil (ring_with place b ring) ∙ ap (λ c. before ++ b ∷ c) none ∙ sym (ap (λ c. c ++ (before ++ b ∷ [])) none)

  full_next : turned ((length votes + 1) % (m + 1)) (ring_with place b ring) ≡ behind ++ (before ++ b ∷ [])
  full_next = by (at_end (place + 1) (m + 1) (omega (arith, place_within)))
    where
      by : (place + 1 ≡ m + 1) ⊎ (place + 1 < m + 1) → turned ((length votes + 1) % (m + 1)) (ring_with place b ring) ≡ behind ++ (before ++ b ∷ [])
      by (inl e) = ap (λ k. turned k (ring_with place b ring)) (next_around (length votes) (m + 1) e) ∙ full_around e
      by (inr l) = ap (λ k. turned k (ring_with place b ring)) (next_within (length votes) (m + 1) l) ∙ full_turned

  full_ring : IsRing (m + 1) (b ∷ votes) (ring_with place b ring)
  full_ring =
      ap (λ k. turned (k % (m + 1)) (ring_with place b ring)) (sym (add-one (length votes))) ∙ full_next ∙ full_end

  -- the oldest vote gives way
  full_misses : missed_of (m + 1) (b ∷ votes) ≡ missed_of (m + 1) votes - cond here 1 0 + cond b 1 0
  full_misses =
      let now : missed_of (m + 1) (b ∷ votes) ≡ cond b 1 0 + count_where (λ x. x) (take m votes) = ap (count_where (λ x. x)) (take_cons m b votes) in
      let was : missed_of (m + 1) votes ≡ count_where (λ x. x) (take m votes) + (cond oldest 1 0 + 0)
      = ap (count_where (λ x. x)) votes_split ∙ count_of_join (take m votes) (oldest ∷ []) in
      let same : ◌≡◌ {A = ℕ} (cond here 1 0) (cond oldest 1 0) = ap (λ c. cond c 1 0) here_is in
      omega (arith, now, was, same)

-- ---- in both cases

less_or : (a c : ℕ) → (a < c) ⊎ (c ≤ a)
less_or a c = grind arith

-- Of a window of one more than m: the ring with a vote at its next place holds the last votes with it.
next_ring : (m : ℕ) (votes ring : List Bool) (b : Bool) → IsRing (m + 1) votes ring → IsRing (m + 1) (b ∷ votes) (ring_with (length votes % (m + 1)) b ring)
next_ring m votes ring b r = by (less_or (length votes) (m + 1))
  where
    by : (length votes < m + 1) ⊎ (m + 1 ≤ length votes) → IsRing (m + 1) (b ∷ votes) (ring_with (length votes % (m + 1)) b ring)
    by (inl few) = growing_ring m votes ring b few r
    by (inr many) = full_ring m votes ring b many r

next_misses : (m : ℕ) (votes ring : List Bool) (b : Bool) → IsRing (m + 1) votes ring
    → missed_of (m + 1) (b ∷ votes) ≡ missed_of (m + 1) votes - cond (get_or ring (length votes % (m + 1)) false) 1 0 + cond b 1 0
next_misses m votes ring b r = by (less_or (length votes) (m + 1))
  where
    by : (length votes < m + 1) ⊎ (m + 1 ≤ length votes) → missed_of (m + 1) (b ∷ votes) ≡ missed_of (m + 1) votes - cond (get_or ring (length votes % (m + 1)) false) 1 0 + cond b 1 0
    by (inl few) = growing_misses m votes ring b few r
    by (inr many) = full_misses m votes ring b many r

one_less : (w : ℕ) → 1 ≤ w → w ≡ (w - 1) + 1
one_less w h = omega (arith, h)

pub ring_voted : (w : ℕ) → 1 ≤ w → (votes ring : List Bool) (b : Bool) → IsRing w votes ring → IsRing w (b ∷ votes) (ring_with (length votes % w) b ring)
ring_voted w h votes ring b r =
    let e : w ≡ (w - 1) + 1 = one_less w h in
    subst (λ v. IsRing v (b ∷ votes) (ring_with (length votes % v) b ring)) (sym e)
    (next_ring (w - 1) votes ring b (subst (λ v. IsRing v votes ring) e r))

pub misses_voted : (w : ℕ) → 1 ≤ w → (votes ring : List Bool) (b : Bool) → IsRing w votes ring
    → missed_of w (b ∷ votes) ≡ missed_of w votes - cond (get_or ring (length votes % w) false) 1 0 + cond b 1 0
misses_voted w h votes ring b r =
    let e : w ≡ (w - 1) + 1 = one_less w h in
    subst (λ v. missed_of v (b ∷ votes) ≡ missed_of v votes - cond (get_or ring (length votes % v) false) 1 0 + cond b 1 0) (sym e)
    (next_misses (w - 1) votes ring b (subst (λ v. IsRing v votes ring) e r))

-- a ring has the next place, or its length is that place
pub place_within_ring : (w : ℕ) → 1 ≤ w → (votes ring : List Bool) → IsRing w votes ring → length votes % w ≤ length ring
place_within_ring w h votes ring r = by (less_or (length votes) w)
  where
    some : 0 < w
    some = omega (arith, h)

    by : (length votes < w) ⊎ (w ≤ length votes) → length votes % w ≤ length ring
    by (inl few) = omega (arith, next_low (length votes) w few, ring_length w votes ring r, ap length (take_all w votes (omega (arith, few))))
    by (inr many) = omega (arith, mod-lt (length votes) some, ring_length w votes ring r, length-take-le w votes many)

-- no vote, no place
pub ring_reset : (w : ℕ) → IsRing w [] []
ring_reset w =
    let none : ◌≡◌ {A = List Bool} (drop (0 % w) []) [] = drop_all (0 % w) [] (omega arith) in
    let nor : ◌≡◌ {A = List Bool} (take (0 % w) []) [] = take_all (0 % w) [] (omega arith) in
    (λ i. none i ++ nor i) ∙ sym (ap reverse (take_all w [] (omega arith)))

pub misses_reset : (w : ℕ) → missed_of w [] ≡ 0
misses_reset w = ap (count_where (λ x. x)) (take_all w [] (omega arith))

-- ---- the length of a ring with a vote

pub with_length : (p : ℕ) (b : Bool) (ring : List Bool) → p ≤ length ring → length (ring_with p b ring) ≡ p + (1 + (length ring - (p + 1)))
with_length p b ring h = omega (arith, length-append (take p ring) (b ∷ drop (p + 1) ring), length-take-le p ring h, length-drop (p + 1) ring)

pub with_length_within : (p : ℕ) (b : Bool) (ring : List Bool) → p < length ring → length (ring_with p b ring) ≡ length ring
with_length_within p b ring h = omega (arith, h, with_length p b ring (omega (arith, h)))

pub with_length_behind : (b : Bool) (ring : List Bool) → length (ring_with (length ring) b ring) ≡ length ring + 1
with_length_behind b ring = omega (arith, with_length (length ring) b ring (omega arith))
