-- A record in another window: its ring is read from its next place on, and holds the last votes that both windows have.
use Rattle.std.proofs.Common.{◌≡◌, ◌∙◌, ◌⊎◌, inl, inr, ℕ, ◌+◌, ◌-◌, ◌*◌, ◌%◌, ◌<◌, ◌≤◌, ◌==◌, Bool, true, false, List, [], ◌∷◌, ◌++◌, length, take, drop, min, refl, sym, ap, subst, length-drop, arith, ◌≢◌, ◌&&◌, ◌||◌, nat_lt, reverse, map, if◌then◌else◌, append-nil, length-take, take-append-drop, take-take, take_all, drop_at}
use Rattle.std.proofs.lemmas.{Bool.Decides.nat_tests, Nat.mod-mul-add, List.{length-reverse, reverse-append, drop_all}}
use Rattle.base_roles.specs.declared.entities.SigningInfo.{SigningInfo}
use Rattle.rule_modules.proofs.{ParameterLemmas.{one_resized, resized_each}, TieLemmas.ring_counts_misses}
use Rattle.rule_modules.specs.Window.{IsRing, Signing, Window, missed_of, votes_kept}
use Rattle.mod_signing.specs.{Kept.{Kept, Signed}, Laws.ResizingCarries}
use Rattle.mod_signing.specs.Resizing.{has_room, kept_resized, last_votes_of, next_of, signed_resized, votes_of, with_last}
use Rattle.mod_signing.{specs.Stands.{KeepsSignings, KeepsVotes}, proofs.RingLemmas.{next_low, ring_length, turned}}

-- ---- lists

drop_reversed : (m : ℕ) (xs : List Bool) → drop (length xs - m) (reverse xs) ≡ reverse (take m xs)
drop_reversed m xs =
    let split : reverse xs ≡ reverse (drop m xs) ++ reverse (take m xs) = ap reverse (sym (take-append-drop m xs)) ∙ reverse-append (take m xs) (drop m xs) in
    let size : length (reverse (drop m xs)) ≡ length xs - m = length-reverse (drop m xs) ∙ length-drop m xs in
    ap (drop (length xs - m)) split ∙ drop_at (reverse (drop m xs)) (reverse (take m xs)) (length xs - m) size

less_or : (a c : ℕ) → (a < c) ⊎ (c ≤ a)
less_or a c = grind arith

take_twice : (a b : ℕ) (xs : List Bool) → take a (take b xs) ≡ take (min b a) xs
take_twice a b xs = by (less_or a b)
  where
    smaller : a < b → min b a ≡ a
    smaller l = omega (arith, l)

    greater : b ≤ a → min b a ≡ b
    greater l = omega (arith, l)

    by : (a < b) ⊎ (b ≤ a) → take a (take b xs) ≡ take (min b a) xs
    by (inl l) = take-take a b xs (omega (arith, l)) ∙ ap (λ k. take k xs) (sym (smaller l))
    by (inr m) = take_all a (take b xs) (omega (arith, m, length-take b xs)) ∙ ap (λ k. take k xs) (sym (greater m))

-- ---- a ring that is not full, or has not turned

none_left : (n : ℕ) → 0 < n → n % n ≡ 0
none_left n some = ap (λ x. x % n) (once n) ∙ mod-mul-add 1 n 0 some
  where
    once : (k : ℕ) → k ≡ 1 * k + 0
    once k = omega arith

-- from its next place on it is itself
straight : (window n : ℕ) (ring : List Bool) → length ring ≡ n → n ≤ window → 1 ≤ window → turned (n % window) ring ≡ ring
straight window n ring size most some = by (less_or n window)
  where
    around : n ≡ window → n % window ≡ 0
    around e = ap (λ k. k % window) e ∙ none_left window (omega (arith, some))

    by : (n < window) ⊎ (window ≤ n) → turned (n % window) ring ≡ ring
    by (inl l) =
        let none : drop n ring ≡ [] = drop_all n ring (omega (arith, size)) in
        let whole : take n ring ≡ ring = take_all n ring (omega (arith, size)) in
        ap (λ k. turned k ring) (next_low n window l) ∙ (λ i. none i ++ whole i)
    by (inr m) = ap (λ k. turned k ring) (around (omega (arith, most, m))) ∙ append-nil ring

-- ---- the votes of a ring

module _ (old : ℕ) (some : 1 ≤ old) (votes ring : List Bool) (r : IsRing old votes ring) where
  size : length ring ≡ min old (length votes)
  size = ring_length old votes ring r ∙ length-take old votes

  -- they are the last ones of its window
  pub votes_are : votes_of (length votes) ring ≡ reverse (take old votes)
  votes_are = by (less_or (length votes) old)
    where
      -- where all votes are in it
      fewer : length votes < old → next_of (length votes) (length ring) ≡ 0
      fewer l = by_zero (length ring == 0) refl
        where
          equal : length ring ≡ length votes
          equal = omega (arith, size, l)

          positive : (n : ℕ) → (n == 0) ≡ false → 0 < n
          positive n e = grind (arith, nat_tests, e)

          by_zero : (b : Bool) → (length ring == 0) ≡ b → (if b then 0 else length votes % length ring) ≡ 0
          by_zero true e = refl
          by_zero false e = ap (λ k. length votes % k) equal ∙ none_left (length votes) (subst (λ n. 0 < n) equal (positive (length ring) e))

      full : old ≤ length votes → next_of (length votes) (length ring) ≡ length votes % old
      full m = by_zero (length ring == 0) refl
        where
          equal : length ring ≡ old
          equal = omega (arith, size, m)

          is_zero : (n : ℕ) → (n == 0) ≡ true → n ≡ 0
          is_zero n e = grind (arith, nat_tests)

          by_zero : (b : Bool) → (length ring == 0) ≡ b → (if b then 0 else length votes % length ring) ≡ length votes % old
          by_zero true e = let zero : length ring ≡ 0 = is_zero (length ring) e in absurd (omega (arith, zero, equal, some))
          by_zero false e = ap (λ k. length votes % k) equal

      by : (length votes < old) ⊎ (old ≤ length votes) → votes_of (length votes) ring ≡ reverse (take old votes)
      by (inl l) =
          ap (λ k. turned k ring) (fewer l) ∙ append-nil ring
          ∙ sym (straight old (length votes) ring (omega (arith, size, l)) (omega (arith, l)) some) ∙ r
      by (inr m) = ap (λ k. turned k ring) (full m) ∙ r

  -- the last of them that both windows hold
  pub last_are : (window : ℕ) → last_votes_of window (length votes) ring ≡ reverse (take (min old window) votes)
  last_are window =
      let long : length ring ≡ length (take old votes) = ring_length old votes ring r in
      ap (drop (length ring - window)) votes_are ∙ ap (λ n. drop (n - window) (reverse (take old votes))) long
      ∙ drop_reversed window (take old votes) ∙ ap reverse (take_twice window old votes)

-- votes that a window holds, the earliest first, are its ring
ring_again : (window : ℕ) → 1 ≤ window → (votes ring : List Bool) → length votes ≤ window → ring ≡ reverse votes → IsRing window votes ring
ring_again window some votes ring few is =
    let size : length ring ≡ length votes = ap length is ∙ length-reverse votes in
    straight window (length votes) ring size few some ∙ is ∙ ap reverse (sym (take_all window votes few))

-- ---- one record

module _ (old window : ℕ) (some : 1 ≤ old) (some2 : 1 ≤ window) (k : Signed) (s : Signing) (h : KeepsVotes old k s) where
  counted : k.info.counted ≡ length s.votes
  counted = ap (λ (x : SigningInfo). x.counted) h.info

  places : length k.ring ≡ min old (length s.votes)
  places = ring_length old s.votes k.ring h.ring ∙ length-take old s.votes

  -- of other votes, which are its own
  same_votes : (votes : List Bool) → votes ≡ s.votes → IsRing window s.votes k.ring → KeepsVotes window k (record s { votes = votes })
  same_votes votes e r =
      let misses : missed_of old s.votes ≡ missed_of window s.votes = sym (ring_counts_misses old s.votes k.ring h.ring) ∙ ring_counts_misses window s.votes k.ring r in
      subst (λ vs. KeepsVotes window k (record s { votes = vs })) (sym e) (record {
        info = h.info ∙ (λ i. record { start = s.start; counted = length s.votes; missed = misses i; jailed_until = s.jailed_until; tombstoned = s.tombstoned });
        ring = r;
      })

  -- where it has room, and the window changes, all votes stay
  all_stay : old ≢ window → has_room window (length s.votes) (min old (length s.votes)) ≡ true → length s.votes ≤ min old window
  all_stay n e = by (either (min old (length s.votes) == window) (nat_lt (min old (length s.votes)) window && (length s.votes == min old (length s.votes))) e)
    where
      is : (a b : ℕ) → (a == b) ≡ true → a ≡ b
      is a b t = grind (arith, nat_tests)

      below : (a b : ℕ) → nat_lt a b ≡ true → a < b
      below a b t = grind (arith, nat_tests)

      either : (a b : Bool) → (a || b) ≡ true → (a ≡ true) ⊎ (b ≡ true)
      either true b t = inl refl
      either false b t = inr t

      both : (a b : Bool) → (a && b) ≡ true → (a ≡ true) × (b ≡ true)
      both true b t = (refl, t)
      both false b t = absurd cc

      fills : (n m w : ℕ) → m ≢ w → min m n ≡ w → n ≤ min m w
      fills n m w differ t = grind (arith, differ, t)

      by : ((min old (length s.votes) == window) ≡ true) ⊎ ((nat_lt (min old (length s.votes)) window && (length s.votes == min old (length s.votes))) ≡ true) → length s.votes ≤ min old window
      by (inl t) = fills (length s.votes) old window n (is (min old (length s.votes)) window t)
      by (inr t) =
          let parts = both (nat_lt (min old (length s.votes)) window) (length s.votes == min old (length s.votes)) t in
          omega (arith, below (min old (length s.votes)) window parts.0, is (length s.votes) (min old (length s.votes)) parts.1)

  room : has_room window k.info.counted (length k.ring) ≡ true → old ≢ window → KeepsVotes window k (votes_kept (min old window) s)
  room e n =
      let test : has_room window (length s.votes) (min old (length s.votes)) ≡ true = (λ i. has_room window (sym counted i) (sym places i)) ∙ e in
      let few : length s.votes ≤ min old window = all_stay n test in
      let straight_ring : k.ring ≡ reverse s.votes =
      sym (straight old (length s.votes) k.ring (omega (arith, places, few)) (omega (arith, few)) some) ∙ h.ring ∙ ap reverse (take_all old s.votes (omega (arith, few))) in
      same_votes (take (min old window) s.votes) (take_all (min old window) s.votes few) (ring_again window some2 s.votes k.ring (omega (arith, few)) straight_ring)

  cut : KeepsVotes window (with_last window k) (votes_kept (min old window) s)
  cut =
      let kept : List Bool = take (min old window) s.votes in
      let ring : List Bool = last_votes_of window k.info.counted k.ring in
      let is : ring ≡ reverse kept = ap (λ n. last_votes_of window n k.ring) counted ∙ last_are old some s.votes k.ring h.ring window in
      let few : length kept ≤ window = omega (arith, length-take (min old window) s.votes) in
      let again : IsRing window kept ring = ring_again window some2 kept ring few is in
      record {
        info = λ i. record {
          start = (h.info i).start;
          counted = (ap length is ∙ length-reverse kept) i;
          missed = ring_counts_misses window kept ring again i;
          jailed_until = (h.info i).jailed_until;
          tombstoned = (h.info i).tombstoned;
        };
        ring = again;
      }

  -- where it has none, the window changes
  changes : has_room window (length s.votes) (min old (length s.votes)) ≡ false → old ≢ window
  changes e f = none (subst (λ n. has_room n (length s.votes) (min old (length s.votes)) ≡ false) (sym f) e)
    where
      none : has_room old (length s.votes) (min old (length s.votes)) ≡ false → ⊥
      none g = grind (arith, nat_tests, g)

  pub record_resized : KeepsVotes window (signed_resized window k) (one_resized old window s)
  record_resized = by (old == window) refl (has_room window k.info.counted (length k.ring)) refl
    where
      is : (a b : ℕ) → (a == b) ≡ true → a ≡ b
      is a b e = grind (arith, nat_tests)

      differ : (a b : ℕ) → (a == b) ≡ false → a ≢ b
      differ a b e = grind (arith, nat_tests)

      by : (same : Bool) → (old == window) ≡ same → (stays : Bool) → has_room window k.info.counted (length k.ring) ≡ stays
          → KeepsVotes window (if stays then k else with_last window k) (if same then s else votes_kept (min old window) s)
      by true e true f = subst (λ n. KeepsVotes n k s) (is old window e) h
      by true e false f = absurd (changes ((λ i. has_room window (sym counted i) (sym places i)) ∙ f) (is old window e))
      by false e true f = room f (differ old window e)
      by false e false f = cut

-- ---- all records

each_resized : (old window : ℕ) → 1 ≤ old → 1 ≤ window → (kept : Kept) (i : Window) → KeepsSignings old kept i → KeepsSignings window (kept_resized window kept) (map (λ e. (e.0, one_resized old window e.1)) i)
each_resized old window some some2 [] [] h = tt
each_resized old window some some2 [] (s ∷ ss) h = absurd h
each_resized old window some some2 (k ∷ ks) [] h = absurd h
each_resized old window some some2 (k ∷ ks) (s ∷ ss) h = (h.0, record_resized old window some some2 k.1 s.1 h.1, each_resized old window some some2 ks ss h.2)

pub resizing_carries : ResizingCarries
resizing_carries old window kept i some some2 h = subst (KeepsSignings window (kept_resized window kept)) (sym (resized_each old window i)) (each_resized old window some some2 kept i h)
