-- What the calls put, as the records that follow from it; and that the numbers of a record fit.
use Rattle.std.proofs.Common.{Bor, ◌≡◌, ◌∙◌, ◌⊎◌, inl, inr, ℕ, ◌+◌, ◌/◌, ◌%◌, ◌<◌, ◌≤◌, max, Bool, true, false, List, [], ◌∷◌, length, take, get_or, Option, Some, None, refl, sym, ap, subst, arith, ◌&&◌, nat_lt, option_map, IsSome, is_some, option_copied, length-take, take_all}
use Rattle.base_types.specs.Orders.{cons_cmp}
use Rattle.base_roles.specs.{declared.{entities.SigningInfo.SigningInfo, params.Ctx.Ctx}, Entries.{at, with}}
use Rattle.base_roles.specs.Lent.{IsBanned}
use Rattle.rule_modules.specs.Window.{Signing, Window, IsRing, info_of, signing_of, reset_at}
use Rattle.rule_modules.{specs.Amounts.{count_where, seconds}, proofs.TieLemmas.ring_counts_misses}
use Rattle.mod_signing.specs.declared.entry.Entry.{Entry}
use Rattle.mod_signing.specs.Calls.{HasEntry, IsRow, begun_entry, told_of_entry, told_of_signed, one_more, ring_at, ring_if}
use Rattle.mod_signing.specs.{Kept.{Signed, Kept, signed_of, with_signed}, Rings.{is_set, ring_with}}
use Rattle.mod_signing.specs.Stands.{KeepsSignings, KeepsVotes, IsKept, bans_if, bans_kept, infos_of}
use Rattle.mod_signing.proofs.{DownLemmas.reset_is, InfoLemmas.{few_set, info_at, infos_with, some_set, was_set}}
use Rattle.mod_signing.proofs.RingLemmas.{place_within_ring, ring_length, with_length_behind, with_length_within}
use Rattle.mod_signing.proofs.StandLemmas.{begun_signed, keeps_with, plain_at, stands_at, stands_reset, stands_voted}
use Rattle.mod_signing.proofs.UptoLemmas.{at_end}

-- ---- the entry that was found

some_pair : {A : Type 0} (a : A) (b : ℕ) (p q : A × ℕ) → p ≡ (a, b) → Some p ≡ Some q → (a ≡ q.0) × (b ≡ q.1)
some_pair a b p q e f = let same : p ≡ q = cc in (sym (ap (λ x. x.0) e) ∙ ap (λ x. x.0) same, sym (ap (λ x. x.1) e) ∙ ap (λ x. x.1) same)

module _ (kept : Kept) (cons : List ℕ) where
  pub entry_has : (r : Option Entry) → told_of_entry r ≡ told_of_signed (signed_of kept cons) → (x : Entry) → r ≡ Some x → HasEntry cons x.info x.places kept
  entry_has r found x e = by (signed_of kept cons) refl (ap told_of_entry (sym e) ∙ found)
    where
      by : (o : Option Signed) → signed_of kept cons ≡ o → Some (x.info, x.places) ≡ told_of_signed o → HasEntry cons x.info x.places kept
      by None f g = absurd cc
      by (Some s) f g = let parts = some_pair x.info x.places (x.info, x.places) (s.info, length s.ring) refl g in (s, (f, (parts.0, parts.1)))

  pub entry_none : (r : Option Entry) → told_of_entry r ≡ told_of_signed (signed_of kept cons) → r ≡ None → signed_of kept cons ≡ None
  entry_none r found e = by (signed_of kept cons) refl (ap told_of_entry (sym e) ∙ found)
    where
      by : (o : Option Signed) → signed_of kept cons ≡ o → None ≡ told_of_signed o → signed_of kept cons ≡ None
      by None f g = f
      by (Some s) f g = absurd cc

  module _ (info : SigningInfo) (places : ℕ) (h : HasEntry cons info places kept) where
    abbrev record_is : Signed
    record_is = h.0

    ring_is : ring_at kept cons ≡ record_is.ring
    ring_is = ap ring_if h.1.0

    info_is : info ≡ record_is.info
    info_is = h.1.1.0

    pub places_are : places ≡ length (ring_at kept cons)
    places_are = h.1.1.1 ∙ sym (ap length ring_is)

    pub whole_ring : take places (ring_at kept cons) ≡ record_is.ring
    whole_ring = ap (take places) ring_is ∙ take_all places record_is.ring (omega (arith, h.1.1.1))

    -- ---- banned

    pub ban_is : (until : ℕ) → with_signed cons (record { info = record info { jailed_until = until; tombstoned = true }; ring = take places (ring_at kept cons) }) kept ≡ bans_kept cons until kept
    ban_is until =
        (λ i. with_signed cons (record { info = record (info_is i) { jailed_until = until; tombstoned = true }; ring = whole_ring i }) kept)
        ∙ sym (ap (λ o. bans_if o cons until kept) h.1.0)

    pub ban-banned : (until : ℕ) → IsBanned cons until (infos_of kept) (infos_of (with_signed cons (record { info = record info { jailed_until = until; tombstoned = true }; ring = take places (ring_at kept cons) }) kept))
    ban-banned until = (
      info,
      (
        info_at kept cons ∙ ap (option_map (λ s. s.info)) h.1.0 ∙ ap Some (sym info_is),
        infos_with kept cons (record { info = record info { jailed_until = until; tombstoned = true }; ring = take places (ring_at kept cons) }),
      ),
    )

    -- ---- begun again

    pub begun_is : (new : SigningInfo) (height : ℕ) → with_signed cons (record { info = record info { start = height }; ring = take places (ring_at kept cons) }) kept ≡ with_signed cons (begun_signed new height (signed_of kept cons)) kept
    begun_is new height =
        (λ i. with_signed cons (record { info = record (info_is i) { start = height }; ring = whole_ring i }) kept)
        ∙ sym (ap (λ o. with_signed cons (begun_signed new height o) kept) h.1.0)

    -- ---- counted and reset

    module _ (w : ℕ) (i : Window) (keeps : KeepsSignings w kept i) (s : Signing) (found : signing_of i cons ≡ Some s) where
      votes_kept : KeepsVotes w record_is s
      votes_kept = stands_at w kept i cons record_is s keeps h.1.0 found

      pub keeps_counted : 1 ≤ w → (b : Bool) (next : SigningInfo) → next ≡ info_of w (record s { votes = b ∷ s.votes })
          → KeepsSignings w (with_signed cons (record { info = next; ring = ring_with (info.counted % w) b (ring_at kept cons) }) kept) (with cons_cmp i cons (record s { votes = b ∷ s.votes }))
      keeps_counted some b next e =
          let step = stands_voted w some b record_is s votes_kept in
          let here : ring_with (record_is.info.counted % w) b record_is.ring ≡ ring_with (info.counted % w) b (ring_at kept cons) = (λ j. ring_with (ap (λ x. x.counted % w) (sym info_is) j) b (sym ring_is j)) in
          keeps_with w cons (record { info = next; ring = ring_with (info.counted % w) b (ring_at kept cons) }) (record s { votes = b ∷ s.votes }) kept i
          (record { info = e; ring = subst (IsRing w (b ∷ s.votes)) here step.ring }) keeps

    pub keeps_reset : (c : Ctx) (i : Window) → KeepsSignings c.params.signed_blocks_window kept i → (s : Signing) (next : SigningInfo) → next ≡ info_of c.params.signed_blocks_window (reset_at c s)
        → KeepsSignings c.params.signed_blocks_window (with_signed cons (record { info = next; ring = take 0 (ring_at kept cons) }) kept) (with cons_cmp i cons (reset_at c s))
    keeps_reset c i keeps s next e = keeps_with c.params.signed_blocks_window cons (record { info = next; ring = [] }) (reset_at c s) kept i (stands_reset c next s e) keeps

    -- the records stand for some plain ones still
    module _ (w : ℕ) (k : IsKept w kept) (b : Bool) (next : SigningInfo) (told : (r : Signed) → signed_of kept cons ≡ Some r → (s : Signing) → KeepsVotes w r s → next ≡ info_of w (record s { votes = b ∷ s.votes })) (kept2 : Kept) where
      abbrev plain_one : (s : Signing) × ((signing_of k.0 cons ≡ Some s) × KeepsVotes w record_is s)
      plain_one = plain_at w kept k.0 cons record_is k.1 h.1.0

      next_is : next ≡ info_of w (record plain_one.0 { votes = b ∷ plain_one.0.votes })
      next_is = told record_is h.1.0 plain_one.0 plain_one.1.1

      pub kept_counted : 1 ≤ w → kept2 ≡ with_signed cons (record { info = next; ring = ring_with (info.counted % w) b (ring_at kept cons) }) kept → IsKept w kept2
      kept_counted some is = (
        with cons_cmp k.0 cons (record plain_one.0 { votes = b ∷ plain_one.0.votes }),
        subst (λ x. KeepsSignings w x (with cons_cmp k.0 cons (record plain_one.0 { votes = b ∷ plain_one.0.votes }))) (sym is) (keeps_counted w k.0 k.1 plain_one.0 plain_one.1.0 some b next next_is),
      )

      pub kept_reset : (c : Ctx) → c.params.signed_blocks_window ≡ w → (until : ℕ) → until ≡ c.time + seconds c.params.downtime_jail_duration
          → kept2 ≡ with_signed cons (record { info = record next { counted = 0; missed = 0; jailed_until = until }; ring = take 0 (ring_at kept cons) }) kept → IsKept w kept2
      kept_reset c same until u is =
          let s = record plain_one.0 { votes = b ∷ plain_one.0.votes } in
          let e : next ≡ info_of c.params.signed_blocks_window s = next_is ∙ ap (λ n. info_of n s) (sym same) in
          let new : KeepsSignings c.params.signed_blocks_window (with_signed cons (record { info = record next { counted = 0; missed = 0; jailed_until = until }; ring = take 0 (ring_at kept cons) }) kept) (with cons_cmp k.0 cons (reset_at c s))
          = keeps_reset c k.0 (subst (λ n. KeepsSignings n kept k.0) (sym same) k.1) s (record next { counted = 0; missed = 0; jailed_until = until }) (reset_is c next s until e u) in
          (with cons_cmp k.0 cons (reset_at c s), subst (λ n. KeepsSignings n kept2 (with cons_cmp k.0 cons (reset_at c s))) same (subst (λ x. KeepsSignings c.params.signed_blocks_window x (with cons_cmp k.0 cons (reset_at c s))) (sym is) new))

    -- ---- what a vote is counted from

    -- the info with one more vote
    pub counted_is : (w : ℕ) → 1 ≤ w → (b : Bool) (place row : ℕ) → place ≡ info.counted % w → IsRow (place / 128) row (ring_at kept cons)
        → (k : Signed) → signed_of kept cons ≡ Some k → (s : Signing) → KeepsVotes w k s
        → one_more (nat_lt place places && is_set row (place % 128)) b info ≡ info_of w (record s { votes = b ∷ s.votes })
    counted_is w some b place row at_place is k e s votes =
        let same : record_is ≡ k = some_is record_is k (sym h.1.0 ∙ e) in
        let own : KeepsVotes w record_is s = subst (λ r. KeepsVotes w r s) (sym same) votes in
        let step = stands_voted w some b record_is s own in
        let was : (nat_lt place places && is_set row (place % 128)) ≡ get_or record_is.ring (record_is.info.counted % w) false
        = ap (λ n. nat_lt place n && is_set row (place % 128)) places_are ∙ was_set (ring_at kept cons) place row is
        ∙ (λ j. get_or (ring_is j) ((at_place ∙ ap (λ x. x.counted % w) info_is) j) false) in
        (λ j. one_more (was j) b (info_is j)) ∙ step.info
      where
        some_is : {A : Type 0} (x y : A) → Some x ≡ Some y → x ≡ y
        some_is x y f = cc

    -- numbers that fit
    module _ (w : ℕ) (kept_is : IsKept w kept) where
      abbrev plain : (s : Signing) × ((signing_of kept_is.0 cons ≡ Some s) × KeepsVotes w record_is s)
      plain = plain_at w kept kept_is.0 cons record_is kept_is.1 h.1.0

      misses : info.missed ≡ count_where (λ x. x) (ring_at kept cons)
      misses = ap (λ x. x.missed) (info_is ∙ plain.1.1.info) ∙ sym (ring_counts_misses w plain.0.votes record_is.ring plain.1.1.ring) ∙ ap (count_where (λ x. x)) (sym ring_is)

      counted : info.counted ≡ length plain.0.votes
      counted = ap (λ x. x.counted) (info_is ∙ plain.1.1.info)

      pub misses_some : (place : ℕ) → get_or (ring_at kept cons) place false ≡ true → 1 ≤ info.missed
      misses_some place e = omega (arith, misses, some_set (ring_at kept cons) place e)

      pub misses_if : (place row : ℕ) → IsRow (place / 128) row (ring_at kept cons) → (nat_lt place places && is_set row (place % 128)) ≡ true → 1 ≤ info.missed
      misses_if place row is e = misses_some place (sym (ap (λ n. nat_lt place n && is_set row (place % 128)) places_are ∙ was_set (ring_at kept cons) place row is) ∙ e)

      pub misses_few : info.missed ≤ info.counted
      misses_few = omega (arith, misses, few_set (ring_at kept cons), ap length ring_is, ring_length w plain.0.votes record_is.ring plain.1.1.ring, taken w plain.0.votes, counted)
        where
          taken : (n : ℕ) (votes : List Bool) → length (take n votes) ≤ length votes
          taken n votes = omega (arith, length-take n votes)

      pub place_fits : 1 ≤ w → info.counted % w ≤ length (ring_at kept cons)
      place_fits some =
          subst (λ r. info.counted % w ≤ length r) (sym ring_is)
          (subst (λ n. n % w ≤ length record_is.ring) (sym counted) (place_within_ring w some plain.0.votes record_is.ring plain.1.1.ring))

      pub places_next : (b : Bool) (place : ℕ) → place ≤ length (ring_at kept cons) → max places (place + 1) ≡ length (ring_with place b (ring_at kept cons))
      places_next b place within = by (at_end place (length (ring_at kept cons)) within)
        where
          by : (place ≡ length (ring_at kept cons)) ⊎ (place < length (ring_at kept cons)) → max places (place + 1) ≡ length (ring_with place b (ring_at kept cons))
          by (inr l) = let n = with_length_within place b (ring_at kept cons) l in let m = places_are in grind (arith, n, m, l)
          by (inl e) =
              let n : length (ring_with place b (ring_at kept cons)) ≡ place + 1 = ap (λ k. length (ring_with k b (ring_at kept cons))) e ∙ with_length_behind b (ring_at kept cons) ∙ ap (λ k. k + 1) (sym e) in
              let m = places_are in grind (arith, n, m, e)

-- ---- an entry that begins

module _ (kept : Kept) (cons : List ℕ) (height : ℕ) where
  -- the places are of the ring
  pub begun_places : (r : Option Entry) → told_of_entry r ≡ told_of_signed (signed_of kept cons) → (begun_entry height r).places ≤ length (ring_at kept cons)
  begun_places None found = omega arith
  begun_places (Some x) found = let e = places_are kept cons x.info x.places (entry_has kept cons (Some x) found x refl) in omega (arith, e)

  -- what is put
  pub begun_put : (r : Option Entry) → told_of_entry r ≡ told_of_signed (signed_of kept cons)
      → with_signed cons (record { info = (begun_entry height r).info; ring = take (begun_entry height r).places (ring_at kept cons) }) kept ≡ with_signed cons (begun_signed (begun_entry height None).info height (signed_of kept cons)) kept
  begun_put None found = ap (λ o. with_signed cons (begun_signed (begun_entry height None).info height o) kept) (sym (entry_none kept cons None found refl))
  begun_put (Some x) found = begun_is kept cons x.info x.places (entry_has kept cons (Some x) found x refl) (begun_entry height None).info height

-- an entry stands where an info does
pub entry_there : (kept : Kept) (cons : List ℕ) (r : Option Entry) → told_of_entry r ≡ told_of_signed (signed_of kept cons) → IsSome (at cons_cmp (infos_of kept) cons) → IsSome r
entry_there kept cons (Some x) found h = refl
entry_there kept cons None found h = absurd (no_some (ap (option_map (λ s. s.info)) (entry_none kept cons None found refl)))
  where
    no_some : option_map (λ s. s.info) (signed_of kept cons) ≡ None → ⊥
    no_some e = none_some (sym h ∙ ap is_some (info_at kept cons ∙ e))
      where
        none_some : true ≡ false → ⊥
        none_some f = absurd cc

pub copied_some : {A : Type 0} (x : Option (Bor A)) → IsSome (option_copied x) → IsSome x
copied_some None h = absurd cc
copied_some (Some a) h = refl
