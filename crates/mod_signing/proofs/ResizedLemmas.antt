-- A walk that resizes one record after another; one record that it resizes; and the votes that are read of a ring, from its next
-- place around its end.
use Rattle.std.proofs.Common.{◌≡◌, ◌∙◌, ◌⊎◌, inl, inr, ℕ, ◌+◌, ◌-◌, ◌%◌, ◌<◌, ◌≤◌, ◌==◌, Bool, true, false, cond, List, [], ◌∷◌, ◌++◌, Option, Some, None, length, take, drop, get_or, refl, sym, ap, subst, append_assoc, length-drop, mod-lt, arith, ◌≢◌, ◌&&◌, if◌then◌else◌, map, slice_get, option_map, Result, Ok, Err, OnOk, OnErr, Ordering, Greater, Less, is_eq, is_lt, append-nil, length-take, length-take-le, take_all, get_or-append-add, get_or-drop, get_or-take}
use Rattle.std.specs.{Prelude.⊤, declared.ops.Bound.TheVariants.{Excluded, Unbounded}, BTreeMap.{insert_entry, is_at}}
use Rattle.std.specs.{BTreeMap.Range.entries_between, Cmp.{IsTotalOrder, tied_itself}, List.AllByRecursion}
use Rattle.std.specs.{List.Sorted.IsStrictlySortedBy, Map.{keys_of, lookup}}
use Rattle.std.{specs.Ordering.{match_ordering, ordering_reverse}, proofs.lemmas.Bool.Decides.nat_tests}
use Rattle.std.proofs.lemmas.List.{map-append, drop_all, take_more, drop-append-le, get_or_append_left}
use Rattle.std.proofs.lemmas.Option.{get_or_from_slice_get}
use Rattle.base_types.specs.Orders.{cons_cmp}
use Rattle.base_table.specs.Tabled.{entry_above, first_of}
use Rattle.base_roles.specs.declared.entities.SigningInfo.{SigningInfo}
use Rattle.base_records.proofs.WalkLemmas.{left_of, walk-end, walk-more}
use Rattle.rule_modules.specs.Amounts.{count_where}
use Rattle.mod_signing.specs.{declared.entry.Entry.Entry, Calls.{HasEntry, entry_told, ring_at, ring_if, signed_told}}
use Rattle.mod_signing.specs.Items.{signed_over}
use Rattle.mod_signing.specs.Kept.{Signed, Kept, Windowed, AreInOrder, keeping, kept_of, signed_of, with_signed}
use Rattle.mod_signing.specs.Resizing.{has_room, kept_resized, last_votes_of, next_of, resized_at, signed_resized, votes_of, with_last}
use Rattle.mod_signing.{specs.Rings.{Rows, place_set}, proofs.RingLemmas.{turned, turned_length}}
use Rattle.mod_signing.proofs.{TableLemmas.cons_total, UptoLemmas.first_length}

some_is : {A : Type 0} (a b : A) → Some a ≡ Some b → a ≡ b
some_is a b e = cc

less_or : (a c : ℕ) → (a < c) ⊎ (c ≤ a)
less_or a c = grind arith

-- ---- one entry of a list in the order of its keys

module _ {K X : Type 0} (cmp : K → K → Ordering) where
  at_key : (P : K → Type 0) (f rest : List (K × X)) (k : K) (v : X) → AllByRecursion P (keys_of (f ++ (k, v) ∷ rest)) → P k
  at_key P [] rest k v h = h.0
  at_key P (x ∷ f) rest k v h = at_key P f rest k v h.1

  -- its keys are the same, whatever stands at one of them
  keys_again : (f rest : List (K × X)) (k : K) (v w : X) → keys_of (f ++ (k, w) ∷ rest) ≡ keys_of (f ++ (k, v) ∷ rest)
  keys_again [] rest k v w = refl
  keys_again (x ∷ f) rest k v w = ap (λ l. x.0 ∷ l) (keys_again f rest k v w)

  module _ (o : IsTotalOrder cmp) where
    above : (x : K × X) (f rest : List (K × X)) (k : K) (v : X) → AllByRecursion (λ y. cmp x.0 y ≡ Less) (keys_of (f ++ (k, v) ∷ rest)) → cmp k x.0 ≡ Greater
    above x f rest k v h = o.antisymm k x.0 ∙ ap ordering_reverse (at_key (λ y. cmp x.0 y ≡ Less) f rest k v h)

    -- another value is put in its place
    put_past : (f rest : List (K × X)) (k : K) (v w : X) → IsStrictlySortedBy cmp (keys_of (f ++ (k, v) ∷ rest)) → insert_entry cmp (f ++ (k, v) ∷ rest) k w ≡ f ++ (k, w) ∷ rest
    unfolding IsStrictlySortedBy
    put_past [] rest k v w s = ap (λ r. match_ordering r ((k, w) ∷ (k, v) ∷ rest) ((k, w) ∷ rest) ((k, v) ∷ insert_entry cmp rest k w)) (tied_itself o k)
    put_past (x ∷ f) rest k v w s =
        ap (λ r. match_ordering r ((k, w) ∷ x ∷ (f ++ (k, v) ∷ rest)) ((x.0, w) ∷ (f ++ (k, v) ∷ rest)) (x ∷ insert_entry cmp (f ++ (k, v) ∷ rest) k w)) (above x f rest k v s.0)
        ∙ ap (λ l. x ∷ l) (put_past f rest k v w s.1)

    -- it is found
    found_past : (f rest : List (K × X)) (k : K) (v : X) → IsStrictlySortedBy cmp (keys_of (f ++ (k, v) ∷ rest)) → lookup (is_at (cmp k)) (f ++ (k, v) ∷ rest) ≡ Some v
    unfolding IsStrictlySortedBy
    found_past [] rest k v s = ap (λ r. cond (is_eq r) (Some v) (lookup (is_at (cmp k)) rest)) (tied_itself o k)
    found_past (x ∷ f) rest k v s =
        ap (λ r. cond (is_eq r) (Some x.1) (lookup (is_at (cmp k)) (f ++ (k, v) ∷ rest))) (above x f rest k v s.0) ∙ found_past f rest k v s.1

    -- and behind it the rest is left
    left_past : (f rest : List (K × X)) (k : K) (v : X) → IsStrictlySortedBy cmp (keys_of (f ++ (k, v) ∷ rest)) → left_of cmp (f ++ (k, v) ∷ rest) (Some k) ≡ rest
    unfolding IsStrictlySortedBy
    left_past [] rest k v s =
        let more : (k, v) ∷ rest ≡ (k, v) ∷ left_of cmp ((k, v) ∷ rest) (Some k) = walk-more cmp o ((k, v) ∷ rest) None (k, v) s refl in
        let same : rest ≡ left_of cmp ((k, v) ∷ rest) (Some k) = cc in
        sym same
    left_past (x ∷ f) rest k v s =
        ap (λ r. cond (is_lt r && true) (x ∷ entries_between cmp (Excluded k) Unbounded (f ++ (k, v) ∷ rest)) (entries_between cmp (Excluded k) Unbounded (f ++ (k, v) ∷ rest))) (above x f rest k v s.0)
        ∙ left_past f rest k v s.1

-- ---- the records, some of them resized

-- the records behind which the walk is were resized, and the others stand as they did
abbrev pub ResizedUpTo : ℕ → Kept → Kept → Option (List ℕ) → Type 0
ResizedUpTo window old now after = (front : Kept) × ((old ≡ front ++ left_of cons_cmp now after) × (now ≡ kept_resized window front ++ left_of cons_cmp now after))

pub resized-none : (window : ℕ) (kept : Kept) → ResizedUpTo window kept kept None
resized-none window kept = ([], (refl, refl))

resized-all : (window : ℕ) (old now : Kept) (after : Option (List ℕ)) → ResizedUpTo window old now after → entry_above cons_cmp now after ≡ None → now ≡ kept_resized window old
resized-all window old now after r none =
    let end : left_of cons_cmp now after ≡ [] = walk-end cons_cmp now after none in
    let was : old ≡ r.0 = r.1.0 ∙ ap (λ l. r.0 ++ l) end ∙ append-nil r.0 in
    r.1.1 ∙ ap (λ l. kept_resized window r.0 ++ l) end ∙ append-nil (kept_resized window r.0) ∙ ap (kept_resized window) (sym was)

-- one record in its place
one_changed : (window : ℕ) (f rest : Kept) (cons : List ℕ) (s : Signed) → IsStrictlySortedBy cons_cmp (keys_of (f ++ (cons, s) ∷ rest))
    → resized_at window cons (Some s) (f ++ (cons, s) ∷ rest) ≡ f ++ (cons, signed_resized window s) ∷ rest
one_changed window f rest cons s sorted = by (has_room window s.info.counted (length s.ring))
  where
    by : (b : Bool) → (if b then f ++ (cons, s) ∷ rest else with_signed cons (with_last window s) (f ++ (cons, s) ∷ rest)) ≡ f ++ (cons, if b then s else with_last window s) ∷ rest
    by true = refl
    by false = put_past cons_cmp cons_total f rest cons s (with_last window s) sorted

-- what the next record is told by
some_entry : (told : List ℕ × SigningInfo × ℕ) (x : Option (List ℕ × Signed)) → Some told ≡ option_map signed_told x
    → (s : Signed) × ((x ≡ Some (told.0, s)) × ((told.1 ≡ s.info) × (told.2 ≡ length s.ring)))
some_entry told None h = absurd cc
some_entry told (Some e) h =
    let same : told ≡ signed_told e = some_is told (signed_told e) h in
    (e.1, (ap (λ (t : List ℕ × SigningInfo × ℕ). Some (t.0, e.1)) (sym same), (ap (λ (t : List ℕ × SigningInfo × ℕ). t.1) same, ap (λ (t : List ℕ × SigningInfo × ℕ). t.2) same)))

no_entry : (x : Option (List ℕ × Signed)) → None ≡ option_map signed_told x → x ≡ None
no_entry None h = refl
no_entry (Some e) h = absurd cc

-- the record behind the last one is resized
module _ (window : ℕ) (old now : Kept) (after : Option (List ℕ)) (cons : List ℕ) (s : Signed) (sorted : AreInOrder now) (r : ResizedUpTo window old now after) (f : entry_above cons_cmp now after ≡ Some (cons, s)) where
  abbrev front : Kept
  front = kept_resized window r.0

  abbrev rest : Kept
  rest = left_of cons_cmp now (Some cons)

  abbrev next : Kept
  next = front ++ (cons, signed_resized window s) ∷ rest

  left : left_of cons_cmp now after ≡ (cons, s) ∷ rest
  left = walk-more cons_cmp cons_total now after (cons, s) sorted f

  split : now ≡ front ++ (cons, s) ∷ rest
  split = r.1.1 ∙ ap (λ l. front ++ l) left

  in_order : IsStrictlySortedBy cons_cmp (keys_of (front ++ (cons, s) ∷ rest))
  in_order = subst (λ l. IsStrictlySortedBy cons_cmp (keys_of l)) split sorted

  record_found : signed_of now cons ≡ Some s
  record_found = ap (λ l. signed_of l cons) split ∙ found_past cons_cmp cons_total front rest cons s in_order

  changed : resized_at window cons (signed_of now cons) now ≡ next
  changed =
      ap (λ x. resized_at window cons x now) record_found ∙ ap (λ l. resized_at window cons (Some s) l) split
      ∙ one_changed window front rest cons s in_order

  behind_it : left_of cons_cmp next (Some cons) ≡ rest
  behind_it =
      left_past cons_cmp cons_total front rest cons (signed_resized window s)
      (subst (IsStrictlySortedBy cons_cmp) (sym (keys_again cons_cmp front rest cons s (signed_resized window s))) in_order)

  one_more : front ++ (cons, signed_resized window s) ∷ [] ≡ kept_resized window (r.0 ++ (cons, s) ∷ [])
  one_more = sym (map-append (λ (e : List ℕ × Signed). (e.0, signed_resized window e.1)) r.0 ((cons, s) ∷ []))

  -- these records are those of the next turn
  resized-more : (now2 : Kept) → now2 ≡ resized_at window cons (signed_of now cons) now → ResizedUpTo window old now2 (Some cons)
  resized-more now2 e = subst (λ l. ResizedUpTo window old l (Some cons)) (sym (e ∙ changed)) (
    r.0 ++ (cons, s) ∷ [],
    (
      r.1.0 ∙ ap (λ l. r.0 ++ l) left ∙ sym (append_assoc r.0 ((cons, s) ∷ []) rest) ∙ ap (λ l. (r.0 ++ (cons, s) ∷ []) ++ l) (sym behind_it),
      sym (append_assoc front ((cons, signed_resized window s) ∷ []) rest) ∙ (λ i. one_more i ++ sym behind_it i),
    ),
  )

  -- and fewer are left
  resized-shorter : (now2 : Kept) → now2 ≡ resized_at window cons (signed_of now cons) now → length (left_of cons_cmp now2 (Some cons)) < length (left_of cons_cmp now after)
  resized-shorter now2 e =
      let was : length (left_of cons_cmp now after) ≡ length ((cons, s) ∷ rest) = ap length left in
      let is : length (left_of cons_cmp now2 (Some cons)) ≡ length rest = ap (λ l. length (left_of cons_cmp l (Some cons))) (e ∙ changed) ∙ ap length behind_it in
      omega (arith, was, is)

-- the same of the record that is told
module _ (window : ℕ) (old now : Kept) (above after : Option (List ℕ)) (same : above ≡ after) (told : List ℕ × SigningInfo × ℕ) (next : Some told ≡ option_map signed_told (entry_above cons_cmp now above)) (sorted : AreInOrder now) (r : ResizedUpTo window old now after) where
  found : (s : Signed) × ((entry_above cons_cmp now after ≡ Some (told.0, s)) × ((told.1 ≡ s.info) × (told.2 ≡ length s.ring)))
  found = some_entry told (entry_above cons_cmp now after) (next ∙ ap (λ a. option_map signed_told (entry_above cons_cmp now a)) same)

  pub told_has : HasEntry told.0 told.1 told.2 now
  told_has = (found.0, (record_found window old now after told.0 found.0 sorted r found.1.0, found.1.1))

  pub told_more : (now2 : Kept) → now2 ≡ resized_at window told.0 (signed_of now told.0) now → ResizedUpTo window old now2 (Some told.0)
  told_more = resized-more window old now after told.0 found.0 sorted r found.1.0

  pub told_shorter : (now2 : Kept) → now2 ≡ resized_at window told.0 (signed_of now told.0) now → length (left_of cons_cmp now2 (Some told.0)) < length (left_of cons_cmp now after)
  told_shorter = resized-shorter window old now after told.0 found.0 sorted r found.1.0

-- and where none is told, all are resized
pub told_all : (window : ℕ) (old now : Kept) (above after : Option (List ℕ)) → above ≡ after → None ≡ option_map signed_told (entry_above cons_cmp now above) → ResizedUpTo window old now after → now ≡ kept_resized window old
told_all window old now above after same none r = resized-all window old now after r (no_entry (entry_above cons_cmp now after) (none ∙ ap (λ a. option_map signed_told (entry_above cons_cmp now a)) same))

-- ---- one record

module _ (window : ℕ) (cons : List ℕ) (info : SigningInfo) (places : ℕ) (kept : Kept) (h : HasEntry cons info places kept) where
  same_room : has_room window info.counted places ≡ has_room window h.0.info.counted (length h.0.ring)
  same_room = λ i. has_room window (h.1.1.0 i).counted (h.1.1.1 i)

  by_room : (b : Bool) → has_room window info.counted places ≡ b → resized_at window cons (signed_of kept cons) kept ≡ (if b then kept else with_signed cons (with_last window h.0) kept)
  by_room b t = ap (λ x. resized_at window cons x kept) h.1.0 ∙ ap (λ c. if c then kept else with_signed cons (with_last window h.0) kept) (sym same_room ∙ t)

  -- one that has room stays
  pub record_kept : has_room window info.counted places ≡ true → kept ≡ resized_at window cons (signed_of kept cons) kept
  record_kept t = sym (by_room true t)

  -- of another the last votes are put, with their numbers
  pub record_cut : has_room window info.counted places ≡ false → (votes : List Bool) (counted missed : ℕ) → votes ≡ last_votes_of window info.counted (ring_at kept cons) → counted ≡ length votes
      → missed ≡ count_where (λ x. x) votes
      → with_signed cons (record { info = record info { counted = counted; missed = missed }; ring = votes }) kept ≡ resized_at window cons (signed_of kept cons) kept
  record_cut t votes counted missed v n m =
      let is : votes ≡ last_votes_of window h.0.info.counted h.0.ring = v ∙ (λ i. last_votes_of window (h.1.1.0 i).counted (ring_if (h.1.0 i))) in
      let size : counted ≡ (with_last window h.0).info.counted = n ∙ ap length is in
      let misses : missed ≡ (with_last window h.0).info.missed = m ∙ ap (count_where (λ x. x)) is in
      (λ i. with_signed cons (record { info = record (h.1.1.0 i) { counted = size i; missed = misses i }; ring = is i }) kept) ∙ sym (by_room false t)

-- once memory was wanting, it stays so
pub spent_stays : {E : Type 0} (old new : Windowed) (k : Kept) (r : Result ⊤ E) → OnOk r (new ≡ keeping k old) → OnErr r (new.spent ≡ true) → old.spent ≡ true → new.spent ≡ true
spent_stays old new k (Ok done) p q h = ap (λ (w : Windowed). w.spent) p ∙ h
spent_stays old new k (Err fault) p q h = q

-- ---- the next record of two tables

kept_between : (k : List ℕ) (es : List (List ℕ × Entry)) (rows : Rows) → entries_between cons_cmp (Excluded k) Unbounded (kept_of es rows) ≡ kept_of (entries_between cons_cmp (Excluded k) Unbounded es) rows
kept_between k [] rows = refl
kept_between k (e ∷ es) rows = by (is_lt (cons_cmp k e.0) && true) (kept_between k es rows)
  where
    by : (b : Bool) → entries_between cons_cmp (Excluded k) Unbounded (kept_of es rows) ≡ kept_of (entries_between cons_cmp (Excluded k) Unbounded es) rows
        → cond b ((e.0, signed_over rows e.0 e.1) ∷ entries_between cons_cmp (Excluded k) Unbounded (kept_of es rows)) (entries_between cons_cmp (Excluded k) Unbounded (kept_of es rows))
        ≡ kept_of (cond b (e ∷ entries_between cons_cmp (Excluded k) Unbounded es) (entries_between cons_cmp (Excluded k) Unbounded es)) rows
    by true later = ap (λ l. (e.0, signed_over rows e.0 e.1) ∷ l) later
    by false later = later

kept_first : (es : List (List ℕ × Entry)) (rows : Rows) → first_of (kept_of es rows) ≡ option_map (λ e. (e.0, signed_over rows e.0 e.1)) (first_of es)
kept_first [] rows = refl
kept_first (e ∷ es) rows = refl

kept_above : (es : List (List ℕ × Entry)) (rows : Rows) (after : Option (List ℕ)) → entry_above cons_cmp (kept_of es rows) after ≡ option_map (λ e. (e.0, signed_over rows e.0 e.1)) (entry_above cons_cmp es after)
kept_above es rows None = kept_first es rows
kept_above es rows (Some k) = ap first_of (kept_between k es rows) ∙ kept_first (entries_between cons_cmp (Excluded k) Unbounded es) rows

-- it is told by the same
pub told_above : (es : List (List ℕ × Entry)) (rows : Rows) (after : Option (List ℕ)) → option_map entry_told (entry_above cons_cmp es after) ≡ option_map signed_told (entry_above cons_cmp (kept_of es rows) after)
told_above es rows after = by (entry_above cons_cmp es after) ∙ sym (ap (option_map signed_told) (kept_above es rows after))
  where
    by : (x : Option (List ℕ × Entry)) → option_map entry_told x ≡ option_map signed_told (option_map (λ e. (e.0, signed_over rows e.0 e.1)) x)
    by None = refl
    by (Some e) = ap (λ n. Some (e.0, e.1.info, n)) (sym (first_length (place_set rows e.0) e.1.places))

-- a value told of another one
pub fused : {A B C : Type 0} (f : B → C) (g : A → B) (x : Option A) → option_map (λ a. f (g a)) x ≡ option_map f (option_map g x)
fused f g None = refl
fused f g (Some a) = refl

-- ---- the votes of a ring

pub next_none : (counted places : ℕ) → places ≡ 0 → 0 ≡ next_of counted places
next_none counted places e = sym (ap (λ n. next_of counted n) e)

pub next_some : (counted places : ℕ) → places ≢ 0 → counted % places ≡ next_of counted places
next_some counted places some = by (places == 0) refl
  where
    is_zero : (places == 0) ≡ true → places ≡ 0
    is_zero e = grind (arith, nat_tests, e)

    by : (b : Bool) → (places == 0) ≡ b → counted % places ≡ (if b then 0 else counted % places)
    by true e = absurd (some (is_zero e))
    by false e = refl

pub next_few : (counted places : ℕ) → next_of counted places ≤ places
next_few counted places = by (places == 0) refl
  where
    some : (places == 0) ≡ false → 0 < places
    some e = grind (arith, nat_tests, e)

    by : (b : Bool) → (places == 0) ≡ b → (if b then 0 else counted % places) ≤ places
    by true e = omega arith
    by false e = let l : counted % places < places = mod-lt counted (some e) in omega (arith, l)

module _ (k : ℕ) (ring : List Bool) (within : k ≤ length ring) where
  ahead : length (drop k ring) ≡ length ring - k
  ahead = length-drop k ring

  turned_ahead : (turn : ℕ) (d : Bool) → turn < length ring - k → get_or (turned k ring) turn d ≡ get_or ring (k + turn) d
  turned_ahead turn d l = get_or_append_left (drop k ring) (take k ring) d turn (omega (arith, l, ahead)) ∙ get_or-drop k ring turn d

  turned_around : (turn : ℕ) (d : Bool) → length ring - k ≤ turn → turn < length ring → get_or (turned k ring) turn d ≡ get_or ring (turn - (length ring - k)) d
  turned_around turn d m l =
      let at : turn ≡ length (drop k ring) + (turn - (length ring - k)) = omega (arith, m, ahead) in
      ap (λ n. get_or (turned k ring) n d) at ∙ get_or-append-add (drop k ring) (take k ring) (turn - (length ring - k)) d
      ∙ get_or-take k ring (turn - (length ring - k)) d (omega (arith, m, l, within))

  -- the vote of a turn stands at this place
  turned_at : (places next turn p : ℕ) (d : Bool) → places ≡ length ring → next ≡ k → turn < places → (turn < places - next → p ≡ next + turn) → (places - next ≤ turn → p ≡ turn - (places - next))
      → get_or (turned k ring) turn d ≡ get_or ring p d
  turned_at places next turn p d size is l before behind = by (less_or turn (places - next))
    where
      ahead_of : turn < places - next → k + turn ≡ p
      ahead_of a = omega (arith, is, before a)

      behind_it : places - next ≤ turn → turn - (length ring - k) ≡ p
      behind_it m = omega (arith, size, is, behind m)

      by : (turn < places - next) ⊎ (places - next ≤ turn) → get_or (turned k ring) turn d ≡ get_or ring p d
      by (inl a) = turned_ahead turn d (omega (arith, a, size, is)) ∙ ap (λ n. get_or ring n d) (ahead_of a)
      by (inr m) = turned_around turn d (omega (arith, m, size, is)) (omega (arith, l, size)) ∙ ap (λ n. get_or ring n d) (behind_it m)

-- one more vote of those from a place on
vote_more : (vs : List Bool) (low turn : ℕ) (b : Bool) → low ≤ turn → turn < length vs → get_or vs turn b ≡ b → drop low (take (turn + 1) vs) ≡ drop low (take turn vs) ++ b ∷ []
vote_more vs low turn b m l e =
    let long : length (take turn vs) ≡ turn = length-take-le turn vs (omega (arith, l)) in
    ap (drop low) (take_more vs turn b l) ∙ drop-append-le low (take turn vs) (get_or vs turn b ∷ []) (omega (arith, m, long))
    ∙ ap (λ x. drop low (take turn vs) ++ x ∷ []) e

module _ (most counted : ℕ) (ring : List Bool) where
  -- the votes up to a turn, of the last ones
  abbrev pub UpToTurn : ℕ → List Bool → Type 0
  UpToTurn turn votes = votes ≡ drop (length ring - most) (take turn (votes_of counted ring))

  pub turns-begin : (places first : ℕ) (votes : List Bool) → places ≡ length ring → first ≡ places - most → votes ≡ [] → UpToTurn first votes
  turns-begin places first votes size is none =
      none ∙ sym (drop_all (length ring - most) (take first (votes_of counted ring)) (omega (arith, size, is, length-take first (votes_of counted ring))))

  pub turns-more : (places next turn p : ℕ) (b : Bool) (votes votes2 : List Bool) → places ≡ length ring → next ≡ next_of counted places → length ring - most ≤ turn → turn < places
      → (turn < places - next → p ≡ next + turn) → (places - next ≤ turn → p ≡ turn - (places - next)) → slice_get ring p ≡ Some b → UpToTurn turn votes → votes2 ≡ votes ++ b ∷ []
      → UpToTurn (turn + 1) votes2
  turns-more places next turn p b votes votes2 size is low l before behind got u e =
      let k = next_of counted (length ring) in
      let here : get_or (turned k ring) turn b ≡ b =
      turned_at k ring (next_few counted (length ring)) places next turn p b size (is ∙ ap (next_of counted) size) l before behind ∙ get_or_from_slice_get ring p b b got in
      e ∙ ap (λ l. l ++ b ∷ []) u ∙ sym (vote_more (turned k ring) (length ring - most) turn b low (omega (arith, l, size, turned_length k ring)) here)

  pub turns-end : (places turn : ℕ) (votes : List Bool) → places ≡ length ring → turn ≡ places → UpToTurn turn votes → votes ≡ last_votes_of most counted ring
  turns-end places turn votes size end u =
      u ∙ ap (drop (length ring - most)) (take_all turn (votes_of counted ring) (omega (arith, size, end, turned_length (next_of counted (length ring)) ring)))
