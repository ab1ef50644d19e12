-- What is always true of places stays, as they change and marks are opened and closed.
use Rattle.std.proofs.Common.{◌≡◌, ℕ, zero, suc, ◌+◌, ◌-◌, ◌<◌, Bool, true, false, List, [], ◌∷◌, ◌++◌, length, Option, nat_lt, refl, if◌then◌else◌, sym, ◌∙◌, ap, subst, arith, length-append, Ordering}
use Rattle.std.{proofs.lemmas.Bool.Decides.nat_tests, specs.{BTreeMap.insert_entry, Cmp.IsTotalOrder}}
use Rattle.std.specs.{List.Sorted.IsStrictlySortedBy, Map.keys_of}
use Rattle.base_table.specs.declared.{slot.Slot.Slot, undo.{Point.Point, Undo.Undo}}
use Rattle.base_table.specs.Places.{filled, marks_of, put_back_slot, slot_at, undo_of, AreNamed, Fits, FitBelow, HavePlaces, IsKept, Marked}
use Rattle.base_table.proofs.{PlaceLemmas.set-inserted, PlacedLemmas.{marks_of-placed, FitBelow-placed, Fits-placed}}
use Rattle.base_table.proofs.UndoLemmas.{has_place, latest-few, length-marks_of, marks_of-more, marks_of-push, FitBelow-push, HavePlaces-insert, HavePlaces-push}

empty : {A : Type 0} (xs : List A) → length xs ≡ 0 → xs ≡ []
empty [] h = refl
empty (x ∷ xs) h = absurd (omega arith)

-- what a test of the number of open marks tells
pub is_open : (depth : ℕ) → nat_lt 0 depth ≡ true → 0 < depth
is_open depth h = grind (arith, nat_tests)

pub not_open : (depth : ℕ) → nat_lt 0 depth ≡ false → depth ≡ 0
not_open depth h = grind (arith, nat_tests)

-- what is seen and listed, where it was `old`
pub seen : {K V : Type 0} (old : Marked K V) (es es2 : List (K × V)) (ms ms2 : List (List (K × V))) (ts ts2 : List (K × Option V)) (f : List (K × V) → List (K × V)) (g : List (K × Option V) → List (K × V) → List (K × Option V))
    → ◌≡◌ {A = Marked K V} (record { entries = es; marks = ms; touched = ts }) old → es2 ≡ f es → ms2 ≡ ms → ts2 ≡ g ts es
    → ◌≡◌ {A = Marked K V} (record { entries = es2; marks = ms2; touched = ts2 }) (record { entries = f old.entries; marks = old.marks; touched = g old.touched old.entries })
seen old es es2 ms ms2 ts ts2 f g is e m t = λ i. record { entries = (e ∙ ap (λ x. f x.entries) is) i; marks = (m ∙ ap (λ x. x.marks) is) i; touched = (t ∙ ap (λ x. g x.touched x.entries) is) i }

-- one less than a list with one more
pub fewer : {A : Type 0} (xs all : List A) (x : A) (n : ℕ) → xs ++ x ∷ [] ≡ all → length all ≡ n → length xs ≡ n - 1
fewer xs all x n is count = let e : length (xs ++ x ∷ []) ≡ n = ap length is ∙ count in let f = length-append xs (x ∷ []) in omega arith

module _ {K V : Type 0} {R : K → K → Ordering} where
  -- a change of the place of a key, which is noted while a mark is open
  module _ (o : IsTotalOrder R) (us new : List (Undo K V)) (here : Point) (depth len : ℕ) (k : K) (ps qs : List (K × Slot K V)) (slot : Slot K V) (marked : Bool)
      (is_marked : marked ≡ true → 0 < depth) (not_marked : marked ≡ false → depth ≡ 0)
      (sorted : IsStrictlySortedBy R (keys_of ps))
      (kept : IsKept R us here depth ps)
      (noted : new ≡ (if marked then us ++ undo_of R ps here k ∷ [] else us))
      (made : qs ≡ insert_entry R ps k slot) where
    undone : put_back_slot R k (slot_at R ps k) qs ≡ insert_entry R ps k (slot_at R ps k)
    undone = ap (put_back_slot R k (slot_at R ps k)) made ∙ set-inserted o k slot (slot_at R ps k) ps

    pub marks-changed : marks_of R new 0 qs ≡ marks_of R us here.marks ps
    marks-changed = by marked refl
      where
        none : depth ≡ 0 → marks_of R us 0 qs ≡ marks_of R us here.marks ps
        none zero_depth =
            let few = latest-few R us here.marks ps in
            let count = kept.count in
            let m : here.marks ≡ 0 = omega arith in
            empty (marks_of R us 0 qs) (length-marks_of R us 0 qs ps ∙ ap (λ n. length (marks_of R us n ps)) (sym m) ∙ kept.count ∙ zero_depth)
            ∙ sym (empty (marks_of R us here.marks ps) (kept.count ∙ zero_depth))

        by : (b : Bool) → marked ≡ b → marks_of R new 0 qs ≡ marks_of R us here.marks ps
        by true is =
            ap (λ ws. marks_of R ws 0 qs) (noted ∙ ap (λ b. if b then us ++ undo_of R ps here k ∷ [] else us) is)
            ∙ marks_of-push R us (undo_of R ps here k) qs ∙ ap (marks_of R us here.marks) undone ∙ marks_of-placed o us k ps sorted kept.placed here.marks
        by false is = ap (λ ws. marks_of R ws 0 qs) (noted ∙ ap (λ b. if b then us ++ undo_of R ps here k ∷ [] else us) is) ∙ none (not_marked is)

    pub IsKept-changed : len ≡ length (filled qs) → AreNamed R qs → IsKept R new (record { marks = 0; len = len }) depth qs
    IsKept-changed count named = record {
      count = ap length marks-changed ∙ kept.count;
      closed = λ none. closed marked refl none;
      fits = record { len = count; named = named };
      below = below marked refl;
      placed = placed marked refl;
    }
      where
        with_it : (b : Bool) → marked ≡ b → new ≡ (if b then us ++ undo_of R ps here k ∷ [] else us)
        with_it b is = noted ∙ ap (λ b. if b then us ++ undo_of R ps here k ∷ [] else us) is

        closed : (b : Bool) → marked ≡ b → depth ≡ 0 → new ≡ []
        closed true is none = let some = is_marked is in absurd (omega arith)
        closed false is none = with_it false is ∙ kept.closed none

        below : (b : Bool) → marked ≡ b → FitBelow R new qs
        below true is =
            subst (λ ws. FitBelow R ws qs) (sym (with_it true is))
            (FitBelow-push R us (undo_of R ps here k) qs (subst (Fits R here) (sym undone) (Fits-placed o us k ps sorted kept.placed here kept.fits))
            (subst (FitBelow R us) (sym undone) (FitBelow-placed o us k ps sorted kept.placed kept.below)))
        below false is = subst (λ ws. FitBelow R ws qs) (sym (with_it false is ∙ kept.closed (not_marked is))) tt

        placed : (b : Bool) → marked ≡ b → HavePlaces R new qs
        placed true is =
            subst (λ ws. HavePlaces R ws qs) (sym (with_it true is)) (subst (HavePlaces R (us ++ undo_of R ps here k ∷ [])) (sym made)
            (HavePlaces-push R us (undo_of R ps here k) (insert_entry R ps k slot) (HavePlaces-insert R o us k ps slot kept.placed) (has_place R o k ps slot)))
        placed false is = subst (λ ws. HavePlaces R ws qs) (sym (with_it false is ∙ kept.closed (not_marked is))) tt

  -- one more mark at the latest point
  pub IsKept-marked : (us : List (Undo K V)) (here : Point) (depth more : ℕ) (ps : List (K × Slot K V)) → more ≡ depth + 1 → IsKept R us here depth ps → IsKept R us (record { marks = here.marks + 1; len = here.len }) more ps
  IsKept-marked us here depth more ps is kept = record {
    count = ap length (sym (marks_of-more R us here.marks ps)) ∙ length-append (marks_of R us here.marks ps) (filled ps ∷ []) ∙ ap (λ n. n + 1) kept.count ∙ sym is;
    closed = λ none. absurd (omega arith);
    fits = record { len = kept.fits.len; named = kept.fits.named };
    below = kept.below;
    placed = kept.placed;
  }

  -- once a mark is closed: without another the changes are forgotten
  module _ (us new : List (Undo K V)) (marks len depth : ℕ) (ps : List (K × Slot K V))
      (count : length (marks_of R us marks ps) ≡ depth)
      (fits : Fits R (record { marks = marks; len = len }) ps) (below : FitBelow R us ps) (placed : HavePlaces R us ps)
      (some : 0 < depth → new ≡ us) (none : depth ≡ 0 → new ≡ []) where
    pub marks-closed : marks_of R new marks ps ≡ marks_of R us marks ps
    marks-closed = by depth refl
      where
        by : (d : ℕ) → depth ≡ d → marks_of R new marks ps ≡ marks_of R us marks ps
        by zero is =
            let few = latest-few R us marks ps in
            let m : marks ≡ 0 = omega arith in
            (λ i. marks_of R (none is i) (m i) ps) ∙ sym (empty (marks_of R us marks ps) (count ∙ is))
        by (suc d) is = ap (λ ws. marks_of R ws marks ps) (some (omega arith))

    pub IsKept-closed : IsKept R new (record { marks = marks; len = len }) depth ps
    IsKept-closed = record {
      count = ap length marks-closed ∙ count;
      closed = none;
      fits = fits;
      below = by depth refl;
      placed = there depth refl;
    }
      where
        by : (d : ℕ) → depth ≡ d → FitBelow R new ps
        by zero is = subst (λ ws. FitBelow R ws ps) (sym (none is)) tt
        by (suc d) is = subst (λ ws. FitBelow R ws ps) (sym (some (omega arith))) below

        there : (d : ℕ) → depth ≡ d → HavePlaces R new ps
        there zero is = subst (λ ws. HavePlaces R ws ps) (sym (none is)) tt
        there (suc d) is = subst (λ ws. HavePlaces R ws ps) (sym (some (omega arith))) placed

  -- without a mark other places that show the same will do
  pub IsKept-swept : (us : List (Undo K V)) (here : Point) (depth : ℕ) (ps qs : List (K × Slot K V)) → IsKept R us here depth ps → marks_of R us here.marks ps ≡ [] → filled qs ≡ filled ps → AreNamed R qs → IsKept R us here depth qs
  IsKept-swept us here depth ps qs kept shut same named =
      let nothing : us ≡ [] = kept.closed (sym kept.count ∙ ap length shut) in
      record {
        count = length-marks_of R us here.marks qs ps ∙ kept.count;
        closed = kept.closed;
        fits = record { len = kept.fits.len ∙ ap length (sym same); named = named };
        below = subst (λ ws. FitBelow R ws qs) (sym nothing) tt;
        placed = subst (λ ws. HavePlaces R ws qs) (sym nothing) tt;
      }

-- and no mark is open by them
pub marks-swept : {K V : Type 0} (R : K → K → Ordering) (us : List (Undo K V)) (m : ℕ) (ps qs : List (K × Slot K V)) → marks_of R us m ps ≡ [] → marks_of R us m qs ≡ []
marks-swept R us m ps qs shut = empty (marks_of R us m qs) (length-marks_of R us m qs ps ∙ ap length shut)
