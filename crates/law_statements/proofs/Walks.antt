-- A pair that is followed through a block in the order in which facts are told and notes are made: the last of them comes last.
use Rattle.std.proofs.Common.{◌≡◌, ◌∙◌, ℕ, ◌+◌, ◌-◌, ◌^◌, ◌<◌, ◌≤◌, min, Bool, true, false, List, [], ◌∷◌, ◌++◌, length, length-append, refl, sym, ap, arith, Option, if◌then◌else◌, le-leb}
use Rattle.std.proofs.lemmas.Bool.{lt-leb}
use Rattle.base_roles.specs.declared.{entities.Validator.Validator, facts.Fact.Fact}
use Rattle.mod_recorder.specs.{declared.note.Note.Note, Notes.counted}
use Rattle.mod_tracking.specs.declared.tracker.Pair.{Pair}
use Rattle.mod_tracking.specs.Tracking.{Followed, Tracked, Walk, after_notes, block_followed, fact_followed, facts_walked, last_walked, note_taken, notes_before, notes_behind, notes_taken, once_more, one_walked, stands_before, unpaid, walk_of}

-- each note stands behind at most so many facts
abbrev pub AreWithin : ℕ → List Note → Type 0
AreWithin n [] = Unit {0}
AreWithin n (m ∷ ms) = (m.facts ≤ n) × AreWithin n ms

-- ---- counts

counted_none : (n : ℕ) → n < 2 ^ 64 → counted n 0 ≡ n
counted_none n h = omega arith

counted_first : (n : ℕ) (fs : List Fact) (f : Fact) → counted (once_more n) (length fs) ≡ counted n (length (f ∷ fs))
counted_first n fs f = omega arith

counted_all : (n : ℕ) → n < 2 ^ 64 → counted 0 n ≡ n
counted_all n h = omega arith

more_below : (n : ℕ) → once_more n < 2 ^ 64
more_below n = omega arith

-- ---- notes

module _ (n : ℕ) where
  -- all that stand before a fact are taken, and none is left
  all_before : (ms : List Note) → AreWithin n ms → (notes_before n ms ≡ ms) × (notes_behind n ms ≡ [])
  all_before [] h = (refl, refl)
  all_before (m ∷ ms) h =
      let here : stands_before n m ≡ true = le-leb m.facts n h.0 in
      let rest = all_before ms h.1 in (
        ap (λ b. if b then m ∷ notes_before n ms else []) here ∙ ap (λ l. m ∷ l) rest.0,
        ap (λ b. if b then notes_behind n ms else m ∷ ms) here ∙ rest.1,
      )

  within_behind : (k : ℕ) (ms : List Note) → AreWithin k ms → AreWithin k (notes_behind n ms)
  within_behind k [] h = tt
  within_behind k (m ∷ ms) h = by (stands_before n m) (within_behind k ms h.1)
    where
      by : (b : Bool) → AreWithin k (notes_behind n ms) → AreWithin k (if b then notes_behind n ms else m ∷ ms)
      by true rest = rest
      by false rest = h

  -- one more that does not stand before it
  before_more : (ms : List Note) (m : Note) → stands_before n m ≡ false → notes_before n (ms ++ m ∷ []) ≡ notes_before n ms
  before_more [] m h = ap (λ b. if b then m ∷ [] else []) h
  before_more (x ∷ ms) m h = by (stands_before n x) (before_more ms m h)
    where
      by : (b : Bool) → notes_before n (ms ++ m ∷ []) ≡ notes_before n ms → (if b then x ∷ notes_before n (ms ++ m ∷ []) else []) ≡ (if b then x ∷ notes_before n ms else [])
      by true rest = ap (λ l. x ∷ l) rest
      by false rest = refl

  behind_more : (ms : List Note) (m : Note) → stands_before n m ≡ false → notes_behind n (ms ++ m ∷ []) ≡ notes_behind n ms ++ m ∷ []
  behind_more [] m h = ap (λ b. if b then [] else m ∷ []) h
  behind_more (x ∷ ms) m h = by (stands_before n x) (behind_more ms m h)
    where
      by : (b : Bool) → notes_behind n (ms ++ m ∷ []) ≡ notes_behind n ms ++ m ∷ [] → (if b then notes_behind n (ms ++ m ∷ []) else x ∷ ms ++ m ∷ []) ≡ (if b then notes_behind n ms else x ∷ ms) ++ m ∷ []
      by true rest = rest
      by false rest = refl

pub within_more : (n k : ℕ) (ms : List Note) → n ≤ k → AreWithin n ms → AreWithin k ms
within_more n k [] le h = tt
within_more n k (m ∷ ms) le h = (omega (arith, h.0), within_more n k ms le h.1)

pub within_last : (n : ℕ) (ms : List Note) (m : Note) → AreWithin n ms → m.facts ≤ n → AreWithin n (ms ++ m ∷ [])
within_last n [] m h k = (k, tt)
within_last n (x ∷ ms) m h k = (h.0, within_last n ms m h.1 k)

module _ (p : Pair) where
  taken_last : (ms : List Note) (m : Note) (t : Tracked) → notes_taken p (ms ++ m ∷ []) t ≡ note_taken p m (notes_taken p ms t)
  taken_last [] m t = refl
  taken_last (x ∷ ms) m t = taken_last ms m (note_taken p x t)

  module _ (v : Option Validator) where
    -- ---- one more fact

    walk_fact : (fs : List Fact) (n : ℕ) (w : Walk) (f : Fact) → n < 2 ^ 64 → facts_walked p v n (fs ++ f ∷ []) w ≡ one_walked p v (counted n (length fs)) f (facts_walked p v n fs w)
    walk_fact [] n w f small = ap (λ k. one_walked p v k f w) (sym (counted_none n small))
    walk_fact (g ∷ fs) n w f small =
        let next : Walk = one_walked p v n g w in
        walk_fact fs (once_more n) next f (more_below n) ∙ ap (λ k. one_walked p v k f (facts_walked p v (once_more n) fs next)) (counted_first n fs g)

    walked_within : (k : ℕ) (fs : List Fact) (n : ℕ) (w : Walk) → AreWithin k w.notes → AreWithin k (facts_walked p v n fs w).notes
    walked_within k [] n w h = h
    walked_within k (f ∷ fs) n w h = walked_within k fs (once_more n) (one_walked p v n f w) (within_behind n k w.notes h)

    pub fact_last : (facts : List Fact) (notes : List Note) (t : Tracked) (f : Fact) → AreWithin (length facts) notes → length facts < 2 ^ 64
        → block_followed p v (facts ++ f ∷ []) notes t ≡ fact_followed p v f (block_followed p v facts notes t)
    fact_last facts notes t f within small =
        let first : Walk = walk_of (unpaid t) notes in
        let w : Walk = facts_walked p v 0 facts first in
        let all = all_before (length facts) w.notes (walked_within (length facts) facts 0 first within) in
        ap (last_walked p) (walk_fact facts 0 first f (omega arith) ∙ ap (λ k. one_walked p v k f w) (counted_all (length facts) small))
        ∙ ap (λ l. after_notes p l (fact_followed p v f (after_notes p (notes_before (length facts) w.notes) w.followed))) all.1
        ∙ ap (λ l. fact_followed p v f (after_notes p l w.followed)) all.0

    -- ---- one more note

    one_note : (n : ℕ) (f : Fact) (w : Followed) (ms : List Note) (m : Note) → stands_before n m ≡ false
        → one_walked p v n f (walk_of w (ms ++ m ∷ [])) ≡ walk_of (one_walked p v n f (walk_of w ms)).followed (notes_behind n ms ++ m ∷ [])
    one_note n f w ms m h =
        ap (λ l. walk_of (fact_followed p v f (after_notes p l w)) (notes_behind n (ms ++ m ∷ []))) (before_more n ms m h)
        ∙ ap (walk_of (fact_followed p v f (after_notes p (notes_before n ms) w))) (behind_more n ms m h)

    walk_note : (fs : List Fact) (n : ℕ) (w : Followed) (ms : List Note) (m : Note) → n + length fs ≤ m.facts → n + length fs < 2 ^ 64
        → facts_walked p v n fs (walk_of w (ms ++ m ∷ [])) ≡ walk_of (facts_walked p v n fs (walk_of w ms)).followed ((facts_walked p v n fs (walk_of w ms)).notes ++ m ∷ [])
    walk_note [] n w ms m late small = refl
    walk_note (f ∷ fs) n w ms m late small =
        let behind : stands_before n m ≡ false = lt-leb m.facts n (sooner n fs f m late) in
        ap (facts_walked p v (once_more n) fs) (one_note n f w ms m behind)
        ∙ walk_note fs (once_more n) (one_walked p v n f (walk_of w ms)).followed (notes_behind n ms) m (later n fs f m.facts late) (smaller n fs f small)
      where
        sooner : (n : ℕ) (fs : List Fact) (f : Fact) (m : Note) → n + length (f ∷ fs) ≤ m.facts → n < m.facts
        sooner n fs f m h = omega (arith, h)

        later : (n : ℕ) (fs : List Fact) (f : Fact) (k : ℕ) → n + length (f ∷ fs) ≤ k → once_more n + length fs ≤ k
        later n fs f k h = omega (arith, h)

        smaller : (n : ℕ) (fs : List Fact) (f : Fact) → n + length (f ∷ fs) < 2 ^ 64 → once_more n + length fs < 2 ^ 64
        smaller n fs f h = omega (arith, h)

    pub note_last : (facts : List Fact) (notes : List Note) (t : Tracked) (m : Note) → m.facts ≡ length facts → length facts < 2 ^ 64
        → block_followed p v facts (notes ++ m ∷ []) t ≡ after_notes p (m ∷ []) (block_followed p v facts notes t)
    note_last facts notes t m late small =
        let w : Walk = facts_walked p v 0 facts (walk_of (unpaid t) notes) in
        ap (last_walked p) (walk_note facts 0 (unpaid t) notes m (omega (arith, late)) (omega (arith, small)))
        ∙ ap (λ x. record w.followed { tracked = x }) (taken_last w.notes m w.followed.tracked)
