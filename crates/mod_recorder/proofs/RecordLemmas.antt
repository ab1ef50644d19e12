-- What a recorder has after a note, a mark, going back and closing a mark, of its list of notes and the places of its marks.
use Rattle.std.proofs.Common.{◌≡◌, ◌∙◌, ℕ, ◌≤◌, true, List, [], ◌∷◌, ◌++◌, length, map, take, Option, Some, None, append-nil, sym, ap, subst, arith, option_to_list}
use Rattle.std.proofs.lemmas.Grind.{common_steps}
use Rattle.mod_recorder.specs.{declared.{note.Note.Note, recorder.Place.Place}, Notes.Noted}
use Rattle.mod_recorder.specs.Recorded.{are_rising, noted_at}
use Rattle.mod_recorder.proofs.PlaceLemmas.{at_first, at_places, before_last, joined, raised}

-- ---- lists

same_front : {A : Type 0} (n : ℕ) (xs ys : List A) → n ≤ length xs → take n (xs ++ ys) ≡ take n xs
same_front n xs ys e = grind (arith, common_steps, e)

same_cut : {A : Type 0} (n m : ℕ) (xs : List A) → n ≤ m → take n (take m xs) ≡ take n xs
same_cut n m xs e = grind (arith, common_steps, e)

cut_length : {A : Type 0} (n : ℕ) (xs : List A) → n ≤ length xs → length (take n xs) ≡ n
cut_length n xs e = grind (arith, common_steps, e)

one_longer : {A : Type 0} (xs : List A) (x : A) → length xs ≤ length (xs ++ x ∷ [])
one_longer xs x = grind (arith, common_steps)

at_all : (f : Place → Noted) (ps qs : List Place) → map f (ps ++ qs) ≡ map f ps ++ map f qs
at_all f ps qs = grind (arith, common_steps)

no_less : (n : ℕ) → n ≤ n
no_less n = omega arith

module _ (notes : List Note) (before : ℕ) (marks : List Place) (settled : Place) (up : are_rising settled.notes marks (length notes) ≡ true) where
  -- ---- one more note

  module _ (n : Note) where
    same_before : (k : ℕ) → k ≤ length notes → take k (notes ++ n ∷ []) ≡ take k notes
    same_before k e = same_front k notes (n ∷ []) e

    pub grown_up : are_rising settled.notes marks (length (notes ++ n ∷ [])) ≡ true
    grown_up = raised settled.notes marks (length notes) (length (notes ++ n ∷ [])) up (one_longer notes n)

    pub grown_marks : map (noted_at (notes ++ n ∷ [])) marks ≡ map (noted_at notes) marks
    grown_marks = at_places notes (notes ++ n ∷ []) settled.notes marks (length notes) up same_before

    pub grown_settled : noted_at (notes ++ n ∷ []) settled ≡ noted_at notes settled
    grown_settled = at_first notes (notes ++ n ∷ []) settled marks (length notes) up same_before

  -- ---- a mark

  abbrev pub here : Place
  here = record { notes = length notes; before = before }

  pub marked_up : are_rising settled.notes (marks ++ here ∷ []) (length notes) ≡ true
  marked_up = joined settled.notes marks here (length notes) up (no_less (length notes))

  -- ---- the latest mark is closed

  module _ (ms : List Place) (p : Place) (last : marks ≡ ms ++ p ∷ []) where
    rising : (are_rising settled.notes ms p.notes ≡ true) × (p.notes ≤ length notes)
    rising = before_last settled.notes ms p (length notes) (subst (λ l. are_rising settled.notes l (length notes) ≡ true) last up)

    all_marks : map (noted_at notes) marks ≡ map (noted_at notes) ms ++ noted_at notes p ∷ []
    all_marks = ap (map (noted_at notes)) last ∙ at_all (noted_at notes) ms (p ∷ [])

    forget_up : are_rising settled.notes ms (length notes) ≡ true
    forget_up = raised settled.notes ms p.notes (length notes) rising.0 rising.1

    same_below : (k : ℕ) → k ≤ p.notes → take k (take p.notes notes) ≡ take k notes
    same_below k e = same_cut k p.notes notes e

    pub back_up : are_rising settled.notes ms (length (take p.notes notes)) ≡ true
    back_up = subst (λ n. are_rising settled.notes ms n ≡ true) (sym (cut_length p.notes notes rising.1)) rising.0

    pub back_marks : map (noted_at (take p.notes notes)) ms ++ record { notes = take p.notes notes; before = p.before } ∷ [] ≡ map (noted_at notes) marks
    back_marks = ap (λ l. l ++ noted_at notes p ∷ []) (at_places notes (take p.notes notes) settled.notes ms p.notes rising.0 same_below) ∙ sym all_marks

    pub back_settled : noted_at (take p.notes notes) settled ≡ noted_at notes settled
    back_settled = at_first notes (take p.notes notes) settled ms p.notes rising.0 same_below

  -- it is closed, if one is open
  pub closed_up : (ms : List Place) (o : Option Place) → marks ≡ ms ++ option_to_list o → are_rising settled.notes ms (length notes) ≡ true
  closed_up ms (Some p) e = forget_up ms p e
  closed_up ms None e = subst (λ l. are_rising settled.notes l (length notes) ≡ true) (e ∙ append-nil ms) up
