-- Two tables that are marked together, mark by mark.
use Rattle.std.specs.Prelude.{List, [], ◌∷◌}

-- the entries of both at each mark, made one
abbrev pub side_by_side : {A B C : Type 0} → (A → B → C) → List A → List B → List C
side_by_side both [] ys = []
side_by_side both (x ∷ xs) [] = []
side_by_side both (x ∷ xs) (y ∷ ys) = both x y ∷ side_by_side both xs ys

-- what holds of the entries of both at each mark
abbrev pub AtEachMark : {A B : Type 0} → (A → B → Type 0) → List A → List B → Type 0
AtEachMark P [] ys = Unit {0}
AtEachMark P (x ∷ xs) [] = Unit {0}
AtEachMark P (x ∷ xs) (y ∷ ys) = P x y × AtEachMark P xs ys
