-- The elements of a list in turn, as `at` answers them.
use Rattle.std.proofs.Common.{◌≡◌, sym, ℕ, suc, ◌+◌, ◌<◌, List, [], ◌∷◌, drop, length, Some, None, slice_get, refl, arith, get_or}
use Rattle.std.proofs.{Math.Seq.drop-cons, lemmas.Option.{slice_get_within, get_or_from_slice_get, slice_get-get_or}}

pub drop_next : {X : Type 0} (xs : List X) (place : ℕ) (x : X) → Some x ≡ slice_get xs place → drop place xs ≡ x ∷ drop (place + 1) xs
drop_next xs place x h =
    let one_more : suc place ≡ place + 1 = omega arith in
    rw (drop-cons xs place x (slice_get_within xs place x (sym h)), get_or_from_slice_get xs place x x (sym h), one_more) refl

pub found_within : {X : Type 0} (xs : List X) (place : ℕ) → place < length xs → None ≡ slice_get xs place → ⊥
found_within [] place h e = omega (arith, h)
found_within (x ∷ xs) place h e =
    let found : slice_get (x ∷ xs) place ≡ Some (get_or (x ∷ xs) place x) = slice_get-get_or (x ∷ xs) place x h in
    cc
