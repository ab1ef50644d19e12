-- The elements of a list in turn, as loops come to them.
use Rattle.std.proofs.Common.{◌≡◌, ℕ, suc, ◌+◌, ◌<◌, List, ◌∷◌, drop, length, Some, get_or, slice_get, refl, sym, ap, arith}
use Rattle.std.proofs.{Math.Seq.drop-cons, lemmas.Option.{get_or_from_slice_get, slice_get_within}}

-- what comes from a place on, by what stands there
pub from_place : {X : Type 0} (xs : List X) (place : ℕ) (x : X) → slice_get xs place ≡ Some x → drop place xs ≡ x ∷ drop (place + 1) xs
from_place xs place x h =
    let one_more : suc place ≡ place + 1 = omega arith in
    rw (drop-cons xs place x (slice_get_within xs place x h), get_or_from_slice_get xs place x x h, one_more) refl

-- the next of a list that is gone through
pub next_is : {X : Type 0} (xs : List X) (place : ℕ) (x : X) → place < length xs → x ≡ get_or xs place x → drop place xs ≡ x ∷ drop (place + 1) xs
next_is xs place x lt is =
    let one_more : suc place ≡ place + 1 = omega arith in
    rw (drop-cons xs place x lt, one_more) (ap (λ y. y ∷ drop (place + 1) xs) (sym is))
