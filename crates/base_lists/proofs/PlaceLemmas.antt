-- Lists from a place on.
use Rattle.std.proofs.Common.{◌≡◌, ◌∙◌, ℕ, ◌+◌, ◌≤◌, ◌<◌, List, [], ◌∷◌, drop, length, get_or, add-one, drop-cons, refl, sym, ap, arith}

pub next : {A : Type 0} (xs : List A) (i : ℕ) (x : A) → i < length xs → x ≡ get_or xs i x → drop i xs ≡ x ∷ drop (i + 1) xs
next xs i x lt is = rw (add-one) (drop-cons xs i x lt) ∙ ap (λ y. y ∷ drop (i + 1) xs) (sym is)

drop_all : {A : Type 0} (xs : List A) → drop (length xs) xs ≡ []
drop_all [] = refl
drop_all (x ∷ xs) = drop_all xs

pub drop_end : {A : Type 0} (xs : List A) (i : ℕ) → i ≤ length xs → length xs ≤ i → drop i xs ≡ []
drop_end xs i most least = let e : i ≡ length xs = omega arith in ap (λ k. drop k xs) e ∙ drop_all xs
