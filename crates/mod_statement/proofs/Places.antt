-- Where a denomination is put among others in order.
use Rattle.std.proofs.Common.{◌≡◌, ℕ, zero, suc, ◌<◌, ◌≤◌, List, [], ◌∷◌, length, get_or, refl, sym, ap, ◌∙◌, arith, insert, Ordering, Less, Equal, Greater}
use Rattle.std.{specs.{BTreeSet.insert_key, Ordering.match_ordering}, proofs.lemmas.List.get_or_read}
use Rattle.base_types.specs.Orders.{denom_cmp}

-- each of the first places has a denomination below
abbrev pub BelowAt : List (List ℕ) → List ℕ → ℕ → Type 0
BelowAt ds d n = (k : ℕ) → k < n → denom_cmp d (get_or ds k []) ≡ Greater

pub put_at : (ds : List (List ℕ)) (d : List ℕ) (n : ℕ) → n ≤ length ds → BelowAt ds d n → (n < length ds → denom_cmp d (get_or ds n []) ≡ Less)
    → insert_key denom_cmp ds d ≡ insert ds n d
put_at [] d zero within below end = refl
put_at [] d (suc n) within below end = absurd (omega arith)
put_at (e ∷ ds) d zero within below end =
    ap (λ o. match_ordering o (d ∷ e ∷ ds) (e ∷ ds) (e ∷ insert_key denom_cmp ds d)) (end (omega arith))
put_at (e ∷ ds) d (suc n) within below end =
    ap (λ o. match_ordering o (d ∷ e ∷ ds) (e ∷ ds) (e ∷ insert_key denom_cmp ds d)) (below 0 (omega arith))
    ∙ ap (λ l. e ∷ l) (put_at ds d n (omega arith) (λ k h. below (suc k) (omega arith)) (λ h. end (omega arith)))

pub stands_at : (ds : List (List ℕ)) (d : List ℕ) (n : ℕ) → n < length ds → BelowAt ds d n → denom_cmp d (get_or ds n []) ≡ Equal
    → insert_key denom_cmp ds d ≡ ds
stands_at [] d n within below here = absurd (omega arith)
stands_at (e ∷ ds) d zero within below here =
    ap (λ o. match_ordering o (d ∷ e ∷ ds) (e ∷ ds) (e ∷ insert_key denom_cmp ds d)) here
stands_at (e ∷ ds) d (suc n) within below here =
    ap (λ o. match_ordering o (d ∷ e ∷ ds) (e ∷ ds) (e ∷ insert_key denom_cmp ds d)) (below 0 (omega arith))
    ∙ ap (λ l. e ∷ l) (stands_at ds d n (omega arith) (λ k h. below (suc k) (omega arith)) here)

-- what was compared at a place
pub compared : (ds : List (List ℕ)) (d e : List ℕ) (n : ℕ) (r : Ordering) → n < length ds → e ≡ get_or ds n e → denom_cmp d e ≡ r → denom_cmp d (get_or ds n []) ≡ r
compared ds d e n r lt is h = ap (denom_cmp d) (sym (get_or_read ds n e lt is [])) ∙ h

-- a denomination that is above all
pub put_last : (ds : List (List ℕ)) (d : List ℕ) (n i : ℕ) → n ≡ length ds → length ds ≤ i → BelowAt ds d i → (n ≤ length ds) × (insert_key denom_cmp ds d ≡ insert ds n d)
put_last ds d n i e h below = (omega arith, put_at ds d n (omega arith) (λ k lt. below k (omega arith)) (λ lt. absurd (omega arith)))
