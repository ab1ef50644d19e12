-- The first values of a test, as lists.
use Rattle.std.proofs.Common.{◌≡◌, ◌∙◌, ◌⊎◌, inl, inr, ℕ, ◌+◌, ◌<◌, ◌≤◌, Bool, List, [], ◌∷◌, ◌++◌, length, take, drop, Some, refl, sym, ap, append_assoc, add-one, arith, suc, zero, ◌≢◌, slice_get, take_all, take_at}
use Rattle.std.proofs.lemmas.List.{length_push, drop_all, take-append-le, drop-append-le}
use Rattle.mod_signing.specs.Rings.{firsts, ring_with}

-- a number that is at most another is it, or below it
pub at_end : (a c : ℕ) → a ≤ c → (a ≡ c) ⊎ (a < c)
at_end a c h = grind arith

pub first_length : (f : ℕ → Bool) (n : ℕ) → length (firsts f n) ≡ n
first_length f zero = refl
first_length f (suc n) = length_push (firsts f n) (f n) ∙ ap (λ k. k + 1) (first_length f n) ∙ add-one n

pub first_more : (f : ℕ → Bool) (n : ℕ) → firsts f (n + 1) ≡ firsts f n ++ f n ∷ []
first_more f n = ap (firsts f) (add-one n)

pub first_same : (f g : ℕ → Bool) (n : ℕ) → ((p : ℕ) → p < n → f p ≡ g p) → firsts f n ≡ firsts g n
first_same f g zero h = refl
first_same f g (suc n) h =
    let less = first_same f g n (λ p l. h p (omega (arith, l))) in
    let last : f n ≡ g n = h n (omega arith) in
    (λ i. less i ++ last i ∷ [])

-- the first of them, so many or fewer
pub first_fewer : (f : ℕ → Bool) (k n : ℕ) → k ≤ n → take k (firsts f n) ≡ firsts f k
first_fewer f k zero h = let e : k ≡ zero = omega (arith, h) in ap (λ j. take j (firsts f zero)) e ∙ sym (ap (firsts f) e)
first_fewer f k (suc n) h = by (at_end k (suc n) h) (λ m. first_fewer f k n m)
  where
    by : (k ≡ suc n) ⊎ (k < suc n) → (k ≤ n → take k (firsts f n) ≡ firsts f k) → take k (firsts f n ++ f n ∷ []) ≡ firsts f k
    by (inl e) later = take_all k (firsts f (suc n)) (omega (arith, first_length f (suc n), e)) ∙ sym (ap (firsts f) e)
    by (inr l) later = take-append-le k (firsts f n) (f n ∷ []) (omega (arith, first_length f n, l)) ∙ later (omega (arith, l))

pub first_at : (f : ℕ → Bool) (n p : ℕ) → p < n → slice_get (firsts f n) p ≡ Some (f p)
first_at f zero p h = absurd (omega (arith, h))
first_at f (suc n) p h = by (at_end p n (omega (arith, h))) (λ l. first_at f n p l)
  where
    behind : (xs : List Bool) (b : Bool) → slice_get (xs ++ b ∷ []) (length xs) ≡ Some b
    behind [] b = refl
    behind (x ∷ xs) b = behind xs b

    within : (xs : List Bool) (b : Bool) (q : ℕ) → q < length xs → slice_get (xs ++ b ∷ []) q ≡ slice_get xs q
    within [] b q l = absurd (omega (arith, l))
    within (x ∷ xs) b zero l = refl
    within (x ∷ xs) b (suc q) l = within xs b q (omega (arith, l))

    by : (p ≡ n) ⊎ (p < n) → (p < n → slice_get (firsts f n) p ≡ Some (f p)) → slice_get (firsts f n ++ f n ∷ []) p ≡ Some (f p)
    by (inl e) later = ap (slice_get (firsts f n ++ f n ∷ [])) (e ∙ sym (first_length f n)) ∙ behind (firsts f n) (f n) ∙ ap (λ k. Some (f k)) (sym e)
    by (inr l) later = within (firsts f n) (f n) p (omega (arith, first_length f n, l)) ∙ later l

-- one more behind the last
pub first_next : (f g : ℕ → Bool) (n : ℕ) → ((p : ℕ) → p < n → g p ≡ f p) → firsts g (n + 1) ≡ ring_with n (g n) (firsts f n)
first_next f g n h =
    let whole : take n (firsts f n) ≡ firsts f n = take_all n (firsts f n) (omega (arith, first_length f n)) in
    let none : drop (n + 1) (firsts f n) ≡ [] = drop_all (n + 1) (firsts f n) (omega (arith, first_length f n)) in
    ap (firsts g) (add-one n) ∙ ap (λ t. t ++ g n ∷ []) (first_same g f n h) ∙ sym (λ i. whole i ++ g n ∷ none i)

-- another value at one place
pub first_changed : (f g : ℕ → Bool) (n p : ℕ) → p < n → ((q : ℕ) → q < n → q ≢ p → g q ≡ f q) → firsts g n ≡ ring_with p (g p) (firsts f n)
first_changed f g zero p l h = absurd (omega (arith, l))
first_changed f g (suc n) p l h = by (at_end p n (omega (arith, l))) (λ k. first_changed f g n p k (λ q j. h q (omega (arith, j))))
  where
    unlike : (a c : ℕ) → a < c → a ≢ c
    unlike a c k e = absurd (omega (arith, k, e))

    other : (a c : ℕ) → c < a → a ≢ c
    other a c k e = absurd (omega (arith, k, e))

    by : (p ≡ n) ⊎ (p < n) → (p < n → firsts g n ≡ ring_with p (g p) (firsts f n)) → firsts g n ++ g n ∷ [] ≡ ring_with p (g p) (firsts f n ++ f n ∷ [])
    by (inl e) later =
        let size : length (firsts f n ++ f n ∷ []) ≡ p + 1 = length_push (firsts f n) (f n) ∙ ap (λ k. k + 1) (first_length f n ∙ sym e) in
        let start : take p (firsts f n ++ f n ∷ []) ≡ firsts f n = take_at (firsts f n) (f n ∷ []) p (first_length f n ∙ sym e) in
        let none : drop (p + 1) (firsts f n ++ f n ∷ []) ≡ [] = drop_all (p + 1) (firsts f n ++ f n ∷ []) (omega (arith, size)) in
        ap (λ t. t ++ g n ∷ []) (first_same g f n (λ q k. h q (omega (arith, k)) (unlike q p (omega (arith, k, e)))))
        ∙ ap (λ j. firsts f n ++ g j ∷ []) (sym e) ∙ sym (λ i. start i ++ g p ∷ none i)
    by (inr k) later =
        let ih : firsts g n ≡ ring_with p (g p) (firsts f n) = later k in
        let last : g n ≡ f n = h n (omega arith) (other n p k) in
        let start : take p (firsts f n ++ f n ∷ []) ≡ take p (firsts f n) = take-append-le p (firsts f n) (f n ∷ []) (omega (arith, first_length f n, k)) in
        let rest : drop (p + 1) (firsts f n ++ f n ∷ []) ≡ drop (p + 1) (firsts f n) ++ f n ∷ [] = drop-append-le (p + 1) (firsts f n) (f n ∷ []) (omega (arith, first_length f n, k)) in
        (λ i. ih i ++ last i ∷ []) ∙ append_assoc (take p (firsts f n)) (g p ∷ drop (p + 1) (firsts f n)) (f n ∷ []) ∙ sym (λ i. start i ++ g p ∷ rest i)
