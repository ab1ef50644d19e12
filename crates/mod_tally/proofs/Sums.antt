-- Sums over lists: of those that pass a test, of two numbers, and over entries that are put in order.
use Rattle.std.proofs.Common.{◌≡◌, ◌∙◌, ℕ, ◌+◌, ◌*◌, ◌≤◌, Bool, true, false, cond, List, [], ◌∷◌, map, length, refl, sym, ap, arith, zero-add, add-zero, filter, fold, sum_by}
use Rattle.std.proofs.lemmas.List.Sums.{sum_by-cons}

pub pass_by : (b : Bool) (n : ℕ) → cond b n 0 ≤ n
pass_by true n = omega arith
pass_by false n = omega arith

module _ {X : Type 0} where
  -- one more number in front
  pub sum_next : (f : X → ℕ) (x : X) (xs : List X) → sum_by f (x ∷ xs) ≡ f x + sum_by f xs
  sum_next f x xs = sum_by-cons f x xs

  -- numbers that are equal at each element
  pub sum_alike : (f g : X → ℕ) → ((x : X) → f x ≡ g x) → (xs : List X) → sum_by f xs ≡ sum_by g xs
  sum_alike f g h xs = λ i. sum_by (λ x. h x i) xs

  kept_by : (f : X → ℕ) (p : X → Bool) (x : X) (xs : List X) (b : Bool) → sum_by f (filter p xs) ≡ sum_by (λ y. cond (p y) (f y) 0) xs
      → sum_by f (cond b (x ∷ filter p xs) (filter p xs)) ≡ cond b (f x) 0 + sum_by (λ y. cond (p y) (f y) 0) xs
  kept_by f p x xs true h = sum_next f x (filter p xs) ∙ ap (λ n. f x + n) h
  kept_by f p x xs false h = h ∙ sym (zero-add (sum_by (λ y. cond (p y) (f y) 0) xs))

  -- those that pass a test count, and the others are 0
  pub sum_kept : (f : X → ℕ) (p : X → Bool) (xs : List X) → sum_by f (filter p xs) ≡ sum_by (λ x. cond (p x) (f x) 0) xs
  sum_kept f p [] = refl
  sum_kept f p (x ∷ xs) = kept_by f p x xs (p x) (sum_kept f p xs) ∙ sym (sum_next (λ y. cond (p y) (f y) 0) x xs)

  -- of two numbers
  pub sum_both : (f g : X → ℕ) (xs : List X) → sum_by (λ x. f x + g x) xs ≡ sum_by f xs + sum_by g xs
  sum_both f g [] = refl
  sum_both f g (x ∷ xs) =
      let a : sum_by (λ x. f x + g x) (x ∷ xs) ≡ (f x + g x) + sum_by (λ x. f x + g x) xs = sum_next (λ x. f x + g x) x xs in
      let b : sum_by f (x ∷ xs) ≡ f x + sum_by f xs = sum_next f x xs in
      let c : sum_by g (x ∷ xs) ≡ g x + sum_by g xs = sum_next g x xs in
      let d : sum_by (λ x. f x + g x) xs ≡ sum_by f xs + sum_by g xs = sum_both f g xs in
      omega arith

  -- of nothing
  pub sum_none : (xs : List X) → sum_by (λ x. 0) xs ≡ 0
  sum_none [] = refl
  sum_none (x ∷ xs) = sum_next (λ x. 0) x xs ∙ ap (λ n. 0 + n) (sum_none xs)

  -- numbers within others
  pub sum_within : (f g : X → ℕ) → ((x : X) → f x ≤ g x) → (xs : List X) → sum_by f xs ≤ sum_by g xs
  sum_within f g h [] = omega arith
  sum_within f g h (x ∷ xs) =
      let b : sum_by f (x ∷ xs) ≡ f x + sum_by f xs = sum_next f x xs in
      let c : sum_by g (x ∷ xs) ≡ g x + sum_by g xs = sum_next g x xs in
      let d : sum_by f xs ≤ sum_by g xs = sum_within f g h xs in
      let e : f x ≤ g x = h x in
      omega arith

  -- those that pass are at most all
  pub kept_within : (f : X → ℕ) (p : X → Bool) (xs : List X) → sum_by f (filter p xs) ≤ sum_by f xs
  kept_within f p xs = let e = sum_kept f p xs in rw e (sum_within (λ x. cond (p x) (f x) 0) f (λ x. pass_by (p x) (f x)) xs)

-- numbers of what elements are mapped to
pub sum_mapped : {X Y : Type 0} (f : Y → ℕ) (h : X → Y) (xs : List X) → sum_by f (map h xs) ≡ sum_by (λ x. f (h x)) xs
sum_mapped f h [] = refl
sum_mapped f h (x ∷ xs) = sum_next f (h x) (map h xs) ∙ ap (λ n. f (h x) + n) (sum_mapped f h xs) ∙ sym (sum_next (λ x. f (h x)) x xs)
