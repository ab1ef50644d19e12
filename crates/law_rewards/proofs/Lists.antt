-- Lists of starts: one more, one less, and their sums.
use Rattle.std.proofs.Common.{◌≡◌, ℕ, zero, suc, ◌+◌, ◌<◌, ◌≤◌, List, [], ◌∷◌, ◌++◌, length, map, refl, arith, ap, sym, subst, Some, sum, slice_get, insert, remove}
use Rattle.std.{specs.List.AllByRecursion, proofs.lemmas.List.Sums.sum_by-cons}

pub all_map : {A : Type 0} (P Q : A → Type 0) → ((x : A) → P x → Q x) → (xs : List A) → AllByRecursion P xs → AllByRecursion Q xs
all_map P Q f [] e = tt
all_map P Q f (x ∷ xs) e = (f x e.0, all_map P Q f xs e.1)

pub all_map_two : {A : Type 0} (P R Q : A → Type 0) → ((x : A) → P x → R x → Q x) → (xs : List A) → AllByRecursion P xs → AllByRecursion R xs → AllByRecursion Q xs
all_map_two P R Q f [] e r = tt
all_map_two P R Q f (x ∷ xs) e r = (f x e.0 r.0, all_map_two P R Q f xs e.1 r.1)

pub all_insert : {A : Type 0} (P : A → Type 0) (y : A) → P y → (k : ℕ) (xs : List A) → AllByRecursion P xs → AllByRecursion P (insert xs k y)
all_insert P y h zero [] e = (h, tt)
all_insert P y h (suc k) [] e = (h, tt)
all_insert P y h zero (x ∷ xs) e = (h, e)
all_insert P y h (suc k) (x ∷ xs) e = (e.0, all_insert P y h k xs e.1)

pub all_remove : {A : Type 0} (P : A → Type 0) (k : ℕ) (xs : List A) → AllByRecursion P xs → AllByRecursion P (remove xs k)
all_remove P zero [] e = tt
all_remove P (suc k) [] e = tt
all_remove P zero (x ∷ xs) e = e.1
all_remove P (suc k) (x ∷ xs) e = (e.0, all_remove P k xs e.1)

pub all_behind : {A : Type 0} (P : A → Type 0) (xs : List A) (y : A) → AllByRecursion P xs → P y → AllByRecursion P (xs ++ y ∷ [])
all_behind P [] y e h = (h, tt)
all_behind P (x ∷ xs) y e h = (e.0, all_behind P xs y e.1 h)

pub sum_more : (n : ℕ) (ns : List ℕ) → sum (n ∷ ns) ≡ n + sum ns
sum_more n ns = sum_by-cons (λ m. m) n ns

-- each number is at most the sum
pub all_within : {A : Type 0} (f : A → ℕ) (xs : List A) → AllByRecursion (λ x. f x ≤ sum (map f xs)) xs
all_within f [] = tt
all_within f (x ∷ xs) =
    let more : sum (map f (x ∷ xs)) ≡ f x + sum (map f xs) = sum_more (f x) (map f xs) in
    (omega arith, all_map (λ y. f y ≤ sum (map f xs)) (λ y. f y ≤ sum (map f (x ∷ xs))) (λ y h. omega arith) xs (all_within f xs))

pub all_at : {A : Type 0} (P : A → Type 0) (k : ℕ) (x : A) (xs : List A) → slice_get xs k ≡ Some x → AllByRecursion P xs → P x
all_at P k x [] is e = absurd cc
all_at P zero x (y ∷ xs) is e = let same : y ≡ x = cc in subst P same e.0
all_at P (suc k) x (y ∷ xs) is e = all_at P k x xs is e.1

-- something stands at each place
pub some_at : {A : Type 0} (k : ℕ) (xs : List A) → k < length xs → (x : A) × (slice_get xs k ≡ Some x)
some_at k [] h = absurd (omega arith)
some_at zero (x ∷ xs) h = (x, refl)
some_at (suc k) (x ∷ xs) h = some_at k xs (omega arith)

-- what holds of an item and of all others holds of all
pub all_put_back : {A : Type 0} (P : A → Type 0) (k : ℕ) (x : A) (xs : List A) → slice_get xs k ≡ Some x → P x → AllByRecursion P (remove xs k) → AllByRecursion P xs
all_put_back P k x [] is p e = tt
all_put_back P zero x (y ∷ xs) is p e = let same : y ≡ x = cc in (subst P (sym same) p, e)
all_put_back P (suc k) x (y ∷ xs) is p e = (e.0, all_put_back P k x xs is p e.1)

-- and what holds of all holds of the one that was put, and of those before
pub all_before : {A : Type 0} (P : A → Type 0) (y : A) (k : ℕ) (xs : List A) → AllByRecursion P (insert xs k y) → P y × AllByRecursion P xs
all_before P y zero [] e = (e.0, tt)
all_before P y (suc k) [] e = (e.0, tt)
all_before P y zero (x ∷ xs) e = (e.0, e.1)
all_before P y (suc k) (x ∷ xs) e = let rest : P y × AllByRecursion P xs = all_before P y k xs e.1 in (rest.0, (e.0, rest.1))

pub sum_remove : {A : Type 0} (f : A → ℕ) (x : A) (k : ℕ) (xs : List A) → slice_get xs k ≡ Some x → sum (map f (remove xs k)) + f x ≡ sum (map f xs)
sum_remove f x k [] is = absurd cc
sum_remove f x zero (y ∷ xs) is = let same : y ≡ x = cc in omega (arith, sum_more (f y) (map f xs), ap f same)
sum_remove f x (suc k) (y ∷ xs) is = omega (arith, sum_more (f y) (map f xs), sum_more (f y) (map f (remove xs k)), sum_remove f x k xs is)

pub insert_first : {A : Type 0} (y : A) (xs : List A) → insert xs 0 y ≡ y ∷ xs
insert_first y [] = refl
insert_first y (x ∷ xs) = refl
