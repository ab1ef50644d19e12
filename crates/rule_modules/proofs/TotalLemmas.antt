-- The sum of what is read of entries, as one of them is put, joins or is taken.
use Rattle.std.proofs.Common.{◌≡◌, ℕ, ◌+◌, ◌≤◌, Bool, true, false, cond, List, [], ◌∷◌, map, Some, None, refl, ap, arith, sum, Ordering, Less, Equal, Greater, is_eq}
use Rattle.std.specs.{Ordering.match_ordering, List.Sorted.IsStrictlySortedBy, Map.{keys_of, values_of}}
use Rattle.std.{specs.{BTreeMap.{insert_entry, is_at}, Cmp.IsTotalOrder}, proofs.lemmas.List.Sums.sum_by-cons}
use Rattle.std.proofs.lemmas.Map.{lookup-none, Entries.none_below_head}
use Rattle.base_roles.specs.Entries.{at, with, without}

module _ {K X : Type 0} (cmp : K → K → Ordering) (o : IsTotalOrder cmp) (f : X → ℕ) where
  -- the sum of what is read of each value
  abbrev pub total : List (K × X) → ℕ
  total es = sum (map f (values_of es))

  pub total_more : (e : K × X) (es : List (K × X)) → total (e ∷ es) ≡ f e.1 + total es
  total_more e es = sum_by-cons (λ n. n) (f e.1) (map f (values_of es))

  some_is : (a b : X) → Some a ≡ Some b → a ≡ b
  some_is a b h = cc

  pub total_put : (k : K) (x y : X) (es : List (K × X)) → IsStrictlySortedBy cmp (keys_of es) → at cmp es k ≡ Some x → total (with cmp es k y) + f x ≡ total es + f y
  unfolding IsStrictlySortedBy
  total_put k x y [] s h = absurd cc
  total_put k x y (e ∷ es) s h = by (cmp k e.0) refl h (λ g. total_put k x y es s.1 g)
    where
      by : (r : Ordering) → cmp k e.0 ≡ r → cond (is_eq r) (Some e.1) (at cmp es k) ≡ Some x
          → (at cmp es k ≡ Some x → total (insert_entry cmp es k y) + f x ≡ total es + f y)
          → total (match_ordering r ((k, y) ∷ e ∷ es) ((e.0, y) ∷ es) (e ∷ insert_entry cmp es k y)) + f x ≡ total (e ∷ es) + f y
      by Less p g later =
          let none : at cmp es k ≡ None = lookup-none (is_at (cmp k)) es (none_below_head o k e es s p).1 in
          absurd cc
      by Equal p g later = let one : f e.1 ≡ f x = ap f (some_is e.1 x g) in omega (arith, one, total_more (e.0, y) es, total_more e es)
      by Greater p g later = omega (arith, later g, total_more e (insert_entry cmp es k y), total_more e es)

  pub total_joined : (k : K) (y : X) (es : List (K × X)) → at cmp es k ≡ None → total (with cmp es k y) ≡ total es + f y
  total_joined k y [] h = omega (arith, total_more (k, y) [])
  total_joined k y (e ∷ es) h = by (cmp k e.0) h (λ g. total_joined k y es g)
    where
      by : (r : Ordering) → cond (is_eq r) (Some e.1) (at cmp es k) ≡ None
          → (at cmp es k ≡ None → total (insert_entry cmp es k y) ≡ total es + f y)
          → total (match_ordering r ((k, y) ∷ e ∷ es) ((e.0, y) ∷ es) (e ∷ insert_entry cmp es k y)) ≡ total (e ∷ es) + f y
      by Less g later = omega (arith, total_more (k, y) (e ∷ es))
      by Equal g later = absurd cc
      by Greater g later = omega (arith, later g, total_more e (insert_entry cmp es k y), total_more e es)

  pub total_left : (k : K) (x : X) (es : List (K × X)) → at cmp es k ≡ Some x → total (without cmp es k) + f x ≡ total es
  total_left k x [] h = absurd cc
  total_left k x (e ∷ es) h = by (is_at (cmp k) e.0) h (λ g. total_left k x es g)
    where
      by : (b : Bool) → cond b (Some e.1) (at cmp es k) ≡ Some x → (at cmp es k ≡ Some x → total (without cmp es k) + f x ≡ total es)
          → total (cond b es (e ∷ without cmp es k)) + f x ≡ total (e ∷ es)
      by true g later = let one : f e.1 ≡ f x = ap f (some_is e.1 x g) in omega (arith, one, total_more e es)
      by false g later = omega (arith, later g, total_more e (without cmp es k), total_more e es)

  pub total_within : (k : K) (x : X) (es : List (K × X)) → at cmp es k ≡ Some x → f x ≤ total es
  total_within k x es h = omega (arith, total_left k x es h)
