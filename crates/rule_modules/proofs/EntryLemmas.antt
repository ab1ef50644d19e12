-- What holds of all entries, by what stands at each key.
use Rattle.std.proofs.Common.{◌≡◌, Bool, true, false, cond, List, [], ◌∷◌, Some, None, refl, ap, All, Contains, Ordering, Equal}
use Rattle.std.specs.{Cmp.{IsTotalOrder, eq_by_cmp_equiv}, List.Sorted.IsStrictlySortedBy, Map.keys_of, BTreeMap.is_at}
use Rattle.std.proofs.lemmas.List.Elements.{All-weaker, All-contains, All-contains_itself}
use Rattle.std.proofs.lemmas.Map.{Keys.IsDistinct-from_sorted, Views.{Contains-from_lookup, lookup-from_Contains}}
use Rattle.base_roles.specs.Entries.{at, without}
use Rattle.base_types.proofs.MapLemmas.{equal}
pub use Rattle.base_types.proofs.MapLemmas.{at-put, at-taken, ascend-put}

-- what holds of what stands at each key holds of all entries, and the other way where equal keys are the same
module _ {K V : Type 0} (cmp : K → K → Ordering) (o : IsTotalOrder cmp) (P : K × V → Type 0) (es : List (K × V)) where
  pub to_all : IsStrictlySortedBy cmp (keys_of es) → ((k : K) (v : V) → at cmp es k ≡ Some v → P (k, v)) → All P es
  to_all s h = All-weaker (Contains es) P (λ x c. h x.0 x.1 (lookup-from_Contains (eq_by_cmp_equiv o) x.0 x.1 es (IsDistinct-from_sorted cmp (keys_of es) s) c)) es (All-contains_itself es)

  pub from_all : ((a b : K) → cmp a b ≡ Equal → a ≡ b) → All P es → (k : K) (v : V) → at cmp es k ≡ Some v → P (k, v)
  from_all exact h k v e = All-contains P es (k, v) h (Contains-from_lookup (λ x y d. exact x y (equal (cmp x y) d)) k v es e)

-- what does not stand is not taken
pub without_none : {K V : Type 0} (cmp : K → K → Ordering) (k : K) (es : List (K × V)) → at cmp es k ≡ None → without cmp es k ≡ es
without_none cmp k [] h = refl
without_none cmp k (e ∷ es) h = by (is_at (cmp k) e.0) h (without_none cmp k es)
  where
    by : (b : Bool) → cond b (Some e.1) (at cmp es k) ≡ None → (at cmp es k ≡ None → without cmp es k ≡ es) → cond b es (e ∷ without cmp es k) ≡ e ∷ es
    by true g rest = absurd cc
    by false g rest = ap (λ xs. e ∷ xs) (rest g)
