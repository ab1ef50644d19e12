-- Keys that are sorted and stand once ascend, and ascending lists with the same members are one.
use Rattle.std.proofs.Common.{◌≡◌, ◌∙◌, ℕ, ◌+◌, ◌<◌, get_or, length, Bool, true, false, List, [], ◌∷◌, refl, sym, ap, arith, inl, inr, Ordering, Less, Equal, Greater, is_eq, is_lt, IsSorted}
use Rattle.std.specs.{Ordering.{eq_by_cmp, ordering_reverse}, Cmp.IsTotalOrder, List.{AllByRecursion, IsDistinct}}
use Rattle.std.specs.List.Sorted.{IsStrictlySortedBy}
use Rattle.std.proofs.lemmas.Map.Keys.{apart_from_distinct, sorted_from_all_adjacent}
use Rattle.base_records.proofs.MemberLemmas.{Member}

-- a key is below all of these
abbrev pub Above : {K : Type 0} → (K → K → Ordering) → K → List K → Type 0
Above cmp k ks = AllByRecursion (λ x. cmp k x ≡ Less) ks

pub greater : {K : Type 0} (cmp : K → K → Ordering) → IsTotalOrder cmp → (k x : K) → cmp x k ≡ Less → cmp k x ≡ Greater
greater cmp total k x p = total.antisymm k x ∙ ap ordering_reverse p

module _ {K : Type 0} {cmp : K → K → Ordering} (o : IsTotalOrder cmp) where
  pub not_below : (x : K) → cmp x x ≡ Less → ⊥
  not_below x p = let back : Less ≡ Greater = sym p ∙ o.antisymm x x ∙ ap ordering_reverse p in absurd cc

  less : (a b : K) → is_lt (cmp b a) ≡ false → eq_by_cmp cmp a b ≡ false → cmp a b ≡ Less
  less a b p q = by (cmp a b) refl
    where
      by : (r : Ordering) → cmp a b ≡ r → r ≡ Less
      by Less e = refl
      by Equal e = let clash : false ≡ true = sym q ∙ ap is_eq e in absurd cc
      by Greater e = let clash : false ≡ true = sym p ∙ ap is_lt (o.antisymm b a ∙ ap ordering_reverse e) in absurd cc

  -- the element d is that of places where there is none
  once-ascends-from : (ks : List K) (d : K) → IsSorted cmp ks → IsDistinct (eq_by_cmp cmp) ks → IsStrictlySortedBy cmp ks
  once-ascends-from ks d s once =
      sorted_from_all_adjacent o ks d (λ k n. less (get_or ks k d) (get_or ks (k + 1) d) (s k d (omega arith) n) (apart_from_distinct (eq_by_cmp cmp) ks k (k + 1) d once (omega arith) n))

  once-none : IsStrictlySortedBy cmp []
  unfolding IsStrictlySortedBy
  once-none = tt

  pub once-ascends : (ks : List K) → IsSorted cmp ks → IsDistinct (eq_by_cmp cmp) ks → IsStrictlySortedBy cmp ks
  once-ascends [] s once = once-none
  once-ascends (k ∷ ks) s once = once-ascends-from (k ∷ ks) k s once

  -- ---- ascending lists with the same elements are one

  below : (k x : K) (ks : List K) → Above cmp k ks → Member ks x → cmp k x ≡ Less
  below k x [] h m = absurd m
  below k x (y ∷ ks) h (inl e) = ap (cmp k) (sym e) ∙ h.0
  below k x (y ∷ ks) h (inr m) = below k x ks h.1 m

  pub same_members : (ks ls : List K) → IsStrictlySortedBy cmp ks → IsStrictlySortedBy cmp ls → ((x : K) → Member ks x → Member ls x) → ((x : K) → Member ls x → Member ks x) → ks ≡ ls
  unfolding IsStrictlySortedBy
  same_members [] [] s t f g = refl
  same_members [] (l ∷ ls) s t f g = absurd (g l (inl refl))
  same_members (k ∷ ks) [] s t f g = absurd (f k (inl refl))
  same_members (k ∷ ks) (l ∷ ls) s t f g =
      let heads = first (f k (inl refl)) (g l (inl refl)) in
      let rest = same_members ks ls s.1 t.1 (λ x m. later x m heads (f x (inr m))) (λ x m. earlier x m heads (g x (inr m))) in
      λ i. heads i ∷ rest i
    where
      first : Member (l ∷ ls) k → Member (k ∷ ks) l → k ≡ l
      first (inl e) m = sym e
      first (inr n) (inl e) = e
      first (inr n) (inr m) =
          let less = below l k ls t.0 n in
          let more = greater cmp o k l less in
          let back = below k l ks s.0 m in
          let clash : Less ≡ Greater = sym back ∙ more in
          absurd cc

      later : (x : K) → Member ks x → k ≡ l → Member (l ∷ ls) x → Member ls x
      later x m e (inl q) = absurd (not_below k (ap (cmp k) (e ∙ q) ∙ below k x ks s.0 m))
      later x m e (inr n) = n

      earlier : (x : K) → Member ls x → k ≡ l → Member (k ∷ ks) x → Member ks x
      earlier x m e (inl q) = absurd (not_below l (ap (cmp l) (sym e ∙ q) ∙ below l x ls t.0 m))
      earlier x m e (inr n) = n
