-- Entries of distinct keys that are put in order: in another order they are the same, and their keys ascend.
use Rattle.std.proofs.Common.{◌≡◌, ◌∙◌, Bool, true, false, cond, List, [], ◌∷◌, ◌++◌, append-nil, map, Option, Some, None, refl, sym, ap, subst, unwrap_or, Ordering, Less, Equal, Greater, IsPermutation, is_eq}
use Rattle.std.specs.{BTreeMap.{insert_entry, is_at}, Cmp.{IsTotalOrder, eq_by_cmp_equiv}}
use Rattle.std.specs.{List.{AllByRecursion, IsDistinct, Sorted.IsStrictlySortedBy}, Map.{keys_of, lookup}}
use Rattle.std.specs.Ordering.{eq_by_cmp, match_ordering}
use Rattle.std.proofs.lemmas.List.Sorted.{IsPermutation-refl, IsPermutation-sym, IsPermutation-cons, IsPermutation-trans, IsPermutation-append_right, IsPermutation-middle}
use Rattle.std.proofs.lemmas.Map.{lookup-none, Entries.none_below_head, Keys.sorted_tail, Lookups.CmpEqualImpliesEq}
use Rattle.base_types.proofs.MapLemmas.{ascend-put, at-put, equal}
use Rattle.rule_machine.specs.Orders.{entries_with, in_order}

none_ascend : {K : Type 0} (R : K → K → Ordering) → IsStrictlySortedBy R []
unfolding IsStrictlySortedBy
none_ascend R = tt

module _ {K X : Type 0} {R : K → K → Ordering} (o : IsTotalOrder R) where
  -- ---- in order

  put_by : (k : K) (x : X) (e : K × X) (es : List (K × X)) (r : Ordering) → cond (is_eq r) (Some e.1) (lookup (is_at (R k)) es) ≡ None
      → (lookup (is_at (R k)) es ≡ None → IsPermutation ((k, x) ∷ es) (insert_entry R es k x))
      → IsPermutation ((k, x) ∷ e ∷ es) (match_ordering r ((k, x) ∷ e ∷ es) ((e.0, x) ∷ es) (e ∷ insert_entry R es k x))
  put_by k x e es Less h later = IsPermutation-refl ((k, x) ∷ e ∷ es)
  put_by k x e es Equal h later = absurd cc
  put_by k x e es Greater h later =
      IsPermutation-trans ((k, x) ∷ e ∷ es) (e ∷ (k, x) ∷ es) (e ∷ insert_entry R es k x)
      (IsPermutation-sym (e ∷ (k, x) ∷ es) ((k, x) ∷ e ∷ es) (IsPermutation-middle (e ∷ []) (k, x) es))
      (IsPermutation-cons e ((k, x) ∷ es) (insert_entry R es k x) (later h))

  -- an entry of a new key is put somewhere
  put_new : (k : K) (x : X) (es : List (K × X)) → lookup (is_at (R k)) es ≡ None → IsPermutation ((k, x) ∷ es) (insert_entry R es k x)
  put_new k x [] h = IsPermutation-refl ((k, x) ∷ [])
  put_new k x (e ∷ es) h = put_by k x e es (R k e.0) h (put_new k x es)

  -- no key of these stands among entries
  abbrev AreNew : List (K × X) → List (K × X) → Type 0
  AreNew es news = AllByRecursion (λ (e : K × X). lookup (is_at (R e.0)) es ≡ None) news

  still_new : (es : List (K × X)) (k : K) (x : X) (news : List (K × X)) → AllByRecursion (λ y. eq_by_cmp R k y ≡ false) (keys_of news) → AreNew es news → AreNew (insert_entry R es k x) news
  still_new es k x [] d h = tt
  still_new es k x (e ∷ news) d h =
      let apart : is_at (R e.0) k ≡ false = (eq_by_cmp_equiv o).symm e.0 k ∙ d.0 in
      (at-put R o es k e.0 x ∙ ap (λ b. cond b (Some x) (lookup (is_at (R e.0)) es)) apart ∙ h.0, still_new es k x news d.1 h.1)

  with_all : (es news : List (K × X)) → IsDistinct (eq_by_cmp R) (keys_of news) → AreNew es news → IsPermutation (news ++ es) (entries_with R es news)
  unfolding IsDistinct
  with_all es [] d h = IsPermutation-refl es
  with_all es (e ∷ news) d h =
      let more : List (K × X) = insert_entry R es e.0 e.1 in
      let front : IsPermutation (e ∷ (news ++ es)) (news ++ e ∷ es) = IsPermutation-sym (news ++ e ∷ es) (e ∷ (news ++ es)) (IsPermutation-middle news e es) in
      let put : IsPermutation (news ++ e ∷ es) (news ++ more) = IsPermutation-append_right news (e ∷ es) more (put_new e.0 e.1 es h.0) in
      IsPermutation-trans (e ∷ (news ++ es)) (news ++ e ∷ es) (entries_with R more news) front
      (IsPermutation-trans (news ++ e ∷ es) (news ++ more) (entries_with R more news) put (with_all more news d.1 (still_new es e.0 e.1 news d.0 h.1)))

  none_new : (news : List (K × X)) → AreNew [] news
  none_new [] = tt
  none_new (e ∷ news) = (refl, none_new news)

  -- entries of distinct keys, in the order of their keys
  pub order_permutes : (es : List (K × X)) → IsDistinct (eq_by_cmp R) (keys_of es) → IsPermutation es (in_order R es)
  order_permutes es d = subst (λ fs. IsPermutation fs (in_order R es)) (append-nil es) (with_all [] es d (none_new es))

  ascend_all : (es news : List (K × X)) → IsStrictlySortedBy R (keys_of es) → IsStrictlySortedBy R (keys_of (entries_with R es news))
  ascend_all es [] s = s
  ascend_all es (e ∷ news) s = ascend_all (insert_entry R es e.0 e.1) news (ascend-put R o es e.0 e.1 s)

  -- their keys ascend
  pub order_ascends : (es : List (K × X)) → IsStrictlySortedBy R (keys_of (in_order R es))
  order_ascends es = ascend_all [] es (none_ascend R)

-- ---- entries whose values change

-- entries with other values
abbrev pub mapped : {K X Y : Type 0} → (K × X → Y) → List (K × X) → List (K × Y)
mapped h es = map (λ e. (e.0, h e)) es

-- values that are equal at all keys but one
abbrev pub AreEqualBut : {K X Y : Type 0} → (K → K → Ordering) → K → (K × X → Y) → (K × X → Y) → Type 0
AreEqualBut {K} {X} R q g h = (e : K × X) → is_at (R q) e.0 ≡ false → g e ≡ h e

module _ {K X Y : Type 0} {R : K → K → Ordering} (exact : CmpEqualImpliesEq R) where
  none_by : (h : K × X → Y) (e : K × X) (rest : Option Y) (found : Option X) (b : Bool) → (found ≡ None → rest ≡ None) → cond b (Some e.1) found ≡ None → cond b (Some (h e)) rest ≡ None
  none_by h e rest found true later n = absurd cc
  none_by h e rest found false later n = later n

  -- no value is there, and none after
  pub mapped_none : (h : K × X → Y) (q : K) (es : List (K × X)) → lookup (is_at (R q)) es ≡ None → lookup (is_at (R q)) (mapped h es) ≡ None
  mapped_none h q [] n = refl
  mapped_none h q (e ∷ es) n = none_by h e (lookup (is_at (R q)) (mapped h es)) (lookup (is_at (R q)) es) (is_at (R q) e.0) (mapped_none h q es) n

  -- a value is there, and another after
  pub mapped_some : (h : K × X → Y) (q : K) (x : X) (es : List (K × X)) → lookup (is_at (R q)) es ≡ Some x → lookup (is_at (R q)) (mapped h es) ≡ Some (h (q, x))
  mapped_some h q x [] n = absurd cc
  mapped_some h q x (e ∷ es) n = by (R q e.0) refl n (mapped_some h q x es)
    where
      by : (r : Ordering) → R q e.0 ≡ r → cond (is_eq r) (Some e.1) (lookup (is_at (R q)) es) ≡ Some x
          → (lookup (is_at (R q)) es ≡ Some x → lookup (is_at (R q)) (mapped h es) ≡ Some (h (q, x)))
          → cond (is_eq r) (Some (h e)) (lookup (is_at (R q)) (mapped h es)) ≡ Some (h (q, x))
      by Less p n later = later n
      by Equal p n later =
          let key : q ≡ e.0 = exact q e.0 p in
          let value : e.1 ≡ x = ap (λ v. unwrap_or v x) n in
          λ i. Some (h (sym key i, value i))
      by Greater p n later = later n

  pub equal_apart : (q : K) (g h : K × X → Y) → AreEqualBut R q g h → (es : List (K × X)) → AllByRecursion (λ (e : K × X). is_at (R q) e.0 ≡ false) es → mapped g es ≡ mapped h es
  equal_apart q g h alike [] n = refl
  equal_apart q g h alike (e ∷ es) n = λ i. (e.0, alike e n.0 i) ∷ equal_apart q g h alike es n.1 i

module _ {K X : Type 0} {R : K → K → Ordering} (exact : CmpEqualImpliesEq R) where
  above : (q : K) (e : K × X) (es : List (K × X)) → R q e.0 ≡ Equal → AllByRecursion (λ y. R e.0 y ≡ Less) (keys_of es) → AllByRecursion (λ (f : K × X). is_at (R q) f.0 ≡ false) es
  above q e [] p s = tt
  above q e (f ∷ es) p s = (ap (λ k. is_eq (R k f.0)) (exact q e.0 p) ∙ ap is_eq s.0, above q e es p s.1)

module _ {K X Y : Type 0} {R : K → K → Ordering} (o : IsTotalOrder R) (exact : CmpEqualImpliesEq R) where
  -- one value was put at its key
  pub mapped_put : (q : K) (x : X) (g h : K × X → Y) → AreEqualBut R q g h → (es : List (K × X)) → IsStrictlySortedBy R (keys_of es) → lookup (is_at (R q)) es ≡ Some x
      → insert_entry R (mapped g es) q (h (q, x)) ≡ mapped h es
  unfolding IsStrictlySortedBy
  mapped_put q x g h alike [] s n = absurd cc
  mapped_put q x g h alike (e ∷ es) s n = by (R q e.0) refl n (mapped_put q x g h alike es s.1)
    where
      by : (r : Ordering) → R q e.0 ≡ r → cond (is_eq r) (Some e.1) (lookup (is_at (R q)) es) ≡ Some x
          → (lookup (is_at (R q)) es ≡ Some x → insert_entry R (mapped g es) q (h (q, x)) ≡ mapped h es)
          → match_ordering r ((q, h (q, x)) ∷ (e.0, g e) ∷ mapped g es) ((e.0, h (q, x)) ∷ mapped g es) ((e.0, g e) ∷ insert_entry R (mapped g es) q (h (q, x)))
          ≡ (e.0, h e) ∷ mapped h es
      by Less p n later = absurd (not_below p n)
        where
          not_below : R q e.0 ≡ Less → lookup (is_at (R q)) es ≡ Some x → ⊥
          not_below p n = let none : lookup (is_at (R q)) es ≡ None = lookup-none (is_at (R q)) es (none_below_head o q e es s p).1 in absurd cc
      by Equal p n later =
          let key : q ≡ e.0 = exact q e.0 p in
          let value : e.1 ≡ x = ap (λ v. unwrap_or v x) n in
          let rest : mapped g es ≡ mapped h es = equal_apart exact q g h alike es (above exact q e es p s.0) in
          λ i. (e.0, h (key i, sym value i)) ∷ rest i
      by Greater p n later = λ i. (e.0, alike e (ap is_eq p) i) ∷ later n i
