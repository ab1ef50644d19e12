-- What things tell, in whatever order they come.
use Rattle.std.proofs.Common.{◌≡◌, ◌∙◌, sym, Bool, false, List, [], ◌∷◌, Option, Some, None, refl, ap, subst, unwrap_or, Ordering, filter_map, IsPermutation}
use Rattle.std.specs.{BTreeMap.is_at, Cmp.{IsTotalOrder, eq_by_cmp_equiv}}
use Rattle.std.specs.{List.{AllByRecursion, IsDistinct, cons_option, Sorted.IsStrictlySortedBy}, Map.{keys_of, lookup}}
use Rattle.std.{specs.Ordering.eq_by_cmp, proofs.lemmas.List.Elements.{All-from_recursion, recursion_from_All}}
use Rattle.std.proofs.lemmas.List.Sorted.{All-permutation, IsPermutation-sym}
use Rattle.std.proofs.lemmas.Map.{Keys.{IsDistinct-IsPermutation, IsDistinct-from_sorted}, Lookups.CmpEqualImpliesEq}
use Rattle.rule_machine.specs.Orders.{in_order}
use Rattle.line_report.proofs.EntryLemmas.{AreFound, all_found, found_alike, in_order_is}

module _ {T K X : Type 0} {R : K → K → Ordering} (o : IsTotalOrder R) (tell : T → Option (K × X)) where
  -- ---- which things tell of one key

  clash_by : Option (K × X) → Option (K × X) → Bool
  clash_by None y = false
  clash_by (Some e) None = false
  clash_by (Some e) (Some f) = eq_by_cmp R e.0 f.0

  abbrev clash : T → T → Bool
  clash x y = clash_by (tell x) (tell y)

  clash_flips : (x y : Option (K × X)) → clash_by x y ≡ clash_by y x
  unfolding clash_by
  clash_flips None None = refl
  clash_flips None (Some f) = refl
  clash_flips (Some e) None = refl
  clash_flips (Some e) (Some f) = (eq_by_cmp_equiv o).symm e.0 f.0

  nothing_clashes : (xs : List T) → AllByRecursion (λ y. clash_by None (tell y) ≡ false) xs
  unfolding clash_by
  nothing_clashes [] = tt
  nothing_clashes (x ∷ xs) = (refl, nothing_clashes xs)

  keys_to_things : (e : K × X) (xs : List T) → AllByRecursion (λ k. eq_by_cmp R e.0 k ≡ false) (keys_of (filter_map tell xs)) → AllByRecursion (λ y. clash_by (Some e) (tell y) ≡ false) xs
  unfolding clash_by
  keys_to_things e [] h = tt
  keys_to_things e (x ∷ xs) h = by (tell x) (keys_to_things e xs) h
    where
      by : (t : Option (K × X)) → (AllByRecursion (λ k. eq_by_cmp R e.0 k ≡ false) (keys_of (filter_map tell xs)) → AllByRecursion (λ y. clash_by (Some e) (tell y) ≡ false) xs)
          → AllByRecursion (λ k. eq_by_cmp R e.0 k ≡ false) (keys_of (cons_option t (filter_map tell xs))) → (clash_by (Some e) t ≡ false) × AllByRecursion (λ y. clash_by (Some e) (tell y) ≡ false) xs
      by None later g = (refl, later g)
      by (Some f) later g = (g.0, later g.1)

  things_to_keys : (e : K × X) (xs : List T) → AllByRecursion (λ y. clash_by (Some e) (tell y) ≡ false) xs → AllByRecursion (λ k. eq_by_cmp R e.0 k ≡ false) (keys_of (filter_map tell xs))
  unfolding clash_by
  things_to_keys e [] h = tt
  things_to_keys e (x ∷ xs) h = by (tell x) h.0 (things_to_keys e xs h.1)
    where
      by : (t : Option (K × X)) → clash_by (Some e) t ≡ false → AllByRecursion (λ k. eq_by_cmp R e.0 k ≡ false) (keys_of (filter_map tell xs)) → AllByRecursion (λ k. eq_by_cmp R e.0 k ≡ false) (keys_of (cons_option t (filter_map tell xs)))
      by None g later = later
      by (Some f) g later = (g, later)

  things_differ : (xs : List T) → IsDistinct (eq_by_cmp R) (keys_of (filter_map tell xs)) → IsDistinct clash xs
  unfolding IsDistinct
  things_differ [] d = tt
  things_differ (x ∷ xs) d = by (tell x) (things_differ xs) d
    where
      by : (t : Option (K × X)) → (IsDistinct (eq_by_cmp R) (keys_of (filter_map tell xs)) → IsDistinct clash xs)
          → IsDistinct (eq_by_cmp R) (keys_of (cons_option t (filter_map tell xs))) → AllByRecursion (λ y. clash_by t (tell y) ≡ false) xs × IsDistinct clash xs
      by None later g = (nothing_clashes xs, later g)
      by (Some e) later g = (keys_to_things e xs g.0, later g.1)

  keys_differ : (xs : List T) → IsDistinct clash xs → IsDistinct (eq_by_cmp R) (keys_of (filter_map tell xs))
  unfolding IsDistinct
  keys_differ [] d = tt
  keys_differ (x ∷ xs) d = by (tell x) d.0 (keys_differ xs d.1)
    where
      by : (t : Option (K × X)) → AllByRecursion (λ y. clash_by t (tell y) ≡ false) xs → IsDistinct (eq_by_cmp R) (keys_of (filter_map tell xs)) → IsDistinct (eq_by_cmp R) (keys_of (cons_option t (filter_map tell xs)))
      by None g later = later
      by (Some e) g later = (things_to_keys e xs g, later)

  -- what is told of keys that differ is so in whatever order
  pub differ_anyway : (xs ys : List T) → IsPermutation xs ys → IsDistinct (eq_by_cmp R) (keys_of (filter_map tell xs)) → IsDistinct (eq_by_cmp R) (keys_of (filter_map tell ys))
  differ_anyway xs ys p d = keys_differ ys (IsDistinct-IsPermutation clash (λ x y. clash_flips (tell x) (tell y)) xs ys p (things_differ xs d))

  -- ---- what holds of all that is told

  nothing_told : (e : K × X) → None ≡ Some e → ⊥
  nothing_told e h = absurd cc

  one_told : (Q : K × X → Type 0) (f e : K × X) → Some f ≡ Some e → Q f → Q e
  one_told Q f e h q = subst Q (ap (λ t. unwrap_or t f) h) q

  to_things : (Q : K × X → Type 0) (xs : List T) → AllByRecursion Q (filter_map tell xs) → AllByRecursion (λ x. (e : K × X) → tell x ≡ Some e → Q e) xs
  to_things Q [] h = tt
  to_things Q (x ∷ xs) h = by (tell x) refl (to_things Q xs) h
    where
      by : (t : Option (K × X)) → tell x ≡ t → (AllByRecursion Q (filter_map tell xs) → AllByRecursion (λ y. (e : K × X) → tell y ≡ Some e → Q e) xs)
          → AllByRecursion Q (cons_option t (filter_map tell xs)) → ((e : K × X) → tell x ≡ Some e → Q e) × AllByRecursion (λ y. (e : K × X) → tell y ≡ Some e → Q e) xs
      by None is later g = ((λ e some. absurd (nothing_told e (sym is ∙ some))), later g)
      by (Some f) is later g = ((λ e some. one_told Q f e (sym is ∙ some) g.0), later g.1)

  from_things : (Q : K × X → Type 0) (xs : List T) → AllByRecursion (λ x. (e : K × X) → tell x ≡ Some e → Q e) xs → AllByRecursion Q (filter_map tell xs)
  from_things Q [] h = tt
  from_things Q (x ∷ xs) h = by (tell x) refl (from_things Q xs h.1)
    where
      by : (t : Option (K × X)) → tell x ≡ t → AllByRecursion Q (filter_map tell xs) → AllByRecursion Q (cons_option t (filter_map tell xs))
      by None is later = later
      by (Some e) is later = (h.0 e is, later)

  hold_anyway : (Q : K × X → Type 0) (xs ys : List T) → IsPermutation xs ys → AllByRecursion Q (filter_map tell xs) → AllByRecursion Q (filter_map tell ys)
  hold_anyway Q xs ys p h =
      let Told : T → Type 0 = λ x. (e : K × X) → tell x ≡ Some e → Q e in
      from_things Q ys (recursion_from_All Told ys (All-permutation Told xs ys p (All-from_recursion Told xs (to_things Q xs h))))

  -- ---- in whatever order

  pub alike_anyway : (q : K) (xs ys : List T) → IsPermutation xs ys → IsDistinct (eq_by_cmp R) (keys_of (filter_map tell xs)) → lookup (is_at (R q)) (filter_map tell ys) ≡ lookup (is_at (R q)) (filter_map tell xs)
  alike_anyway q xs ys p d =
      let es = filter_map tell xs in
      let fs = filter_map tell ys in
      let there : AreFound o es fs = hold_anyway (λ e. lookup (is_at (R e.0)) es ≡ Some e.1) xs ys p (all_found o es d) in
      let back : AreFound o fs es = hold_anyway (λ e. lookup (is_at (R e.0)) fs ≡ Some e.1) ys xs (IsPermutation-sym xs ys p) (all_found o fs (differ_anyway xs ys p d)) in
      found_alike o q fs es there back

  -- What is told is put in the same order, however it comes, where it differs in its keys: in that of a table of the same
  -- look-ups.
  pub order_anyway : CmpEqualImpliesEq R → (xs ys : List T) (table : List (K × X)) → IsPermutation xs ys → IsDistinct (eq_by_cmp R) (keys_of (filter_map tell xs))
      → ((q : K) → lookup (is_at (R q)) (filter_map tell xs) ≡ lookup (is_at (R q)) table) → IsStrictlySortedBy R (keys_of table) → in_order R (filter_map tell ys) ≡ table
  order_anyway exact xs ys table p d h s = in_order_is o exact (filter_map tell ys) table (differ_anyway xs ys p d) (λ q. alike_anyway q xs ys p d ∙ h q) s

  -- the same where a table itself is told
  pub table_anyway : CmpEqualImpliesEq R → (xs ys : List T) (table : List (K × X)) → IsPermutation xs ys → filter_map tell xs ≡ table → IsStrictlySortedBy R (keys_of table) → in_order R (filter_map tell ys) ≡ table
  table_anyway exact xs ys table p told s =
      order_anyway exact xs ys table p (subst (λ es. IsDistinct (eq_by_cmp R) (keys_of es)) (sym told) (IsDistinct-from_sorted R (keys_of table) s)) (λ q. ap (lookup (is_at (R q))) told) s
