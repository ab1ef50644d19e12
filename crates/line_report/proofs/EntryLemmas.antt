-- Entries put in order: they ascend, and are what their look-ups say.
use Rattle.std.proofs.Common.{◌≡◌, ◌≢◌, ◌∙◌, sym, Bool, true, false, cond, true≢false, ⊎_elim, List, [], ◌∷◌, Option, Some, None, refl, ap, is_some, unwrap_or, Ordering, Less, Equal, Greater, is_eq}
use Rattle.std.specs.Cmp.{IsTotalOrder, eq_by_cmp_equiv, tied_itself}
use Rattle.std.specs.{Ordering.{eq_by_cmp, match_ordering, ordering_reverse}, BTreeMap.{insert_entry, is_at}}
use Rattle.std.specs.{List.{AllByRecursion, IsDistinct, Sorted.IsStrictlySortedBy}, Map.{keys_of, lookup}}
use Rattle.std.proofs.lemmas.{Bool.cases_Bool, Map.lookup-none}
use Rattle.std.proofs.lemmas.Map.Entries.{lookup_head, lookup_tail, none_below_head, none_past_head}
use Rattle.std.proofs.lemmas.Map.Keys.{IsDistinct-from_sorted, IsDistinct-head, IsDistinct-tail, sorted_tail}
use Rattle.std.proofs.lemmas.Map.Lookups.{CmpEqualImpliesEq}
use Rattle.base_types.proofs.MapLemmas.{ascend-put, at-put}
use Rattle.rule_machine.specs.Orders.{entries_with, in_order}

not_none : {X : Type 0} (v : X) → Some v ≢ None
not_none v e = true≢false (ap is_some e)

-- ---- keys

-- no keys ascend
pub none_ascend : {K : Type 0} (R : K → K → Ordering) → IsStrictlySortedBy R []
unfolding IsStrictlySortedBy
none_ascend R = tt

module _ {K : Type 0} {R : K → K → Ordering} (o : IsTotalOrder R) where
  apart : (x : K) (ks : List K) → AllByRecursion (λ y. eq_by_cmp R x y ≡ false) ks → AllByRecursion (λ y. eq_by_cmp R y x ≡ false) ks
  apart x [] h = tt
  apart x (k ∷ ks) h = ((eq_by_cmp_equiv o).symm k x ∙ h.0, apart x ks h.1)

-- ---- entries

module _ {K X : Type 0} {R : K → K → Ordering} (o : IsTotalOrder R) where
  ascend_with : (es news : List (K × X)) → IsStrictlySortedBy R (keys_of es) → IsStrictlySortedBy R (keys_of (entries_with R es news))
  ascend_with es [] s = s
  ascend_with es (new ∷ news) s = ascend_with (insert_entry R es new.0 new.1) news (ascend-put R o es new.0 new.1 s)

  -- what is in order ascends
  pub ascend_in_order : (es : List (K × X)) → IsStrictlySortedBy R (keys_of (in_order R es))
  ascend_in_order es = ascend_with [] es (none_ascend R)

  -- ---- look-ups

  -- this, or else the other
  abbrev first : Option X → Option X → Option X
  first None y = y
  first (Some x) y = Some x

  first_none : (x : Option X) → first x None ≡ x
  first_none None = refl
  first_none (Some x) = refl

  lookup_with : (q : K) (es news : List (K × X)) → IsDistinct (eq_by_cmp R) (keys_of news) → lookup (is_at (R q)) (entries_with R es news) ≡ first (lookup (is_at (R q)) news) (lookup (is_at (R q)) es)
  lookup_with q es [] d = refl
  lookup_with q es (new ∷ news) d =
      lookup_with q (insert_entry R es new.0 new.1) news (IsDistinct-tail (eq_by_cmp R) new.0 (keys_of news) d)
      ∙ ap (first (lookup (is_at (R q)) news)) (at-put R o es new.0 q new.1)
      ∙ by (is_at (R q) new.0) refl
    where
      by : (b : Bool) → is_at (R q) new.0 ≡ b → first (lookup (is_at (R q)) news) (cond b (Some new.1) (lookup (is_at (R q)) es)) ≡ first (cond b (Some new.1) (lookup (is_at (R q)) news)) (lookup (is_at (R q)) es)
      by false h = refl
      by true h = ap (λ x. first x (Some new.1)) (lookup-none (is_at (R q)) news (none_past_head (eq_by_cmp_equiv o) q new news d h))

  -- entries that differ in their keys stand where they are put
  pub lookup_in_order : (q : K) (es : List (K × X)) → IsDistinct (eq_by_cmp R) (keys_of es) → lookup (is_at (R q)) (in_order R es) ≡ lookup (is_at (R q)) es
  lookup_in_order q es d = lookup_with q [] es d ∙ first_none (lookup (is_at (R q)) es)

  -- ---- entries that ascend are told by their look-ups

  at_head : (x : K × X) (xs : List (K × X)) → lookup (is_at (R x.0)) (x ∷ xs) ≡ Some x.1
  at_head x xs = lookup_head (is_at (R x.0)) x xs (ap is_eq (tied_itself o x.0))

  past_head : (q : K) (x : K × X) (xs : List (K × X)) → IsStrictlySortedBy R (keys_of (x ∷ xs)) → eq_by_cmp R q x.0 ≡ true → lookup (is_at (R q)) xs ≡ None
  past_head q x xs s t = lookup-none (is_at (R q)) xs (none_past_head (eq_by_cmp_equiv o) q x xs (IsDistinct-from_sorted R _ s) t)

  module _ (x y : K × X) (xs ys : List (K × X)) (s : IsStrictlySortedBy R (keys_of (x ∷ xs))) (t : IsStrictlySortedBy R (keys_of (y ∷ ys))) (h : (q : K) → lookup (is_at (R q)) (x ∷ xs) ≡ lookup (is_at (R q)) (y ∷ ys)) where
    by_heads : (r : Ordering) → R x.0 y.0 ≡ r → R x.0 y.0 ≡ Equal
    by_heads Less p = absurd (not_none x.1 (sym (at_head x xs) ∙ h x.0 ∙ lookup-none _ (y ∷ ys) (none_below_head o x.0 y ys t p)))
    by_heads Equal p = p
    by_heads Greater p = absurd (not_none y.1 (sym (at_head y ys) ∙ sym (h y.0) ∙ lookup-none _ (x ∷ xs) (none_below_head o y.0 x xs s (o.antisymm y.0 x.0 ∙ ap ordering_reverse p))))

    heads : R x.0 y.0 ≡ Equal
    heads = by_heads (R x.0 y.0) refl

    values : x.1 ≡ y.1
    values = ap (λ u. unwrap_or u x.1) (sym (at_head x xs) ∙ h x.0 ∙ lookup_head (is_at (R x.0)) y ys (ap is_eq heads))

    tails : (q : K) → lookup (is_at (R q)) xs ≡ lookup (is_at (R q)) ys
    tails q =
        let e = eq_by_cmp_equiv o in
        let same : eq_by_cmp R q y.0 ≡ eq_by_cmp R q x.0 = e.symm q y.0 ∙ sym (e.congr x.0 y.0 q (ap is_eq heads)) ∙ e.symm x.0 q in
        ⊎_elim
        (λ b. past_head q x xs s b ∙ sym (past_head q y ys t (same ∙ b)))
        (λ b. sym (lookup_tail (is_at (R q)) x xs b) ∙ h q ∙ lookup_tail (is_at (R q)) y ys (same ∙ b))
        (cases_Bool (eq_by_cmp R q x.0))

  pub same_entries : CmpEqualImpliesEq R → (es fs : List (K × X)) → IsStrictlySortedBy R (keys_of es) → IsStrictlySortedBy R (keys_of fs) → ((q : K) → lookup (is_at (R q)) es ≡ lookup (is_at (R q)) fs) → es ≡ fs
  same_entries exact [] [] s t h = refl
  same_entries exact [] (y ∷ ys) s t h = absurd (not_none y.1 (sym (h y.0 ∙ at_head y ys)))
  same_entries exact (x ∷ xs) [] s t h = absurd (not_none x.1 (sym (at_head x xs) ∙ h x.0))
  same_entries exact (x ∷ xs) (y ∷ ys) s t h =
      let r = same_entries exact xs ys (sorted_tail R x.0 (keys_of xs) s) (sorted_tail R y.0 (keys_of ys) t) (tails x y xs ys s t h) in
      λ i. (exact x.0 y.0 (heads x y xs ys s t h) i, values x y xs ys s t h i) ∷ r i

  -- entries that differ in their keys, in order, are those that ascend and have the same look-ups
  pub in_order_is : CmpEqualImpliesEq R → (told table : List (K × X)) → IsDistinct (eq_by_cmp R) (keys_of told) → ((q : K) → lookup (is_at (R q)) told ≡ lookup (is_at (R q)) table)
      → IsStrictlySortedBy R (keys_of table) → in_order R told ≡ table
  in_order_is exact told table d h s = same_entries exact (in_order R told) table (ascend_in_order told) s (λ q. lookup_in_order q told d ∙ h q)

  -- ---- entries that are found

  -- each of these is found among those
  abbrev pub AreFound : List (K × X) → List (K × X) → Type 0
  AreFound all es = AllByRecursion (λ e. lookup (is_at (R e.0)) all ≡ Some e.1) es

  found_behind : (x : K × X) (all es : List (K × X)) → AllByRecursion (λ y. eq_by_cmp R y x.0 ≡ false) (keys_of es) → AreFound all es → AreFound (x ∷ all) es
  found_behind x all [] a f = tt
  found_behind x all (e ∷ es) a f = (lookup_tail (is_at (R e.0)) x all a.0 ∙ f.0, found_behind x all es a.1 f.1)

  pub all_found : (es : List (K × X)) → IsDistinct (eq_by_cmp R) (keys_of es) → AreFound es es
  all_found [] d = tt
  all_found (e ∷ es) d =
      let behind = apart o e.0 (keys_of es) (IsDistinct-head (eq_by_cmp R) e.0 (keys_of es) d) in
      (at_head e es, found_behind e es es behind (all_found es (IsDistinct-tail (eq_by_cmp R) e.0 (keys_of es) d)))

  found_at : (q : K) (all es : List (K × X)) (v : X) → AreFound all es → lookup (is_at (R q)) es ≡ Some v → lookup (is_at (R q)) all ≡ Some v
  found_at q all [] v f h = absurd (not_none v (sym h))
  found_at q all (e ∷ es) v f h = ⊎_elim
      (λ same. alike same ∙ f.0 ∙ (sym (lookup_head (is_at (R q)) e es same) ∙ h))
      (λ other. found_at q all es v f.1 (sym (lookup_tail (is_at (R q)) e es other) ∙ h))
      (cases_Bool (is_at (R q) e.0))
    where
      alike : is_at (R q) e.0 ≡ true → lookup (is_at (R q)) all ≡ lookup (is_at (R e.0)) all
      alike same = λ i. lookup (λ y. (eq_by_cmp_equiv o).congr q e.0 y same i) all

  -- entries that are found among each other have the same look-ups
  pub found_alike : (q : K) (es fs : List (K × X)) → AreFound fs es → AreFound es fs → lookup (is_at (R q)) es ≡ lookup (is_at (R q)) fs
  found_alike q es fs there back = by (lookup (is_at (R q)) es) (lookup (is_at (R q)) fs) refl refl
    where
      by : (x y : Option X) → lookup (is_at (R q)) es ≡ x → lookup (is_at (R q)) fs ≡ y → x ≡ y
      by None None h k = refl
      by (Some x) y h k = sym (found_at q fs es x there h) ∙ k
      by None (Some y) h k = sym h ∙ found_at q es fs y back k
