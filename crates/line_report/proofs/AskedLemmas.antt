-- What is asked for is the part of all that belongs to an address.
use Rattle.std.proofs.Common.{◌≡◌, ◌∙◌, sym, List, [], ◌∷◌, filter, Bool, true, false, cond, Option, Some, None, refl, ap, subst, Ordering, Less, Equal, Greater, filter_map}
use Rattle.std.specs.{BTreeMap.{insert_entry, is_at}, Cmp.IsTotalOrder, List.{AllByRecursion, cons_option}}
use Rattle.std.specs.{List.Sorted.IsStrictlySortedBy, Map.{keys_of, lookup}, Ordering.match_ordering}
use Rattle.std.proofs.lemmas.{List.Kept.IsStrictlySortedBy-filter, Map.Entries.lookup-filter-keys}
use Rattle.std.proofs.lemmas.Map.Lookups.{CmpEqualImpliesEq}
use Rattle.rule_machine.specs.Orders.{entries_with, in_order}
use Rattle.line_report.{specs.Telling.told_if, proofs.EntryLemmas.{ascend_in_order, same_entries}}
use Rattle.base_types.proofs.MapLemmas.{at-put, equal}

-- what is told, where its key is asked for
abbrev pub asked : {K X : Type 0} → (K → Bool) → Option (K × X) → Option (K × X)
asked P None = None
asked P (Some e) = told_if (P e.0) e

same_key : {K : Type 0} {R : K → K → Ordering} → CmpEqualImpliesEq R → (P : K → Bool) (q k : K) → is_at (R q) k ≡ true → P k ≡ P q
same_key {R = R} exact P q k h = ap P (sym (exact q k (equal (R q k) h)))

kept_keys : {K X : Type 0} (P : K → Bool) (es : List (K × X)) → keys_of (filter (λ e. P e.0) es) ≡ filter P (keys_of es)
kept_keys P [] = refl
kept_keys P (e ∷ es) = by (P e.0) (kept_keys P es)
  where
    by : (b : Bool) → keys_of (filter (λ e. P e.0) es) ≡ filter P (keys_of es) → keys_of (cond b (e ∷ filter (λ e. P e.0) es) (filter (λ e. P e.0) es)) ≡ cond b (e.0 ∷ filter P (keys_of es)) (filter P (keys_of es))
    by true later = ap (λ ks. e.0 ∷ ks) later
    by false later = later

module _ {K X : Type 0} {R : K → K → Ordering} (o : IsTotalOrder R) (exact : CmpEqualImpliesEq R) (P : K → Bool) where
  put_both : (q k : K) (v : X) (es some : List (K × X)) → P k ≡ true → lookup (is_at (R q)) some ≡ cond (P q) (lookup (is_at (R q)) es) None
      → lookup (is_at (R q)) (insert_entry R some k v) ≡ cond (P q) (lookup (is_at (R q)) (insert_entry R es k v)) None
  put_both q k v es some y h =
      at-put R o some k q v ∙ (by (is_at (R q) k) refl ∙ sym (ap (λ x. cond (P q) x None) (at-put R o es k q v)))
    where
      by : (b : Bool) → is_at (R q) k ≡ b → cond b (Some v) (lookup (is_at (R q)) some) ≡ cond (P q) (cond b (Some v) (lookup (is_at (R q)) es)) None
      by true e = ap (λ p. cond p (Some v) None) (sym (sym (same_key exact P q k e) ∙ y))
      by false e = h

  put_one : (q k : K) (v : X) (es some : List (K × X)) → P k ≡ false → lookup (is_at (R q)) some ≡ cond (P q) (lookup (is_at (R q)) es) None
      → lookup (is_at (R q)) some ≡ cond (P q) (lookup (is_at (R q)) (insert_entry R es k v)) None
  put_one q k v es some n h = by (is_at (R q) k) refl ∙ sym (ap (λ x. cond (P q) x None) (at-put R o es k q v))
    where
      by : (b : Bool) → is_at (R q) k ≡ b → lookup (is_at (R q)) some ≡ cond (P q) (cond b (Some v) (lookup (is_at (R q)) es)) None
      by true e =
          let unasked : P q ≡ false = sym (same_key exact P q k e) ∙ n in
          h ∙ (ap (λ p. cond p (lookup (is_at (R q)) es) None) unasked ∙ sym (ap (λ p. cond p (Some v) None) unasked))
      by false e = h

  module _ {T : Type 0} (all some : T → Option (K × X)) (tells : (x : T) → some x ≡ asked P (all x)) where
    -- what follows for an entry, from what does whatever stands before
    told_entry : (q : K) (es fs : List (K × X)) (xs : List T) (e : K × X) (b : Bool) → P e.0 ≡ b → lookup (is_at (R q)) fs ≡ cond (P q) (lookup (is_at (R q)) es) None
        → ((es fs : List (K × X)) → lookup (is_at (R q)) fs ≡ cond (P q) (lookup (is_at (R q)) es) None
        → lookup (is_at (R q)) (entries_with R fs (filter_map some xs)) ≡ cond (P q) (lookup (is_at (R q)) (entries_with R es (filter_map all xs))) None)
        → lookup (is_at (R q)) (entries_with R fs (cons_option (told_if b e) (filter_map some xs))) ≡ cond (P q) (lookup (is_at (R q)) (entries_with R es (e ∷ filter_map all xs))) None
    told_entry q es fs xs e true y h later = later (insert_entry R es e.0 e.1) (insert_entry R fs e.0 e.1) (put_both q e.0 e.1 es fs y h)
    told_entry q es fs xs e false n h later = later (insert_entry R es e.0 e.1) fs (put_one q e.0 e.1 es fs n h)

    asked_with : (q : K) (es fs : List (K × X)) (xs : List T) → lookup (is_at (R q)) fs ≡ cond (P q) (lookup (is_at (R q)) es) None
        → lookup (is_at (R q)) (entries_with R fs (filter_map some xs)) ≡ cond (P q) (lookup (is_at (R q)) (entries_with R es (filter_map all xs))) None
    asked_with q es fs [] h = h
    asked_with q es fs (x ∷ xs) h = ap (λ t. lookup (is_at (R q)) (entries_with R fs (cons_option t (filter_map some xs)))) (tells x) ∙ by (all x) (λ es fs g. asked_with q es fs xs g)
      where
        by : (t : Option (K × X)) → ((es fs : List (K × X)) → lookup (is_at (R q)) fs ≡ cond (P q) (lookup (is_at (R q)) es) None
            → lookup (is_at (R q)) (entries_with R fs (filter_map some xs)) ≡ cond (P q) (lookup (is_at (R q)) (entries_with R es (filter_map all xs))) None)
            → lookup (is_at (R q)) (entries_with R fs (cons_option (asked P t) (filter_map some xs))) ≡ cond (P q) (lookup (is_at (R q)) (entries_with R es (cons_option t (filter_map all xs)))) None
        by None later = later es fs h
        by (Some e) later = told_entry q es fs xs e (P e.0) refl h later

    none_asked : (b : Bool) (x : Option X) → x ≡ cond b x x
    none_asked true x = refl
    none_asked false x = refl

    -- what is asked for, in order, is what of all in order is asked for
    pub asked_in_order : (xs : List T) → in_order R (filter_map some xs) ≡ filter (λ e. P e.0) (in_order R (filter_map all xs))
    asked_in_order xs =
        let es = in_order R (filter_map all xs) in
        let ascend : IsStrictlySortedBy R (keys_of (filter (λ e. P e.0) es)) = subst (IsStrictlySortedBy R) (sym (kept_keys P es)) (IsStrictlySortedBy-filter R P (keys_of es) (ascend_in_order o (filter_map all xs))) in
        same_entries o exact (in_order R (filter_map some xs)) (filter (λ e. P e.0) es) (ascend_in_order o (filter_map some xs)) ascend
        (λ q. asked_with q [] [] xs (none_asked (P q) None) ∙ sym (lookup-filter-keys (is_at (R q)) P (P q) (same_key exact P q) es))

-- ---- what holds of each entry

module _ {K X : Type 0} {R : K → K → Ordering} (exact : CmpEqualImpliesEq R) (Q : K × X → Type 0) where
  holds_put : (k : K) (v : X) (es : List (K × X)) → Q (k, v) → AllByRecursion Q es → AllByRecursion Q (insert_entry R es k v)
  holds_put k v [] q h = (q, tt)
  holds_put k v (e ∷ es) q h = by (R k e.0) refl (holds_put k v es q h.1)
    where
      by : (r : Ordering) → R k e.0 ≡ r → AllByRecursion Q (insert_entry R es k v) → AllByRecursion Q (match_ordering r ((k, v) ∷ e ∷ es) ((e.0, v) ∷ es) (e ∷ insert_entry R es k v))
      by Less is later = (q, h)
      by Equal is later = (subst (λ key. Q (key, v)) (exact k e.0 is) q, h.1)
      by Greater is later = (h.0, later)

  holds_with : (es news : List (K × X)) → AllByRecursion Q es → AllByRecursion Q news → AllByRecursion Q (entries_with R es news)
  holds_with es [] h n = h
  holds_with es (new ∷ news) h n = holds_with (insert_entry R es new.0 new.1) news (holds_put new.0 new.1 es n.0 h) n.1

  pub holds_in_order : (es : List (K × X)) → AllByRecursion Q es → AllByRecursion Q (in_order R es)
  holds_in_order es h = holds_with [] es tt h

  pub holds_of_told : {T : Type 0} (tell : T → Option (K × X)) → ((x : T) (e : K × X) → tell x ≡ Some e → Q e) → (xs : List T) → AllByRecursion Q (filter_map tell xs)
  holds_of_told tell h [] = tt
  holds_of_told tell h (x ∷ xs) = by (tell x) refl (holds_of_told tell h xs)
    where
      by : (t : Option (K × X)) → tell x ≡ t → AllByRecursion Q (filter_map tell xs) → AllByRecursion Q (cons_option t (filter_map tell xs))
      by None is later = later
      by (Some e) is later = (h x e is, later)
