-- Taking out the entries of an operator, one by one.
use Rattle.std.proofs.Common.{◌≡◌, ℕ, suc, ◌&&◌, not, Bool, true, false, cond, if◌then◌else◌, List, [], ◌∷◌, length, filter, Option, Some, is_some, unwrap_or, refl, Ordering, Less, Equal, Greater, is_eq, is_gt, is_le, sym, ◌∙◌, ap, subst}
use Rattle.std.specs.{declared.ops.Bound.TheVariants.{Included, Unbounded}, BTreeMap.{is_at, Range.range_contains}}
use Rattle.std.specs.{Cmp.{IsTotalOrder, tied_itself}, List.{AllByRecursion, Sorted.IsStrictlySortedBy}}
use Rattle.std.{specs.Map.{keys_of, remove_entry}, proofs.lemmas.Map.Keys.{sorted_head, sorted_tail}}
use Rattle.base_roles.specs.Orders.{same_addr}
use Rattle.base_table.specs.Tabled.{first_of, entry_from, value_at}
use Rattle.mod_periods.{specs.{Grouped.IsGrouped, Kept.others}, proofs.TallyLemmas.passing-removed}

differ : (b : Bool) → (b ≡ true → ⊥) → b ≡ false
differ true h = absurd (h refl)
differ false h = refl

true_false : true ≡ false → ⊥
true_false h = cc

in_range : (r : Ordering) → (is_le r && not false) ≡ true → is_gt r ≡ false
in_range Less h = refl
in_range Equal h = refl
in_range Greater h = cc

out_of_range : (r : Ordering) → (is_le r && not false) ≡ false → is_gt r ≡ true
out_of_range Less h = cc
out_of_range Equal h = cc
out_of_range Greater h = refl

module _ {K X : Type 0} (cmp : K → K → Ordering) (o : IsTotalOrder cmp) where
  -- the entry that a walk finds first stands in the table
  pub first-stands : (p : K × X → Bool) (es : List (K × X)) (e : K × X) → Some e ≡ first_of (filter p es) → is_some (value_at cmp es e.0) ≡ true
  first-stands p [] e h = cc
  first-stands p (x ∷ xs) e h = by (p x) h (λ t. first-stands p xs e t)
    where
      found : (b : Bool) (r : Option X) → (b ≡ false → is_some r ≡ true) → is_some (cond b (Some x.1) r) ≡ true
      found true r f = refl
      found false r f = f refl

      by : (b : Bool) → Some e ≡ first_of (cond b (x ∷ filter p xs) (filter p xs)) → (Some e ≡ first_of (filter p xs) → is_some (value_at cmp xs e.0) ≡ true) → is_some (value_at cmp (x ∷ xs) e.0) ≡ true
      by true t later =
          let same : e ≡ x = ap (λ r. unwrap_or r e) t in
          subst (λ d. is_some (value_at cmp (x ∷ xs) d.0) ≡ true) (sym same) (ap (λ r. is_some (cond (is_eq r) (Some x.1) (value_at cmp xs x.0))) (tied_itself o x.0))
      by false t later = found (is_at (cmp e.0) x.0) (value_at cmp xs e.0) (λ n. later t)

  -- an entry that stands is taken out
  pub removed-shorter : (es : List (K × X)) (k : K) → is_some (value_at cmp es k) ≡ true → suc (length (remove_entry (is_at (cmp k)) es)) ≡ length es
  removed-shorter [] k h = cc
  removed-shorter (x ∷ xs) k h = by (is_at (cmp k) x.0) h (λ t. removed-shorter xs k t)
    where
      by : (b : Bool) → is_some (cond b (Some x.1) (value_at cmp xs k)) ≡ true → (is_some (value_at cmp xs k) ≡ true → suc (length (remove_entry (is_at (cmp k)) xs)) ≡ length xs)
          → suc (length (cond b xs (x ∷ remove_entry (is_at (cmp k)) xs))) ≡ suc (length xs)
      by true t later = refl
      by false t later = ap suc (later t)

  module _ (operator_of : K → List ℕ) (first : List ℕ → K) (g : IsGrouped cmp operator_of first) (operator : List ℕ) where
    AreOthers : List (K × X) → Type 0
    AreOthers es = AllByRecursion (λ e. same_addr (operator_of e.0) operator ≡ false) es

    -- where all are others', all stay
    others-all : (es : List (K × X)) → AreOthers es → others operator_of operator es ≡ es
    unfolding AreOthers
    others-all [] h = refl
    others-all (x ∷ xs) h =
        ap (λ b. cond (if b then false else true) (x ∷ others operator_of operator xs) (others operator_of operator xs)) h.0 ∙ ap (λ l. x ∷ l) (others-all xs h.1)

    above_other : (x : K × X) (xs : List (K × X)) → is_gt (cmp (first operator) x.0) ≡ false → same_addr (operator_of x.0) operator ≡ false
        → AllByRecursion (λ y. cmp x.0 y ≡ Less) (keys_of xs) → AreOthers xs
    unfolding AreOthers
    above_other x [] low other h = tt
    above_other x (y ∷ ys) low other h =
        (differ (same_addr (operator_of y.0) operator) (λ own. true_false (sym (g.together operator x.0 y.0 low h.0 own) ∙ other)), above_other x ys low other h.1)

    -- a walk from the operator's first key that begins with another's entry, or with none, passes none of the operator's
    walk_others : (p : K × X → Bool) → ((e : K × X) → p e ≡ true → is_gt (cmp (first operator) e.0) ≡ false) → ((e : K × X) → p e ≡ false → is_gt (cmp (first operator) e.0) ≡ true)
        → (es : List (K × X)) → IsStrictlySortedBy cmp (keys_of es) → ((e : K × X) → first_of (filter p es) ≡ Some e → same_addr (operator_of e.0) operator ≡ false) → AreOthers es
    unfolding AreOthers
    walk_others p inside outside [] s h = tt
    walk_others p inside outside (x ∷ xs) s h = by (p x) refl h (λ t. walk_others p inside outside xs (sorted_tail cmp x.0 (keys_of xs) s) t)
      where
        by : (b : Bool) → p x ≡ b → ((e : K × X) → first_of (cond b (x ∷ filter p xs) (filter p xs)) ≡ Some e → same_addr (operator_of e.0) operator ≡ false)
            → (((e : K × X) → first_of (filter p xs) ≡ Some e → same_addr (operator_of e.0) operator ≡ false) → AllByRecursion (λ e. same_addr (operator_of e.0) operator ≡ false) xs)
            → (same_addr (operator_of x.0) operator ≡ false) × AllByRecursion (λ e. same_addr (operator_of e.0) operator ≡ false) xs
        by true t h later = (h x refl, above_other x xs (inside x t) (h x refl) (sorted_head cmp x.0 (keys_of xs) s))
        by false t h later =
            (differ (same_addr (operator_of x.0) operator) (λ own. true_false (sym (outside x t) ∙ g.least operator x.0 own)), later h)

    pub none-left : (es : List (K × X)) → IsStrictlySortedBy cmp (keys_of es) → ((e : K × X) → entry_from cmp es (first operator) ≡ Some e → same_addr (operator_of e.0) operator ≡ false)
        → others operator_of operator es ≡ es
    none-left es s h = others-all es (walk_others (λ e. range_contains cmp (Included (first operator)) Unbounded e.0)
        (λ e t. in_range (cmp (first operator) e.0) t) (λ e t. out_of_range (cmp (first operator) e.0) t) es s h)

    -- taking out one of the operator's leaves the others
    pub removed-others : (es : List (K × X)) (k : K) → same_addr (operator_of k) operator ≡ true → others operator_of operator (remove_entry (is_at (cmp k)) es) ≡ others operator_of operator es
    removed-others es k own = passing-removed cmp (λ k. if same_addr (operator_of k) operator then false else true)
        (λ k x tie. ap (λ a. if same_addr a operator then false else true) (sym (g.alike k x tie))) es k (ap (λ b. if b then false else true) own)
