-- Entries in groups, one for each operator: their keys ascend, and what is found under a key.
use Rattle.std.proofs.Common.{◌≡◌, ◌∙◌, ℕ, Bool, true, false, cond, List, [], ◌∷◌, ◌++◌, Option, Some, None, option_map, refl, sym, ap, subst, Ordering, Less, Equal, is_eq, flat_map}
use Rattle.std.specs.{Cmp.IsTotalOrder, BTreeMap.is_at, List.{AllByRecursion, Sorted.IsStrictlySortedBy}}
use Rattle.std.specs.Map.{keys_of, lookup_entry}
use Rattle.base_types.{specs.Orders.addr_cmp, proofs.MapLemmas.equal}
use Rattle.base_roles.specs.{Entries.at, Orders.same_addr}
use Rattle.rule_modules.proofs.OrderLemmas.{same_is}
use Rattle.base_table.proofs.EntryLemmas.{same_entries}

module _ {Q V : Type 0} (R : Q → Q → Ordering) where
  -- each key is above this one
  abbrev pub Below : Q → List (Q × V) → Type 0
  Below q es = AllByRecursion (λ y. R q y ≡ Less) (keys_of es)

  below_append : (q : Q) (xs ys : List (Q × V)) → Below q xs → Below q ys → Below q (xs ++ ys)
  below_append q [] ys h k = k
  below_append q (x ∷ xs) ys h k = (h.0, below_append q xs ys h.1 k)

  pub sorted_append : (xs ys : List (Q × V)) → IsStrictlySortedBy R (keys_of xs) → IsStrictlySortedBy R (keys_of ys) → AllByRecursion (λ x. Below x.0 ys) xs → IsStrictlySortedBy R (keys_of (xs ++ ys))
  unfolding IsStrictlySortedBy
  sorted_append [] ys s t b = t
  sorted_append (x ∷ xs) ys s t b = (below_append x.0 xs ys s.0 b.0, sorted_append xs ys s.1 t b.1)

  below_none : (q : Q) (xs : List (Q × V)) → Below q xs → at R xs q ≡ None
  below_none q [] h = refl
  below_none q (x ∷ xs) h = ap (λ r. cond (is_eq r) (Some x.1) (at R xs q)) h.0 ∙ below_none q xs h.1

  pub at_first : (q : Q) (xs ys : List (Q × V)) → at R ys q ≡ None → at R (xs ++ ys) q ≡ at R xs q
  at_first q [] ys h = h
  at_first q (x ∷ xs) ys h = ap (λ (o : Option V). cond (is_at (R q) x.0) (Some x.1) o) (at_first q xs ys h)

  pub at_second : (q : Q) (xs ys : List (Q × V)) → at R xs q ≡ None → at R (xs ++ ys) q ≡ at R ys q
  at_second q [] ys h = refl
  at_second q (x ∷ xs) ys h = by (is_at (R q) x.0) h (λ k. at_second q xs ys k)
    where
      by : (b : Bool) → cond b (Some x.1) (at R xs q) ≡ None → (at R xs q ≡ None → at R (xs ++ ys) q ≡ at R ys q) → cond b (Some x.1) (at R (xs ++ ys) q) ≡ at R ys q
      by true e k = absurd cc
      by false e k = k e

  pub at_found : (q : Q) (xs ys : List (Q × V)) (v : V) → at R xs q ≡ Some v → at R (xs ++ ys) q ≡ Some v
  at_found q [] ys v h = absurd cc
  at_found q (x ∷ xs) ys v h = by (is_at (R q) x.0) h (λ k. at_found q xs ys v k)
    where
      by : (b : Bool) → cond b (Some x.1) (at R xs q) ≡ Some v → (at R xs q ≡ Some v → at R (xs ++ ys) q ≡ Some v) → cond b (Some x.1) (at R (xs ++ ys) q) ≡ Some v
      by true e k = e
      by false e k = k e

  module _ (exact : (a b : Q) → R a b ≡ Equal → a ≡ b) where
    found_entry : (q : Q) (es : List (Q × V)) → lookup_entry (is_at (R q)) es ≡ option_map (λ v. (q, v)) (at R es q)
    found_entry q [] = refl
    found_entry q (e ∷ es) = by (is_at (R q) e.0) refl (found_entry q es)
      where
        by : (b : Bool) → is_at (R q) e.0 ≡ b → lookup_entry (is_at (R q)) es ≡ option_map (λ v. (q, v)) (at R es q) → cond b (Some e) (lookup_entry (is_at (R q)) es) ≡ option_map (λ v. (q, v)) (cond b (Some e.1) (at R es q))
        by true t k = ap (λ (x : Q). Some (x, e.1)) (sym (exact q e.0 (equal (R q e.0) t)))
        by false t k = k

    -- lists whose keys ascend, with the same under each key, are one list
    pub one_list : IsTotalOrder R → (es fs : List (Q × V)) → IsStrictlySortedBy R (keys_of es) → IsStrictlySortedBy R (keys_of fs) → ((q : Q) → at R es q ≡ at R fs q) → es ≡ fs
    one_list o es fs s t h = same_entries o es fs s t (λ q. found_entry q es ∙ ap (option_map (λ v. (q, v))) (h q) ∙ sym (found_entry q fs))

  -- ---- groups

  module _ {G : Type 0} (operator : Q → List ℕ) (inner : List ℕ × G → List (Q × V)) (find : G → Q → Option V)
      (lower : (x y : Q) → addr_cmp (operator x) (operator y) ≡ Less → R x y ≡ Less) (apart : (x y : Q) → same_addr (operator x) (operator y) ≡ false → is_at (R x) y ≡ false) where
    abbrev pub AreOwn : List ℕ → List (Q × V) → Type 0
    AreOwn o xs = AllByRecursion (λ x. operator x.0 ≡ o) xs

    -- a group is of its operator alone, its keys ascend, and what is found in it is found so
    pub record IsGroup (e : List ℕ × G) : Type 0 where
      pub own : AreOwn e.0 (inner e)
      pub ascend : IsStrictlySortedBy R (keys_of (inner e))
      pub found : (q : Q) → operator q ≡ e.0 → at R (inner e) q ≡ find e.1 q

    abbrev pub AreGroups : List (List ℕ × G) → Type 0
    AreGroups es = AllByRecursion IsGroup es

    below_own : (q : Q) (o : List ℕ) (xs : List (Q × V)) → addr_cmp (operator q) o ≡ Less → AreOwn o xs → Below q xs
    below_own q o [] l h = tt
    below_own q o (x ∷ xs) l h = (lower q x.0 (ap (addr_cmp (operator q)) h.0 ∙ l), below_own q o xs l h.1)

    below_groups : (q : Q) (es : List (List ℕ × G)) → AllByRecursion (λ y. addr_cmp (operator q) y ≡ Less) (keys_of es) → AreGroups es → Below q (flat_map inner es)
    below_groups q [] l h = tt
    below_groups q (e ∷ es) l h = below_append q (inner e) (flat_map inner es) (below_own q e.0 (inner e) l.0 h.0.own) (below_groups q es l.1 h.1)

    all_below : (o : List ℕ) (xs : List (Q × V)) (es : List (List ℕ × G)) → AreOwn o xs → AllByRecursion (λ y. addr_cmp o y ≡ Less) (keys_of es) → AreGroups es → AllByRecursion (λ x. Below x.0 (flat_map inner es)) xs
    all_below o [] es h l g = tt
    all_below o (x ∷ xs) es h l g = (below_groups x.0 es (subst (λ p. AllByRecursion (λ y. addr_cmp p y ≡ Less) (keys_of es)) (sym h.0) l) g, all_below o xs es h.1 l g)

    pub groups_ascend : (es : List (List ℕ × G)) → IsStrictlySortedBy addr_cmp (keys_of es) → AreGroups es → IsStrictlySortedBy R (keys_of (flat_map inner es))
    unfolding IsStrictlySortedBy
    groups_ascend [] s g = tt
    groups_ascend (e ∷ es) s g = sorted_append (inner e) (flat_map inner es) g.0.ascend (groups_ascend es s.1 g.1) (all_below e.0 (inner e) es g.0.own s.0 g.1)

    none_other : (q : Q) (o : List ℕ) (xs : List (Q × V)) → same_addr (operator q) o ≡ false → AreOwn o xs → at R xs q ≡ None
    none_other q o [] d h = refl
    none_other q o (x ∷ xs) d h = ap (λ b. cond b (Some x.1) (at R xs q)) (apart q x.0 (ap (same_addr (operator q)) h.0 ∙ d)) ∙ none_other q o xs d h.1

    -- what is found in the group of the key's operator
    abbrev pub within : Option G → Q → Option V
    within None q = None
    within (Some p) q = find p q

    pub groups_find : (q : Q) (es : List (List ℕ × G)) → IsStrictlySortedBy addr_cmp (keys_of es) → AreGroups es → at R (flat_map inner es) q ≡ within (at addr_cmp es (operator q)) q
    unfolding IsStrictlySortedBy
    groups_find q [] s g = refl
    groups_find q (e ∷ es) s g = by (same_addr (operator q) e.0) refl (groups_find q es s.1 g.1)
      where
        by : (b : Bool) → same_addr (operator q) e.0 ≡ b → at R (flat_map inner es) q ≡ within (at addr_cmp es (operator q)) q → at R (inner e ++ flat_map inner es) q ≡ within (cond b (Some e.1) (at addr_cmp es (operator q))) q
        by true t k =
            let same : operator q ≡ e.0 = same_is (operator q) e.0 t in
            at_first q (inner e) (flat_map inner es) (below_none q (flat_map inner es) (below_groups q es (subst (λ p. AllByRecursion (λ y. addr_cmp p y ≡ Less) (keys_of es)) (sym same) s.0) g.1)) ∙ g.0.found q same
        by false t k = at_second q (inner e) (flat_map inner es) (none_other q e.0 (inner e) t g.0.own) ∙ k
