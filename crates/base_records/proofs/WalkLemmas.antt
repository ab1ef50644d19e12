-- Walks over entries, each time to the least key above the last.
use Rattle.std.proofs.Common.{◌≡◌, ◌∙◌, ◌<◌, Bool, true, false, cond, List, [], ◌∷◌, ◌++◌, Option, Some, None, append_assoc, length, refl, sym, ap, arith, inl, inr, ◌&&◌, map, Ordering, Less, Equal, Greater, is_lt, filter}
use Rattle.std.specs.{declared.ops.Bound.TheVariants.{Excluded, Unbounded}, Ordering.ordering_reverse, Cmp.IsTotalOrder}
use Rattle.std.specs.{List.{AllByRecursion, cons_option, Sorted.IsStrictlySortedBy}, Map.keys_of}
use Rattle.std.specs.BTreeMap.Range.{entries_between}
use Rattle.base_table.specs.Tabled.{first_of, entry_above, value_at}
use Rattle.base_roles.specs.declared.items.Item.{Item}
use Rattle.base_records.{specs.Items.{change_of, changes_of}, proofs.MemberLemmas.{Member, all_member}}

some_is : {A : Type 0} (a b : A) → Some a ≡ Some b → a ≡ b
some_is a b e = cc

-- the entries that a walk has left behind this key; without one it has not begun
abbrev pub left_of : {K V : Type 0} → (K → K → Ordering) → List (K × V) → Option K → List (K × V)
left_of cmp es None = es
left_of cmp es (Some k) = entries_between cmp (Excluded k) Unbounded es

first_none : {A : Type 0} (xs : List A) → first_of xs ≡ None → xs ≡ []
first_none [] e = refl
first_none (x ∷ xs) e = absurd cc

module _ {K : Type 0} (cmp : K → K → Ordering) (o : IsTotalOrder cmp) where
  below_all : (k x : K) (ks : List K) → cmp k x ≡ Less → AllByRecursion (λ y. cmp x y ≡ Less) ks → AllByRecursion (λ y. cmp k y ≡ Less) ks
  below_all k x [] p h = tt
  below_all k x (y ∷ ks) p h = (o.trans k x y p h.0, below_all k x ks p h.1)

  not_itself : (x : K) (r : Ordering) → cmp x x ≡ r → is_lt r && true ≡ false
  not_itself x Less e = let back : Less ≡ Greater = sym e ∙ o.antisymm x x ∙ ap ordering_reverse e in absurd cc
  not_itself x Equal e = refl
  not_itself x Greater e = refl

module _ {K V : Type 0} (cmp : K → K → Ordering) where
  pub walk-end : (es : List (K × V)) (after : Option K) → entry_above cmp es after ≡ None → left_of cmp es after ≡ []
  walk-end es None e = first_none es e
  walk-end es (Some k) e = first_none (entries_between cmp (Excluded k) Unbounded es) e

  first_member : (p : K × V → Bool) (xs : List (K × V)) (e : K × V) → first_of (filter p xs) ≡ Some e → Member xs e
  first_member p [] e f = absurd cc
  first_member p (x ∷ xs) e f = by (p x) f (λ g. first_member p xs e g)
    where
      by : (b : Bool) → first_of (cond b (x ∷ filter p xs) (filter p xs)) ≡ Some e → (first_of (filter p xs) ≡ Some e → Member xs e) → Member (x ∷ xs) e
      by true g later = inl (some_is x e g)
      by false g later = inr (later g)

  module _ (o : IsTotalOrder cmp) where
    all_above : (k : K) (es : List (K × V)) → AllByRecursion (λ y. cmp k y ≡ Less) (keys_of es) → entries_between cmp (Excluded k) Unbounded es ≡ es
    all_above k [] h = refl
    all_above k (x ∷ es) h = ap (λ r. cond (is_lt r && true) (x ∷ entries_between cmp (Excluded k) Unbounded es) (entries_between cmp (Excluded k) Unbounded es)) h.0 ∙ ap (λ l. x ∷ l) (all_above k es h.1)

    -- behind the first entry all others are left
    past_first : (x : K × V) (es : List (K × V)) → IsStrictlySortedBy cmp (keys_of (x ∷ es)) → entries_between cmp (Excluded x.0) Unbounded (x ∷ es) ≡ es
    unfolding IsStrictlySortedBy
    past_first x es s =
        ap (λ b. cond b (x ∷ entries_between cmp (Excluded x.0) Unbounded es) (entries_between cmp (Excluded x.0) Unbounded es)) (not_itself cmp o x.0 (cmp x.0 x.0) refl)
        ∙ all_above x.0 es s.0

    walk_past : (k : K) (es : List (K × V)) (e : K × V) → IsStrictlySortedBy cmp (keys_of es) → first_of (entries_between cmp (Excluded k) Unbounded es) ≡ Some e
        → entries_between cmp (Excluded k) Unbounded es ≡ e ∷ entries_between cmp (Excluded e.0) Unbounded es
    unfolding IsStrictlySortedBy
    walk_past k [] e s f = absurd cc
    walk_past k (x ∷ es) e s f = by (cmp k x.0) refl f (λ g. walk_past k es e s.1 g)
      where
        above : AllByRecursion (λ y. cmp x.0 y ≡ Less) (keys_of es)
        above = s.0

        here : cmp k x.0 ≡ Less → x ≡ e → x ∷ entries_between cmp (Excluded k) Unbounded es ≡ e ∷ entries_between cmp (Excluded e.0) Unbounded (x ∷ es)
        here p q =
            ap (λ l. x ∷ l) (all_above k es (below_all cmp o k x.0 (keys_of es) p above) ∙ sym (past_first x es s))
            ∙ (λ i. q i ∷ entries_between cmp (Excluded (q i).0) Unbounded (x ∷ es))

        later : first_of (entries_between cmp (Excluded k) Unbounded es) ≡ Some e → entries_between cmp (Excluded k) Unbounded es ≡ e ∷ entries_between cmp (Excluded e.0) Unbounded es
            → entries_between cmp (Excluded k) Unbounded es ≡ e ∷ entries_between cmp (Excluded e.0) Unbounded (x ∷ es)
        later g rest =
            let behind : cmp x.0 e.0 ≡ Less = all_member (λ y. cmp x.0 y ≡ Less) es e.0 e.1 above (first_member _ es e g) in
            let before : cmp e.0 x.0 ≡ Greater = o.antisymm e.0 x.0 ∙ ap ordering_reverse behind in
            rest ∙ ap (λ r. e ∷ cond (is_lt r && true) (x ∷ entries_between cmp (Excluded e.0) Unbounded es) (entries_between cmp (Excluded e.0) Unbounded es)) (sym before)

        by : (r : Ordering) → cmp k x.0 ≡ r
            → first_of (cond (is_lt r && true) (x ∷ entries_between cmp (Excluded k) Unbounded es) (entries_between cmp (Excluded k) Unbounded es)) ≡ Some e
            → (first_of (entries_between cmp (Excluded k) Unbounded es) ≡ Some e → entries_between cmp (Excluded k) Unbounded es ≡ e ∷ entries_between cmp (Excluded e.0) Unbounded es)
            → cond (is_lt r && true) (x ∷ entries_between cmp (Excluded k) Unbounded es) (entries_between cmp (Excluded k) Unbounded es) ≡ e ∷ entries_between cmp (Excluded e.0) Unbounded (x ∷ es)
        by Less p g ih = here p (some_is x e g)
        by Equal p g ih = later g (ih g)
        by Greater p g ih = later g (ih g)

    pub walk-more : (es : List (K × V)) (after : Option K) (e : K × V) → IsStrictlySortedBy cmp (keys_of es) → entry_above cmp es after ≡ Some e → left_of cmp es after ≡ e ∷ left_of cmp es (Some e.0)
    walk-more [] None e s f = absurd cc
    walk-more (x ∷ es) None e s f =
        let same : x ≡ e = some_is x e f in
        ap (λ l. x ∷ l) (sym (past_first x es s)) ∙ (λ i. same i ∷ entries_between cmp (Excluded (same i).0) Unbounded (x ∷ es))
    walk-more es (Some k) e s f = walk_past k es e s f

-- ---- what a walk has made of entries

-- the list begins as it did, and goes on with the images of the entries behind which the walk is
pub record Walked {K V X : Type 0} (cmp : K → K → Ordering) (of : K × V → X) (start : List X) (es : List (K × V)) (out : List X) (after : Option K) : Type 0 where
  pub made : out ++ map of (left_of cmp es after) ≡ start ++ map of es
  pub some : (more : List X) × (out ≡ start ++ more)

append_nil : {X : Type 0} (xs : List X) → xs ++ [] ≡ xs
append_nil [] = refl
append_nil (x ∷ xs) = ap (λ l. x ∷ l) (append_nil xs)

module _ {K V X : Type 0} (cmp : K → K → Ordering) (of : K × V → X) (start : List X) (es : List (K × V)) where
  pub walked-all : (out : List X) (after : Option K) → Walked cmp of start es out after → entry_above cmp es after ≡ None → out ≡ start ++ map of es
  walked-all out after w f = sym (append_nil out) ∙ ap (λ l. out ++ map of l) (sym (walk-end cmp es after f)) ∙ w.made

  module _ (o : IsTotalOrder cmp) (s : IsStrictlySortedBy cmp (keys_of es)) where
    pub walked-more : (out next : List X) (after : Option K) (e : K × V) → Walked cmp of start es out after → entry_above cmp es after ≡ Some e → next ≡ out ++ of e ∷ [] → Walked cmp of start es next (Some e.0)
    walked-more out next after e w f n = record {
      made = ap (λ l. l ++ map of (left_of cmp es (Some e.0))) n ∙ append_assoc out (of e ∷ []) (map of (left_of cmp es (Some e.0)))
          ∙ ap (λ l. out ++ map of l) (sym (walk-more cmp o es after e s f)) ∙ w.made;
      some = (w.some.0 ++ of e ∷ [], n ∙ ap (λ l. l ++ of e ∷ []) w.some.1 ∙ append_assoc start w.some.0 (of e ∷ []));
    }

    pub walk-shorter : (after : Option K) (e : K × V) → entry_above cmp es after ≡ Some e → length (left_of cmp es (Some e.0)) < length (left_of cmp es after)
    walk-shorter after e f = let n = ap length (walk-more cmp o es after e s f) in omega (arith, n)

-- ---- what a walk over touched keys has told

-- the list begins as it did, and goes on with the changes of the keys that the walk has passed
pub record Told {K V : Type 0} (cmp : K → K → Ordering) (of : K → V → Item) (gone : K → Item) (same : V → V → Bool) (start : List (Item × Bool)) (touched : List (K × Option V)) (es : List (K × V)) (out : List (Item × Bool)) (left : List (K × Option V)) : Type 0 where
  pub made : out ++ changes_of cmp of gone same left es ≡ start ++ changes_of cmp of gone same touched es
  pub some : (more : List (Item × Bool)) × (out ≡ start ++ more)

module _ {K V : Type 0} (cmp : K → K → Ordering) (of : K → V → Item) (gone : K → Item) (same : V → V → Bool) (start : List (Item × Bool)) (touched : List (K × Option V)) (es : List (K × V)) where
  pub told-same : (out : List (Item × Bool)) (left rest : List (K × Option V)) (k : K) (was : Option V) → Told cmp of gone same start touched es out left → left ≡ (k, was) ∷ rest
      → change_of of gone same k was (value_at cmp es k) ≡ None → Told cmp of gone same start touched es out rest
  told-same out left rest k was t e c = record {
    made = ap (λ x. out ++ cons_option x (changes_of cmp of gone same rest es)) (sym c) ∙ ap (λ l. out ++ changes_of cmp of gone same l es) (sym e) ∙ t.made;
    some = t.some;
  }

  pub told-more : (out next : List (Item × Bool)) (left rest : List (K × Option V)) (k : K) (was : Option V) (p : Item × Bool) → Told cmp of gone same start touched es out left → left ≡ (k, was) ∷ rest
      → change_of of gone same k was (value_at cmp es k) ≡ Some p → next ≡ out ++ p ∷ [] → Told cmp of gone same start touched es next rest
  told-more out next left rest k was p t e c n = record {
    made = ap (λ l. l ++ changes_of cmp of gone same rest es) n ∙ append_assoc out (p ∷ []) (changes_of cmp of gone same rest es)
        ∙ ap (λ x. out ++ cons_option x (changes_of cmp of gone same rest es)) (sym c) ∙ ap (λ l. out ++ changes_of cmp of gone same l es) (sym e) ∙ t.made;
    some = (t.some.0 ++ p ∷ [], n ∙ ap (λ l. l ++ p ∷ []) t.some.1 ∙ append_assoc start t.some.0 (p ∷ []));
  }
