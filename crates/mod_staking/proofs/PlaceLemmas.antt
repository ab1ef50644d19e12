-- Validators in the order of their places, as validators are put and taken.
use Rattle.std.proofs.Common.{◌≡◌, ◌∙◌, ℕ, Bool, true, false, cond, List, [], ◌∷◌, ◌++◌, Option, Some, None, refl, sym, ap, subst, ◌&&◌, map, option_map, Ordering, Less, Equal, Greater, filter, is_eq, is_lt}
use Rattle.std.specs.{declared.ops.Bound.TheVariants.{Excluded, Unbounded}, BTreeMap.{is_at, Range.entries_between}}
use Rattle.std.specs.{Cmp.{IsTotalOrder, tied_itself, eq_by_cmp_equiv}, List.Sorted.IsStrictlySortedBy}
use Rattle.std.{specs.Map.{keys_of, lookup, lookup_entry}, proofs.lemmas.Map.{lookup-none, Entries.none_past_head}}
use Rattle.std.proofs.lemmas.Map.Keys.{sorted_tail, IsDistinct-from_sorted}
use Rattle.base_types.{specs.Orders.addr_cmp, proofs.MapLemmas.{equal, ascend-put, ascend-taken, at-put, at-taken}}
use Rattle.base_table.{proofs.EntryLemmas.same_entries, specs.Tabled.{first_of, entry_above}}
use Rattle.base_roles.specs.{declared.entities.Validator.Validator, Entries.at, Orders.same_addr}
use Rattle.rule_modules.proofs.OrderLemmas.{addr_total, same_is, same_itself}
use Rattle.mod_staking.specs.Listed.{Validators}
use Rattle.mod_staking.specs.Places.{with_if, without_if, is_same_place, moved_place, place_in, in_order, operators_in_order}
use Rattle.mod_staking.{specs.Registered.AreKeyed, proofs.IndexLemmas.keyed_found}

-- ---- lists in the order of their keys

-- each entry with another value
abbrev pub valued : {K X Y : Type 0} → (X → Y) → List (K × X) → List (K × Y)
valued f es = map (λ e. (e.0, f e.1)) es

pub keys-valued : {K X Y : Type 0} (f : X → Y) (es : List (K × X)) → keys_of (valued f es) ≡ keys_of es
keys-valued f [] = refl
keys-valued f (e ∷ es) = ap (λ ks. e.0 ∷ ks) (keys-valued f es)

module _ {K : Type 0} (cmp : K → K → Ordering) where
  at-valued : {X Y : Type 0} (f : X → Y) (es : List (K × X)) (q : K) → at cmp (valued f es) q ≡ option_map f (at cmp es q)
  at-valued f [] q = refl
  at-valued f (e ∷ es) q = by (is_at (cmp q) e.0) (at-valued f es q)
    where
      by : (b : Bool) → at cmp (valued f es) q ≡ option_map f (at cmp es q) → cond b (Some (f e.1)) (at cmp (valued f es) q) ≡ option_map f (cond b (Some e.1) (at cmp es q))
      by true ih = refl
      by false ih = ih

  above-valued : {X Y : Type 0} (f : X → Y) (es : List (K × X)) (k : K) → entries_between cmp (Excluded k) Unbounded (valued f es) ≡ valued f (entries_between cmp (Excluded k) Unbounded es)
  above-valued f [] k = refl
  above-valued f (e ∷ es) k = by (is_lt (cmp k e.0) && true) (above-valued f es k)
    where
      by : (b : Bool) → entries_between cmp (Excluded k) Unbounded (valued f es) ≡ valued f (entries_between cmp (Excluded k) Unbounded es)
          → cond b ((e.0, f e.1) ∷ entries_between cmp (Excluded k) Unbounded (valued f es)) (entries_between cmp (Excluded k) Unbounded (valued f es)) ≡ valued f (cond b (e ∷ entries_between cmp (Excluded k) Unbounded es) (entries_between cmp (Excluded k) Unbounded es))
      by true ih = ap (λ l. (e.0, f e.1) ∷ l) ih
      by false ih = ih

  first-valued : {X Y : Type 0} (f : X → Y) (es : List (K × X)) → first_of (valued f es) ≡ option_map (λ e. (e.0, f e.1)) (first_of es)
  first-valued f [] = refl
  first-valued f (e ∷ es) = refl

  -- the entry of the least key above one, with another value
  pub next-valued : {X Y : Type 0} (f : X → Y) (es : List (K × X)) (after : Option K) → entry_above cmp (valued f es) after ≡ option_map (λ e. (e.0, f e.1)) (entry_above cmp es after)
  next-valued f es None = first-valued f es
  next-valued f es (Some k) = ap first_of (above-valued f es k) ∙ first-valued f (entries_between cmp (Excluded k) Unbounded es)

  module _ (o : IsTotalOrder cmp) where
    -- what is found behind the first entry is found
    pub found_behind : {X : Type 0} (x : K × X) (es : List (K × X)) (q : K) (v : X) → IsStrictlySortedBy cmp (keys_of (x ∷ es)) → at cmp es q ≡ Some v → at cmp (x ∷ es) q ≡ Some v
    found_behind x es q v s f = by (is_at (cmp q) x.0) refl
      where
        by : (b : Bool) → is_at (cmp q) x.0 ≡ b → cond b (Some x.1) (at cmp es q) ≡ Some v
        by true h =
            let none : at cmp es q ≡ None = lookup-none (is_at (cmp q)) es (none_past_head (eq_by_cmp_equiv o) q x es (IsDistinct-from_sorted cmp (keys_of (x ∷ es)) s) h) in
            absurd cc
        by false h = f

    found_head : {X : Type 0} (x : K × X) (es : List (K × X)) → at cmp (x ∷ es) x.0 ≡ Some x.1
    found_head x es = ap (λ r. cond (is_eq r) (Some x.1) (at cmp es x.0)) (tied_itself o x.0)

    first_found : {X : Type 0} (test : K × X → Bool) (es : List (K × X)) (e : K × X) → IsStrictlySortedBy cmp (keys_of es) → first_of (filter test es) ≡ Some e → at cmp es e.0 ≡ Some e.1
    first_found test [] e s f = absurd cc
    first_found test (x ∷ es) e s f = by (test x) f (λ g. first_found test es e (sorted_tail cmp x.0 (keys_of es) s) g)
      where
        by : (b : Bool) → first_of (cond b (x ∷ filter test es) (filter test es)) ≡ Some e → (first_of (filter test es) ≡ Some e → at cmp es e.0 ≡ Some e.1) → at cmp (x ∷ es) e.0 ≡ Some e.1
        by true g later = let one : x ≡ e = cc in subst (λ y. at cmp (x ∷ es) y.0 ≡ Some y.1) one (found_head x es)
        by false g later = found_behind x es e.0 e.1 s (later g)

    -- the entry of the least key above one stands under its key
    pub next_found : {X : Type 0} (es : List (K × X)) (after : Option K) (e : K × X) → IsStrictlySortedBy cmp (keys_of es) → entry_above cmp es after ≡ Some e → at cmp es e.0 ≡ Some e.1
    next_found [] None e s f = absurd cc
    next_found (x ∷ es) None e s f = let one : x ≡ e = cc in subst (λ y. at cmp (x ∷ es) y.0 ≡ Some y.1) one (found_head x es)
    next_found es (Some k) e s f = first_found _ es e s f

    module _ (exact : (p q : K) → cmp p q ≡ Equal → p ≡ q) where
      entry_is : {X : Type 0} (es : List (K × X)) (q : K) → lookup_entry (is_at (cmp q)) es ≡ option_map (λ v. (q, v)) (at cmp es q)
      entry_is [] q = refl
      entry_is (e ∷ es) q = by (is_at (cmp q) e.0) refl (entry_is es q)
        where
          by : (b : Bool) → is_at (cmp q) e.0 ≡ b → lookup_entry (is_at (cmp q)) es ≡ option_map (λ v. (q, v)) (at cmp es q)
              → cond b (Some e) (lookup_entry (is_at (cmp q)) es) ≡ option_map (λ v. (q, v)) (cond b (Some e.1) (at cmp es q))
          by true h ih = ap (λ k. Some (k, e.1)) (sym (exact q e.0 (equal _ h)))
          by false h ih = ih

      -- lists in order with the same values are one
      pub same_values : {X : Type 0} (es fs : List (K × X)) → IsStrictlySortedBy cmp (keys_of es) → IsStrictlySortedBy cmp (keys_of fs) → ((q : K) → at cmp es q ≡ at cmp fs q) → es ≡ fs
      same_values es fs s t h = same_entries o es fs s t (λ q. entry_is es q ∙ ap (option_map (λ v. (q, v))) (h q) ∙ sym (entry_is fs q))

  -- whether this key is that place
  abbrev pub holds : K → Option K → Bool
  holds q None = false
  holds q (Some p) = is_at (cmp q) p

  module _ (o : IsTotalOrder cmp) where
    ascend-with_if : {X : Type 0} (p : Option K) (x : X) (es : List (K × X)) → IsStrictlySortedBy cmp (keys_of es) → IsStrictlySortedBy cmp (keys_of (with_if cmp p x es))
    ascend-with_if None x es s = s
    ascend-with_if (Some p) x es s = ascend-put cmp o es p x s

    ascend-without_if : {X : Type 0} (p : Option K) (es : List (K × X)) → IsStrictlySortedBy cmp (keys_of es) → IsStrictlySortedBy cmp (keys_of (without_if cmp p es))
    ascend-without_if None es s = s
    ascend-without_if (Some p) es s = ascend-taken cmp (is_at (cmp p)) es s

    at-with_if : {X : Type 0} (p : Option K) (x : X) (es : List (K × X)) (q : K) → at cmp (with_if cmp p x es) q ≡ cond (holds q p) (Some x) (at cmp es q)
    at-with_if None x es q = refl
    at-with_if (Some p) x es q = at-put cmp o es p q x

    at-without_if : {X : Type 0} (p : Option K) (es : List (K × X)) (q : K) → IsStrictlySortedBy cmp (keys_of es) → at cmp (without_if cmp p es) q ≡ cond (holds q p) None (at cmp es q)
    at-without_if None es q s = refl
    at-without_if (Some p) es q s = at-taken cmp o es p q s

-- ---- validators in the order of their places

module _ {K : Type 0} (cmp : K → K → Ordering) (o : IsTotalOrder cmp) (exact : (p q : K) → cmp p q ≡ Equal → p ≡ q) (place_of : Validator → Option K)
    (apart : (v w : Validator) (p : K) → place_of v ≡ Some p → place_of w ≡ Some p → v.operator ≡ w.operator) where
  -- the places ascend
  pub in_order-ascend : (es : Validators) → IsStrictlySortedBy cmp (keys_of (in_order cmp place_of es))
  unfolding IsStrictlySortedBy
  in_order-ascend [] = tt
  in_order-ascend (e ∷ es) = ascend-with_if cmp o (place_of e.1) e.1 (in_order cmp place_of es) (in_order-ascend es)

  held : (q : K) (v : Validator) → place_of v ≡ Some q → holds cmp q (place_of v) ≡ true
  held q v e = ap (holds cmp q) e ∙ ap is_eq (tied_itself o q)

  held_is : (q : K) (p : Option K) → holds cmp q p ≡ true → p ≡ Some q
  held_is q None h = absurd cc
  held_is q (Some p) h = ap Some (sym (exact q p (equal _ h)))

  -- who is listed stands under its operator, and has this place
  pub listed_stands : (es : Validators) (q : K) (v : Validator) → IsStrictlySortedBy addr_cmp (keys_of es) → AreKeyed es → at cmp (in_order cmp place_of es) q ≡ Some v
      → (at addr_cmp es v.operator ≡ Some v) × (place_of v ≡ Some q)
  listed_stands [] q v s k f = absurd cc
  listed_stands (e ∷ es) q v s k f =
      by (holds cmp q (place_of e.1)) refl (sym (at-with_if cmp o (place_of e.1) e.1 (in_order cmp place_of es) q) ∙ f)
      (λ g. listed_stands es q v (sorted_tail addr_cmp e.0 (keys_of es) s) k.1 g)
    where
      by : (b : Bool) → holds cmp q (place_of e.1) ≡ b → cond b (Some e.1) (at cmp (in_order cmp place_of es) q) ≡ Some v
          → (at cmp (in_order cmp place_of es) q ≡ Some v → (at addr_cmp es v.operator ≡ Some v) × (place_of v ≡ Some q))
          → (at addr_cmp (e ∷ es) v.operator ≡ Some v) × (place_of v ≡ Some q)
      by true h g later =
          let one : e.1 ≡ v = cc in
          subst (λ x. (at addr_cmp (e ∷ es) x.operator ≡ Some x) × (place_of x ≡ Some q)) one
          (ap (at addr_cmp (e ∷ es)) k.0 ∙ found_head addr_cmp addr_total e es, held_is q (place_of e.1) h)
      by false h g later = let r = later g in (found_behind addr_cmp addr_total e es v.operator v s r.0, r.1)

  -- who stands under its operator and has a place is listed there
  pub stands_listed : (es : Validators) (q : K) (x : List ℕ) (v : Validator) → AreKeyed es → at addr_cmp es x ≡ Some v → place_of v ≡ Some q → at cmp (in_order cmp place_of es) q ≡ Some v
  stands_listed [] q x v k f p = absurd cc
  stands_listed (e ∷ es) q x v k f p =
      at-with_if cmp o (place_of e.1) e.1 (in_order cmp place_of es) q
      ∙ by (same_addr x e.0) refl f (holds cmp q (place_of e.1)) refl (λ g. stands_listed es q x v k.1 g p)
    where
      by : (b : Bool) → same_addr x e.0 ≡ b → cond b (Some e.1) (at addr_cmp es x) ≡ Some v → (c : Bool) → holds cmp q (place_of e.1) ≡ c
          → (at addr_cmp es x ≡ Some v → at cmp (in_order cmp place_of es) q ≡ Some v) → cond c (Some e.1) (at cmp (in_order cmp place_of es) q) ≡ Some v
      by true h g true d later = g
      by true h g false d later =
          let one : e.1 ≡ v = cc in
          let yes : true ≡ false = sym (held q v p) ∙ ap (λ y. holds cmp q (place_of y)) (sym one) ∙ d in
          absurd cc
      by false h g true d later =
          let own : v.operator ≡ x = keyed_found es x v k.1 g in
          let one : e.0 ≡ x = sym k.0 ∙ apart e.1 v q (held_is q (place_of e.1) d) p ∙ own in
          let yes : true ≡ false = sym (same_itself x) ∙ ap (same_addr x) (sym one) ∙ h in
          absurd cc
      by false h g false d later = later g

  -- ---- a change

  module _ (es es2 : Validators) (operator : List ℕ) (now : Option Validator) (s : IsStrictlySortedBy addr_cmp (keys_of es)) (s2 : IsStrictlySortedBy addr_cmp (keys_of es2))
      (k : AreKeyed es) (k2 : AreKeyed es2) (c : (x : List ℕ) → at addr_cmp es2 x ≡ cond (same_addr x operator) now (at addr_cmp es x)) where
    abbrev was : Option Validator
    was = at addr_cmp es operator

    abbrev old : K → Option Validator
    old q = at cmp (in_order cmp place_of es) q

    abbrev new : K → Option Validator
    new q = at cmp (in_order cmp place_of es2) q

    here : at addr_cmp es2 operator ≡ now
    here = c operator ∙ ap (λ b. cond b now was) (same_itself operator)

    elsewhere : (x : List ℕ) → same_addr x operator ≡ false → at addr_cmp es2 x ≡ at addr_cmp es x
    elsewhere x h = c x ∙ ap (λ b. cond b now (at addr_cmp es x)) h

    in_now : (q : K) (v : Validator) → now ≡ Some v → place_of v ≡ Some q → holds cmp q (place_in cmp place_of now) ≡ true
    in_now q v e p = ap (λ n. holds cmp q (place_in cmp place_of n)) e ∙ held q v p

    in_was : (q : K) (v : Validator) → was ≡ Some v → place_of v ≡ Some q → holds cmp q (place_in cmp place_of was) ≡ true
    in_was q v e p = ap (λ n. holds cmp q (place_in cmp place_of n)) e ∙ held q v p

    placed_is : (n : Option Validator) (q : K) → place_in cmp place_of n ≡ Some q → (v : Validator) × ((n ≡ Some v) × (place_of v ≡ Some q))
    placed_is None q e = absurd cc
    placed_is (Some v) q e = (v, (refl, e))

    -- where an operator is listed at its new place
    joined : (q : K) → holds cmp q (place_in cmp place_of now) ≡ true → option_map (λ v. v.operator) (new q) ≡ Some operator
    joined q h =
        let r = placed_is now q (held_is q (place_in cmp place_of now) h) in
        let at_operator : at addr_cmp es2 operator ≡ Some r.0 = here ∙ r.1.0 in
        ap (option_map (λ v. v.operator)) (stands_listed es2 q operator r.0 k2 at_operator r.1.1) ∙ ap Some (keyed_found es2 operator r.0 k2 at_operator)

    stood : (q : K) → holds cmp q (place_in cmp place_of was) ≡ true → option_map (λ v. v.operator) (old q) ≡ Some operator
    stood q h =
        let r = placed_is was q (held_is q (place_in cmp place_of was) h) in
        ap (option_map (λ v. v.operator)) (stands_listed es q operator r.0 k r.1.0 r.1.1) ∙ ap Some (keyed_found es operator r.0 k r.1.0)

    -- nobody is listed at a place that was left
    left : (q : K) → holds cmp q (place_in cmp place_of now) ≡ false → holds cmp q (place_in cmp place_of was) ≡ true → new q ≡ None
    left q h g = by (new q) refl
      where
        by : (n : Option Validator) → new q ≡ n → n ≡ None
        by None e = refl
        by (Some v) e =
            let r = listed_stands es2 q v s2 k2 e in
            let w = placed_is was q (held_is q (place_in cmp place_of was) g) in
            let own : v.operator ≡ operator = apart v w.0 q r.1 w.1.1 ∙ keyed_found es operator w.0 k w.1.0 in
            let is_now : now ≡ Some v = sym here ∙ ap (at addr_cmp es2) (sym own) ∙ r.0 in
            let yes : true ≡ false = sym (in_now q v is_now r.1) ∙ h in
            absurd cc

    -- who has neither place stays listed where it was
    stayed : (q : K) → holds cmp q (place_in cmp place_of now) ≡ false → holds cmp q (place_in cmp place_of was) ≡ false → new q ≡ old q
    stayed q h g = by (new q) refl (old q) refl
      where
        other_new : (v : Validator) → new q ≡ Some v → same_addr v.operator operator ≡ false
        other_new v e = on (same_addr v.operator operator) refl
          where
            on : (b : Bool) → same_addr v.operator operator ≡ b → b ≡ false
            on false d = refl
            on true d =
                let r = listed_stands es2 q v s2 k2 e in
                let is_now : now ≡ Some v = sym here ∙ ap (at addr_cmp es2) (sym (same_is v.operator operator d)) ∙ r.0 in
                let yes : true ≡ false = sym (in_now q v is_now r.1) ∙ h in
                absurd cc

        other_old : (v : Validator) → old q ≡ Some v → same_addr v.operator operator ≡ false
        other_old v e = on (same_addr v.operator operator) refl
          where
            on : (b : Bool) → same_addr v.operator operator ≡ b → b ≡ false
            on false d = refl
            on true d =
                let r = listed_stands es q v s k e in
                let is_was : was ≡ Some v = ap (at addr_cmp es) (sym (same_is v.operator operator d)) ∙ r.0 in
                let yes : true ≡ false = sym (in_was q v is_was r.1) ∙ g in
                absurd cc

        by : (n : Option Validator) → new q ≡ n → (m : Option Validator) → old q ≡ m → n ≡ m
        by (Some v) e m f =
            let r = listed_stands es2 q v s2 k2 e in
            sym (stands_listed es q v.operator v k (sym (elsewhere v.operator (other_new v e)) ∙ r.0) r.1) ∙ f
        by None e None f = refl
        by None e (Some v) f =
            let r = listed_stands es q v s k f in
            sym e ∙ stands_listed es2 q v.operator v k2 (elsewhere v.operator (other_old v f) ∙ r.0) r.1

    abbrev from : Option K
    from = place_in cmp place_of was

    abbrev to : Option K
    to = place_in cmp place_of now

    new_at : (q : K) (b c : Bool) → holds cmp q to ≡ b → holds cmp q from ≡ c → option_map (λ v. v.operator) (new q) ≡ cond b (Some operator) (cond c None (option_map (λ v. v.operator) (old q)))
    new_at q true c h g = joined q h
    new_at q false true h g = ap (option_map (λ v. v.operator)) (left q h g)
    new_at q false false h g = ap (option_map (λ v. v.operator)) (stayed q h g)

    abbrev before : List (K × List ℕ)
    before = operators_in_order cmp place_of es

    abbrev after : List (K × List ℕ)
    after = operators_in_order cmp place_of es2

    before-ascend : IsStrictlySortedBy cmp (keys_of before)
    before-ascend = subst (IsStrictlySortedBy cmp) (sym (keys-valued (λ v. v.operator) (in_order cmp place_of es))) (in_order-ascend es)

    after-ascend : IsStrictlySortedBy cmp (keys_of after)
    after-ascend = subst (IsStrictlySortedBy cmp) (sym (keys-valued (λ v. v.operator) (in_order cmp place_of es2))) (in_order-ascend es2)

    after-at : (q : K) → at cmp after q ≡ cond (holds cmp q to) (Some operator) (cond (holds cmp q from) None (at cmp before q))
    after-at q =
        at-valued cmp (λ v. v.operator) (in_order cmp place_of es2) q
        ∙ new_at q (holds cmp q to) (holds cmp q from) refl refl
        ∙ ap (λ x. cond (holds cmp q to) (Some operator) (cond (holds cmp q from) None x)) (sym (at-valued cmp (λ v. v.operator) (in_order cmp place_of es) q))

    moved-at : (q : K) → at cmp (with_if cmp to operator (without_if cmp from before)) q ≡ cond (holds cmp q to) (Some operator) (cond (holds cmp q from) None (at cmp before q))
    moved-at q = at-with_if cmp o to operator (without_if cmp from before) q ∙ ap (cond (holds cmp q to) (Some operator)) (at-without_if cmp o from before q before-ascend)

    moved : after ≡ with_if cmp to operator (without_if cmp from before)
    moved = same_values cmp o exact after (with_if cmp to operator (without_if cmp from before)) after-ascend
        (ascend-with_if cmp o to operator (without_if cmp from before) (ascend-without_if cmp o from before before-ascend))
        (λ q. after-at q ∙ sym (moved-at q))

    same_place_is : (p q : Option K) → is_same_place cmp p q ≡ true → p ≡ q
    same_place_is None None h = refl
    same_place_is None (Some q) h = absurd cc
    same_place_is (Some p) None h = absurd cc
    same_place_is (Some p) (Some q) h = ap Some (exact p q (equal _ h))

    kept : is_same_place cmp from to ≡ true → after ≡ before
    kept h = same_values cmp o exact after before after-ascend before-ascend (λ q.
        after-at q ∙ ap (λ p. cond (holds cmp q p) (Some operator) (cond (holds cmp q from) None (at cmp before q))) (sym (same_place_is from to h)) ∙ on q (holds cmp q from) refl)
      where
        on : (q : K) (b : Bool) → holds cmp q from ≡ b → cond b (Some operator) (cond b None (at cmp before q)) ≡ at cmp before q
        on q true d = sym (at-valued cmp (λ v. v.operator) (in_order cmp place_of es) q ∙ stood q d)
        on q false d = refl

    -- the operators are those before the change, with this one moved
    pub operators-moved : after ≡ moved_place cmp from to operator before
    operators-moved = by (is_same_place cmp from to) refl
      where
        by : (b : Bool) → is_same_place cmp from to ≡ b → after ≡ cond b before (with_if cmp to operator (without_if cmp from before))
        by true h = kept h
        by false h = moved

  -- ---- the first behind a place

  pub behind-some : (es : Validators) (past : Option K) (k : K) (operator : List ℕ) → IsStrictlySortedBy addr_cmp (keys_of es) → AreKeyed es → ◌≡◌ {A = Option (K × List ℕ)} (Some (k, operator)) (entry_above cmp (operators_in_order cmp place_of es) past)
      → at addr_cmp es operator ≡ option_map (λ e. e.1) (entry_above cmp (in_order cmp place_of es) past)
  behind-some es past k operator s a h =
      by (entry_above cmp (in_order cmp place_of es) past) refl (h ∙ next-valued cmp (λ v. v.operator) (in_order cmp place_of es) past)
    where
      by : (x : Option (K × Validator)) → entry_above cmp (in_order cmp place_of es) past ≡ x → ◌≡◌ {A = Option (K × List ℕ)} (Some (k, operator)) (option_map (λ e. (e.0, e.1.operator)) x) → at addr_cmp es operator ≡ option_map (λ e. e.1) x
      by None e g = absurd cc
      by (Some x) e g =
          let pair : ◌≡◌ {A = K × List ℕ} (k, operator) (x.0, x.1.operator) = cc in
          ap (λ t. at addr_cmp es t.1) pair ∙ (listed_stands es x.0 x.1 s a (next_found cmp o (in_order cmp place_of es) past x (in_order-ascend es) e)).0

  pub behind-none : (es : Validators) (past : Option K) → ◌≡◌ {A = Option (K × List ℕ)} None (entry_above cmp (operators_in_order cmp place_of es) past) → ◌≡◌ {A = Option Validator} None (option_map (λ e. e.1) (entry_above cmp (in_order cmp place_of es) past))
  behind-none es past h = by (entry_above cmp (in_order cmp place_of es) past) (h ∙ next-valued cmp (λ v. v.operator) (in_order cmp place_of es) past)
    where
      by : (x : Option (K × Validator)) → ◌≡◌ {A = Option (K × List ℕ)} None (option_map (λ e. (e.0, e.1.operator)) x) → ◌≡◌ {A = Option Validator} None (option_map (λ e. e.1) x)
      by None g = refl
      by (Some x) g = absurd cc
