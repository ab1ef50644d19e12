-- Lists of validators of which each stands under an operator of its own: put in the order of the bonded set, or filtered, they
-- still do, and those that stand in records do.
use Rattle.std.proofs.Common.{◌≡◌, ◌∙◌, ℕ, Bool, true, false, cond, List, [], ◌∷◌, refl, ap, filter, if◌then◌else◌, Less, is_eq}
use Rattle.std.specs.{List.{AllByRecursion, Sorted.IsStrictlySortedBy}, Map.{keys_of, values_of}}
use Rattle.base_types.specs.Orders.{addr_cmp}
use Rattle.base_roles.specs.{declared.entities.Validator.Validator, Orders.same_addr}
use Rattle.rule_modules.specs.BondedSet.{HaveOwnOperators, stands_before, placed, by_power}
use Rattle.rule_modules.proofs.OrderLemmas.{same_back}

pub filtered_all : {X : Type 0} (test : X → Bool) (P : X → Type 0) (xs : List X) → AllByRecursion (λ x. test x ≡ true → P x) xs → AllByRecursion P (filter test xs)
filtered_all test P [] h = tt
filtered_all test P (x ∷ xs) h = by (test x) refl (filtered_all test P xs h.1)
  where
    by : (b : Bool) → test x ≡ b → AllByRecursion P (filter test xs) → AllByRecursion P (cond b (x ∷ filter test xs) (filter test xs))
    by true e rest = (h.0 e, rest)
    by false e rest = rest

placed_all : (reduction : ℕ) (Q : Validator → Type 0) (v : Validator) (us : List Validator) → Q v → AllByRecursion Q us → AllByRecursion Q (placed reduction v us)
placed_all reduction Q v [] q h = (q, tt)
placed_all reduction Q v (u ∷ us) q h = by (stands_before reduction u v) (placed_all reduction Q v us q h.1)
  where
    by : (b : Bool) → AllByRecursion Q (placed reduction v us) → AllByRecursion Q (if b then u ∷ placed reduction v us else v ∷ u ∷ us)
    by true rest = (h.0, rest)
    by false rest = (q, h)

placed_own : (reduction : ℕ) (v : Validator) (us : List Validator) → AllByRecursion (λ u. same_addr v.operator u.operator ≡ false) us → HaveOwnOperators us → HaveOwnOperators (placed reduction v us)
placed_own reduction v [] a h = (tt, tt)
placed_own reduction v (u ∷ us) a h = by (stands_before reduction u v) (placed_own reduction v us a.1 h.1)
  where
    by : (b : Bool) → HaveOwnOperators (placed reduction v us) → HaveOwnOperators (if b then u ∷ placed reduction v us else v ∷ u ∷ us)
    by true rest = (placed_all reduction (λ x. same_addr u.operator x.operator ≡ false) v us (same_back u.operator v.operator ∙ a.0) h.0, rest)
    by false rest = (a, h)

pub ordered_all : (reduction : ℕ) (Q : Validator → Type 0) (vs : List Validator) → AllByRecursion Q vs → AllByRecursion Q (by_power reduction vs)
ordered_all reduction Q [] h = tt
ordered_all reduction Q (v ∷ vs) h = placed_all reduction Q v (by_power reduction vs) h.0 (ordered_all reduction Q vs h.1)

pub ordered_own : (reduction : ℕ) (vs : List Validator) → HaveOwnOperators vs → HaveOwnOperators (by_power reduction vs)
ordered_own reduction [] h = tt
ordered_own reduction (v ∷ vs) h = placed_own reduction v (by_power reduction vs) (ordered_all reduction (λ u. same_addr v.operator u.operator ≡ false) vs h.0) (ordered_own reduction vs h.1)

untested : (test : Validator → Bool) (P : Validator → Type 0) (vs : List Validator) → AllByRecursion P vs → AllByRecursion (λ u. test u ≡ true → P u) vs
untested test P [] h = tt
untested test P (v ∷ vs) h = ((λ t. h.0), untested test P vs h.1)

pub filtered_own : (test : Validator → Bool) (vs : List Validator) → HaveOwnOperators vs → HaveOwnOperators (filter test vs)
filtered_own test [] h = tt
filtered_own test (v ∷ vs) h = by (test v) (filtered_own test vs h.1)
  where
    by : (b : Bool) → HaveOwnOperators (filter test vs) → HaveOwnOperators (cond b (v ∷ filter test vs) (filter test vs))
    by true rest = (filtered_all test (λ u. same_addr v.operator u.operator ≡ false) vs (untested test (λ u. same_addr v.operator u.operator ≡ false) vs h.0), rest)
    by false rest = rest

-- those of records, each under its own key
own_from : (k : List ℕ) (es : List (List ℕ × Validator)) (v : Validator) → v.operator ≡ k → AllByRecursion (λ y. addr_cmp k y ≡ Less) (keys_of es) → AllByRecursion (λ e. e.1.operator ≡ e.0) es
    → AllByRecursion (λ u. same_addr v.operator u.operator ≡ false) (values_of es)
own_from k [] v e b o = tt
own_from k (x ∷ es) v e b o = ((λ i. same_addr (e i) (o.0 i)) ∙ ap is_eq b.0, own_from k es v e b.1 o.1)

pub values_own : (es : List (List ℕ × Validator)) → IsStrictlySortedBy addr_cmp (keys_of es) → AllByRecursion (λ e. e.1.operator ≡ e.0) es → HaveOwnOperators (values_of es)
unfolding IsStrictlySortedBy
values_own [] s o = tt
values_own (e ∷ es) s o = (own_from e.0 es e.1 o.0 s.0 o.1, values_own es s.1 o.1)
