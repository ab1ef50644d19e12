-- Who joins and who leaves the bonded set, by the validators in the order of power and by the bonded ones.
use Rattle.std.proofs.Common.{◌≡◌, ◌∙◌, ℕ, ◌+◌, Bool, true, false, cond, List, [], ◌∷◌, Option, Some, None, refl, sym, ap, subst, arith, ◌&&◌, not, nat_lt, filter, take, Ordering, Less, Equal, Greater, is_eq}
use Rattle.std.specs.{BTreeMap.insert_entry, List.{AllByRecursion, Sorted.IsStrictlySortedBy}, Map.{keys_of, values_of}}
use Rattle.std.{specs.Ordering.match_ordering, proofs.lemmas.Map.Keys.{sorted_head, sorted_tail}}
use Rattle.base_types.{specs.Orders.addr_cmp, proofs.MapLemmas.all-put}
use Rattle.base_roles.specs.{declared.entities.Validator.Validator, Entries.at, Staked.is_bonded}
use Rattle.rule_modules.specs.BondedSet.{is_able, rank_of, is_in_bonded_set, joining_of, leaving_of}
use Rattle.rule_modules.proofs.OrderLemmas.{same_itself}
use Rattle.mod_staking.specs.{declared.places.Standing.Standing, Listed.Validators}
use Rattle.mod_staking.specs.{Places.{standing_cmp, power_place, bonded_place, in_order, with_if}, Registered.AreKeyed}
use Rattle.mod_staking.specs.KnownSet.{place, is_not_behind, is_within}
use Rattle.mod_staking.proofs.ListedLemmas.{standing_total, power_placed}
use Rattle.mod_staking.proofs.PlaceLemmas.{in_order-ascend, stands_listed}
use Rattle.mod_bonded_set.specs.Sets.{last_place}
use Rattle.mod_bonded_set.proofs.SetLemmas.{by_place, Apart, AllApart, by_place-placed, by_power-filter, rank_is, before_count, Counted, filter_is_take, not_behind_is}

-- ---- operators that ascend differ

apart_above : (o : List ℕ) (es : Validators) → AreKeyed es → AllByRecursion (λ y. addr_cmp o y ≡ Less) (keys_of es) → Apart o es
apart_above o [] k l = tt
apart_above o (e ∷ es) k l = (differ, apart_above o es k.1 l.1)
  where
    differ : e.1.operator ≡ o → ⊥
    differ h =
        let less : addr_cmp o o ≡ Less = ap (addr_cmp o) (sym h ∙ k.0) ∙ l.0 in
        let same : true ≡ false = sym (same_itself o) ∙ ap is_eq less in
        cc

pub all_apart : (es : Validators) → IsStrictlySortedBy addr_cmp (keys_of es) → AreKeyed es → AllApart es
all_apart [] s k = tt
all_apart (e ∷ es) s k = (apart_above e.1.operator es k.1 (subst (λ o. AllByRecursion (λ y. addr_cmp o y ≡ Less) (keys_of es)) (sym k.0) (sorted_head addr_cmp e.0 (keys_of es) s)), all_apart es (sorted_tail addr_cmp e.0 (keys_of es) s) k.1)

pub by_place-ascend : (r : ℕ) (es : Validators) → IsStrictlySortedBy standing_cmp (keys_of (by_place r es))
by_place-ascend r es = in_order-ascend standing_cmp standing_total power_placed.exact (power_place r) (power_placed.apart r) es

-- ---- who joins

-- what holds of all validators holds of those that are listed
listed_all : {K : Type 0} (cmp : K → K → Ordering) (place_of : Validator → Option K) (Q : Validator → Type 0) (es : Validators) → ((v : Validator) (p : K) → place_of v ≡ Some p → Q v) → AllByRecursion Q (values_of (in_order cmp place_of es))
listed_all {K} cmp place_of Q [] f = tt
listed_all {K} cmp place_of Q (e ∷ es) f = by (place_of e.1) refl (listed_all cmp place_of Q es f)
  where
    put : (p : K) (v : Validator) (xs : List (K × Validator)) → Q v → AllByRecursion Q (values_of xs) → AllByRecursion Q (values_of (insert_entry cmp xs p v))
    put p v [] q h = (q, tt)
    put p v (x ∷ xs) q h = on (cmp p x.0) (put p v xs q h.1)
      where
        on : (o : Ordering) → AllByRecursion Q (values_of (insert_entry cmp xs p v)) → AllByRecursion Q (values_of (match_ordering o ((p, v) ∷ x ∷ xs) ((x.0, v) ∷ xs) (x ∷ insert_entry cmp xs p v)))
        on Less ih = (q, h)
        on Equal ih = (q, h.1)
        on Greater ih = (h.0, ih)

    by : (p : Option K) → place_of e.1 ≡ p → AllByRecursion Q (values_of (in_order cmp place_of es)) → AllByRecursion Q (values_of (with_if cmp p e.1 (in_order cmp place_of es)))
    by None g ih = ih
    by (Some p) g ih = put p e.1 (in_order cmp place_of es) (f e.1 p g) ih

some_if : {A : Type 0} (b : Bool) (x p : A) → cond b (Some x) None ≡ Some p → b ≡ true
some_if true x p e = refl
some_if false x p e = absurd cc

able_all : (r : ℕ) (es : Validators) → AllByRecursion (λ v. is_able r v ≡ true) (values_of (by_place r es))
able_all r es = listed_all standing_cmp (power_place r) (λ v. is_able r v ≡ true) es (λ v p g. some_if (is_able r v) (place r v) p g)

filter_twice : (a b c : Validator → Bool) (vs : List Validator) → AllByRecursion (λ v. a v ≡ true) vs → filter (λ v. (a v && b v) && c v) vs ≡ filter c (filter b vs)
filter_twice a b c [] h = refl
filter_twice a b c (v ∷ vs) h = ap (λ d. cond ((d && b v) && c v) (v ∷ filter (λ v. (a v && b v) && c v) vs) (filter (λ v. (a v && b v) && c v) vs)) h.0 ∙ by (b v) (filter_twice a b c vs h.1)
  where
    by : (d : Bool) → filter (λ v. (a v && b v) && c v) vs ≡ filter c (filter b vs) → cond (d && c v) (v ∷ filter (λ v. (a v && b v) && c v) vs) (filter (λ v. (a v && b v) && c v) vs) ≡ filter c (cond d (v ∷ filter b vs) (filter b vs))
    by true ih = ap (λ l. cond (c v) (v ∷ l) l) ih
    by false ih = ih

pub first_of_two : (a b : Bool) → (a && b) ≡ true → a ≡ true
first_of_two true b e = refl
first_of_two false b e = absurd cc

counted : (r : ℕ) (es : Validators) (a : AllApart es) (xs : List (Standing × Validator)) → Counted r 0 (rank_of r (values_of es)) (by_place r es) xs
counted r es a [] = tt
counted r es a (x ∷ xs) = (rank_is r es a x.1 ∙ none (before_count r x.1 (by_place r es)), counted r es a xs)
  where
    none : (n : ℕ) → n ≡ 0 + n
    none n = omega arith

-- those that join are the first few by power that are not bonded yet
pub joining_is : (r most : ℕ) (es : Validators) → AllApart es → joining_of r most (values_of es) ≡ filter (λ v. not (is_bonded v.status)) (take most (values_of (by_place r es)))
joining_is r most es a =
    by_power-filter r (λ v. is_in_bonded_set r most vs v && not (is_bonded v.status)) (λ v e. first_of_two (is_able r v) _ (first_of_two (is_in_bonded_set r most vs v) _ e)) es a (by_place-ascend r)
    ∙ filter_twice (is_able r) (λ v. nat_lt (rank_of r vs v) most) (λ v. not (is_bonded v.status)) (values_of (by_place r es)) (able_all r es)
    ∙ ap (filter (λ v. not (is_bonded v.status))) (ap (λ m. filter (λ v. nat_lt (rank_of r vs v) m) (values_of (by_place r es))) (none most) ∙ filter_is_take r 0 most (rank_of r vs) (by_place r es) (by_place-ascend r es) (by_place-placed r es) (counted r es a (by_place r es)))
  where
    vs : List Validator
    vs = values_of es

    none : (n : ℕ) → n ≡ 0 + n
    none n = omega arith

-- ---- who is in the set

pub within_is : (r most : ℕ) (es : Validators) (o : List ℕ) (v : Validator) → AllApart es → AreKeyed es → at addr_cmp es o ≡ Some v
    → is_within r (last_place (take most (by_place r es))) v ≡ is_in_bonded_set r most (values_of es) v
within_is r most es o v a k f = by (is_able r v) refl
  where
    by : (b : Bool) → is_able r v ≡ b → (b && is_not_behind (last_place (take most (by_place r es))) (place r v)) ≡ (b && nat_lt (rank_of r (values_of es) v) most)
    by false e = refl
    by true e =
        not_behind_is r most (by_place r es) v (by_place-ascend r es) (by_place-placed r es)
        (stands_listed standing_cmp standing_total power_placed.exact (power_place r) (power_placed.apart r) es (place r v) o v k f (ap (λ b. cond b (Some (place r v)) None) e))
        ∙ ap (λ n. nat_lt n most) (sym (rank_is r es a v))

-- ---- who leaves

keys_all : (P : List ℕ → Type 0) (n : ℕ) (es : Validators) → AreKeyed es → AllByRecursion P (keys_of es) → AllByRecursion P (keys_of (in_order addr_cmp (bonded_place n) es))
keys_all P n [] k h = tt
keys_all P n (e ∷ es) k h = by (is_bonded e.1.status) (keys_all P n es k.1 h.1)
  where
    by : (b : Bool) → AllByRecursion P (keys_of (in_order addr_cmp (bonded_place n) es)) → AllByRecursion P (keys_of (with_if addr_cmp (cond b (Some e.1.operator) None) e.1 (in_order addr_cmp (bonded_place n) es)))
    by true ih = all-put addr_cmp P (in_order addr_cmp (bonded_place n) es) e.1.operator e.1 (subst P (sym k.0) h.0) ih
    by false ih = ih

put_first : (k : List ℕ) (v : Validator) (xs : List (List ℕ × Validator)) → AllByRecursion (λ y. addr_cmp k y ≡ Less) (keys_of xs) → insert_entry addr_cmp xs k v ≡ (k, v) ∷ xs
put_first k v [] h = refl
put_first k v (x ∷ xs) h = ap (λ o. match_ordering o ((k, v) ∷ x ∷ xs) ((x.0, v) ∷ xs) (x ∷ insert_entry addr_cmp xs k v)) h.0

-- the bonded ones by operator are those of all validators
pub bonded_is : (n : ℕ) (es : Validators) → IsStrictlySortedBy addr_cmp (keys_of es) → AreKeyed es → values_of (in_order addr_cmp (bonded_place n) es) ≡ filter (λ v. is_bonded v.status) (values_of es)
bonded_is n [] s k = refl
bonded_is n (e ∷ es) s k = by (is_bonded e.1.status) (bonded_is n es (sorted_tail addr_cmp e.0 (keys_of es) s) k.1)
  where
    below : AllByRecursion (λ y. addr_cmp e.1.operator y ≡ Less) (keys_of (in_order addr_cmp (bonded_place n) es))
    below = keys_all (λ y. addr_cmp e.1.operator y ≡ Less) n es k.1 (subst (λ o. AllByRecursion (λ y. addr_cmp o y ≡ Less) (keys_of es)) (sym k.0) (sorted_head addr_cmp e.0 (keys_of es) s))

    by : (b : Bool) → values_of (in_order addr_cmp (bonded_place n) es) ≡ filter (λ v. is_bonded v.status) (values_of es)
        → values_of (with_if addr_cmp (cond b (Some e.1.operator) None) e.1 (in_order addr_cmp (bonded_place n) es)) ≡ cond b (e.1 ∷ filter (λ v. is_bonded v.status) (values_of es)) (filter (λ v. is_bonded v.status) (values_of es))
    by true ih = ap values_of (put_first e.1.operator e.1 (in_order addr_cmp (bonded_place n) es) below) ∙ ap (λ l. e.1 ∷ l) ih
    by false ih = ih

filter_both : (a b : Validator → Bool) (vs : List Validator) → filter (λ v. a v && b v) vs ≡ filter b (filter a vs)
filter_both a b [] = refl
filter_both a b (v ∷ vs) = by (a v) (filter_both a b vs)
  where
    by : (d : Bool) → filter (λ v. a v && b v) vs ≡ filter b (filter a vs) → cond (d && b v) (v ∷ filter (λ v. a v && b v) vs) (filter (λ v. a v && b v) vs) ≡ filter b (cond d (v ∷ filter a vs) (filter a vs))
    by true ih = ap (λ l. cond (b v) (v ∷ l) l) ih
    by false ih = ih

-- those that leave are the bonded ones that are not in the set
pub leaving_is : (r most n : ℕ) (es : Validators) → IsStrictlySortedBy addr_cmp (keys_of es) → AreKeyed es
    → leaving_of r most (values_of es) ≡ filter (λ v. not (is_in_bonded_set r most (values_of es) v)) (values_of (in_order addr_cmp (bonded_place n) es))
leaving_is r most n es s k =
    filter_both (λ v. is_bonded v.status) (λ v. not (is_in_bonded_set r most (values_of es) v)) (values_of es)
    ∙ ap (filter (λ v. not (is_in_bonded_set r most (values_of es) v))) (sym (bonded_is n es s k))
