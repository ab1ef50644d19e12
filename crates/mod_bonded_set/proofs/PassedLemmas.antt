-- How far walks over the validators by power and over the bonded ones have come.
use Rattle.std.proofs.Common.{◌≡◌, ◌∙◌, ℕ, ◌+◌, ◌≤◌, Bool, true, false, cond, List, [], ◌∷◌, ◌++◌, Option, Some, None, length, append_assoc, refl, sym, ap, subst, arith, ◌&&◌, not, zero, suc, filter, take, drop, option_map, append-nil}
use Rattle.std.specs.{List.{AllByRecursion, Sorted.IsStrictlySortedBy}, Map.{keys_of, values_of}}
use Rattle.std.proofs.lemmas.{List.Elements.filter-append, Map.{Entries.length-values_of, Keys.sorted_tail}}
use Rattle.base_types.specs.Orders.{addr_cmp}
use Rattle.base_table.specs.Tabled.{entry_above}
use Rattle.base_roles.specs.{declared.entities.Validator.Validator, Entries.at, Staked.is_bonded}
use Rattle.base_records.proofs.WalkLemmas.{left_of, walk-end, walk-more}
use Rattle.rule_modules.specs.{Amounts.count_where, BondedSet.{is_able, is_in_bonded_set, joining_of, leaving_of}}
use Rattle.rule_modules.proofs.OrderLemmas.{addr_total, same_itself}
use Rattle.mod_staking.specs.{declared.places.Standing.Standing, Listed.Validators}
use Rattle.mod_staking.specs.{Places.{standing, standing_cmp, power_place, bonded_place, in_order}, Registered.AreKeyed}
use Rattle.mod_staking.specs.KnownSet.{place, is_within}
use Rattle.mod_staking.proofs.ListedLemmas.{standing_total, power_placed, bonded_placed, some_if}
use Rattle.mod_staking.proofs.PlaceLemmas.{in_order-ascend, listed_stands, next_found, found_behind}
use Rattle.mod_bonded_set.{specs.Sets.last_place, proofs.{LoopLemmas.length_count, SetLemmas.by_place}}
use Rattle.mod_bonded_set.proofs.OrderedLemmas.{all_apart, by_place-ascend, joining_is, within_is, bonded_is, leaving_is}

-- ---- lists cut in two

drop_more : {A : Type 0} (n : ℕ) (xs : List A) (x : A) (rest : List A) → drop n xs ≡ x ∷ rest → drop (suc n) xs ≡ rest
drop_more zero [] x rest e = absurd cc
drop_more zero (y ∷ ys) x rest e = let same : ys ≡ rest = cc in same
drop_more (suc n) [] x rest e = absurd cc
drop_more (suc n) (y ∷ ys) x rest e = drop_more n ys x rest e

take_more : {A : Type 0} (n : ℕ) (xs : List A) (x : A) (rest : List A) → drop n xs ≡ x ∷ rest → take (suc n) xs ≡ take n xs ++ x ∷ []
take_more zero [] x rest e = absurd cc
take_more zero (y ∷ ys) x rest e = let same : y ≡ x = cc in ap (λ z. z ∷ []) same
take_more (suc n) [] x rest e = absurd cc
take_more (suc n) (y ∷ ys) x rest e = ap (λ l. y ∷ l) (take_more n ys x rest e)

take_all : {A : Type 0} (n m : ℕ) (xs : List A) → drop n xs ≡ [] → n ≤ m → take n xs ≡ take m xs
take_all zero zero xs e l = refl
take_all zero (suc m) [] e l = refl
take_all zero (suc m) (x ∷ xs) e l = absurd cc
take_all (suc n) zero xs e l = absurd (omega (arith, l))
take_all (suc n) (suc m) [] e l = refl
take_all (suc n) (suc m) (x ∷ xs) e l = let less : n ≤ m = omega (arith, l) in ap (λ y. x ∷ y) (take_all n m xs e less)

drop_none : {A : Type 0} (n : ℕ) → ◌≡◌ {A = List A} (drop n []) []
drop_none zero = refl
drop_none (suc n) = refl

drop_all : {A : Type 0} (n m : ℕ) (xs : List A) → drop n xs ≡ [] → n ≤ m → drop m xs ≡ []
drop_all zero m [] e l = drop_none m
drop_all zero m (x ∷ xs) e l = absurd cc
drop_all (suc n) zero xs e l = absurd (omega (arith, l))
drop_all (suc n) (suc m) [] e l = refl
drop_all (suc n) (suc m) (x ∷ xs) e l = let less : n ≤ m = omega (arith, l) in drop_all n m xs e less

take_values : {K : Type 0} (n : ℕ) (xs : List (K × Validator)) → values_of (take n xs) ≡ take n (values_of xs)
take_values zero xs = refl
take_values (suc n) [] = refl
take_values (suc n) (x ∷ xs) = ap (λ l. x.1 ∷ l) (take_values n xs)

last_push : (xs : List (Standing × Validator)) (e : Standing × Validator) → last_place (xs ++ e ∷ []) ≡ Some e.0
last_push [] e = refl
last_push (x ∷ []) e = refl
last_push (x ∷ y ∷ xs) e = last_push (y ∷ xs) e

values_push : (xs : List (Standing × Validator)) (e : Standing × Validator) → values_of (xs ++ e ∷ []) ≡ values_of xs ++ e.1 ∷ []
values_push [] e = refl
values_push (x ∷ xs) e = ap (λ l. x.1 ∷ l) (values_push xs e)

-- ---- by power

abbrev is_new : Validator → Bool
is_new v = not (is_bonded v.status)

-- So many have been passed: those of them that are not bonded are listed, and the place of the last one is known.
pub record Passed (es : List (Standing × Validator)) (n : ℕ) (joining : List Validator) (last : Option Standing) : Type 0 where
  pub rest : left_of standing_cmp es last ≡ drop n es
  pub last_is : last ≡ last_place (take n es)
  pub listed : joining ≡ filter is_new (take n (values_of es))

module _ (es : List (Standing × Validator)) where
  pub passed-first : Passed es 0 [] None
  passed-first = record { rest = refl; last_is = refl; listed = refl }

  pub passed-more : (n : ℕ) (joining next : List Validator) (last : Option Standing) (e : Standing × Validator) → IsStrictlySortedBy standing_cmp (keys_of es) → Passed es n joining last → entry_above standing_cmp es last ≡ Some e
      → next ≡ joining ++ filter is_new (e.1 ∷ []) → Passed es (n + 1) next (Some e.0)
  passed-more n joining next last e s p f g =
      let here : drop n es ≡ e ∷ left_of standing_cmp es (Some e.0) = sym p.rest ∙ walk-more standing_cmp standing_total es last e s f in
      let more : take (suc n) es ≡ take n es ++ e ∷ [] = take_more n es e (left_of standing_cmp es (Some e.0)) here in
      let values : take (suc n) (values_of es) ≡ take n (values_of es) ++ e.1 ∷ []
      = sym (take_values (suc n) es) ∙ ap values_of more ∙ values_push (take n es) e ∙ ap (λ l. l ++ e.1 ∷ []) (take_values n es) in
      subst (λ m. Passed es m next (Some e.0)) (one n) (record {
        rest = sym (drop_more n es e (left_of standing_cmp es (Some e.0)) here);
        last_is = sym (ap last_place more ∙ last_push (take n es) e);
        listed = g ∙ ap (λ l. l ++ filter is_new (e.1 ∷ [])) p.listed ∙ sym (filter-append is_new (take n (values_of es)) (e.1 ∷ [])) ∙ sym (ap (filter is_new) values);
      })
    where
      one : (k : ℕ) → suc k ≡ k + 1
      one k = omega arith

  -- behind the last of all nothing more is passed
  pub passed-end : (n most : ℕ) (joining : List Validator) (last : Option Standing) → Passed es n joining last → n ≤ most → entry_above standing_cmp es last ≡ None → Passed es most joining last
  passed-end n most joining last p l f =
      let none : drop n es ≡ [] = sym p.rest ∙ walk-end standing_cmp es last f in
      let same : take n es ≡ take most es = take_all n most es none l in
      record {
        rest = p.rest ∙ none ∙ sym (drop_all n most es none l);
        last_is = p.last_is ∙ ap last_place same;
        listed = p.listed ∙ ap (filter is_new) (sym (take_values n es) ∙ ap values_of same ∙ take_values most es);
      }

-- ---- the bonded ones

-- what a walk has listed, and what of those left is still to be listed, is all that passes the test
pub record Left (t : Validator → Bool) (es : List (List ℕ × Validator)) (out : List Validator) (after : Option (List ℕ)) : Type 0 where
  pub made : out ++ filter t (values_of (left_of addr_cmp es after)) ≡ filter t (values_of es)

module _ (t : Validator → Bool) (es : List (List ℕ × Validator)) where
  pub left-more : (out next : List Validator) (after : Option (List ℕ)) (e : List ℕ × Validator) → IsStrictlySortedBy addr_cmp (keys_of es) → Left t es out after → entry_above addr_cmp es after ≡ Some e
      → next ≡ out ++ filter t (e.1 ∷ []) → Left t es next (Some e.0)
  left-more out next after e s h f g = record {
    made = ap (λ l. l ++ filter t (values_of (left_of addr_cmp es (Some e.0)))) g
        ∙ append_assoc out (filter t (e.1 ∷ [])) (filter t (values_of (left_of addr_cmp es (Some e.0))))
        ∙ ap (λ l. out ++ l) (sym (filter-append t (e.1 ∷ []) (values_of (left_of addr_cmp es (Some e.0)))))
        ∙ ap (λ l. out ++ filter t (values_of l)) (sym (walk-more addr_cmp addr_total es after e s f))
        ∙ h.made;
  }

  pub left-all : (out : List Validator) (after : Option (List ℕ)) → Left t es out after → entry_above addr_cmp es after ≡ None → out ≡ filter t (values_of es)
  left-all out after h f = sym (append-nil out) ∙ ap (λ l. out ++ filter t (values_of l)) (sym (walk-end addr_cmp es after f)) ∙ h.made

  pub left-shorter : (after : Option (List ℕ)) (e : List ℕ × Validator) → IsStrictlySortedBy addr_cmp (keys_of es) → entry_above addr_cmp es after ≡ Some e → length (left_of addr_cmp es after) ≡ 1 + length (left_of addr_cmp es (Some e.0))
  left-shorter after e s f = let n = ap length (walk-more addr_cmp addr_total es after e s f) in omega (arith, n)

-- ---- steps of the walks, as a call answers them

pub some_mapped : {K : Type 0} (v : Validator) (x : Option (K × Validator)) → Some v ≡ option_map (λ e. e.1) x → (e : K × Validator) × ((x ≡ Some e) × (v ≡ e.1))
some_mapped v None h = absurd cc
some_mapped v (Some e) h = let one : v ≡ e.1 = cc in (e, (refl, one))

pub none_mapped : {K : Type 0} (x : Option (K × Validator)) → ◌≡◌ {A = Option Validator} None (option_map (λ e. e.1) x) → x ≡ None
none_mapped None h = refl
none_mapped (Some e) h = absurd cc

module _ (r : ℕ) (es : Validators) (s : IsStrictlySortedBy addr_cmp (keys_of es)) (k : AreKeyed es) where
  abbrev ordered : List (Standing × Validator)
  ordered = by_place r es

  -- who is found by power stands, and is listed at its place
  by_power_stands : (past : Option Standing) (e : Standing × Validator) → entry_above standing_cmp ordered past ≡ Some e → (at addr_cmp es e.1.operator ≡ Some e.1) × (place r e.1 ≡ e.0)
  by_power_stands past e f =
      let r2 = listed_stands standing_cmp standing_total power_placed.exact (power_place r) (power_placed.apart r) es e.0 e.1 s k (next_found standing_cmp standing_total ordered past e (by_place-ascend r es) f) in
      (r2.0, some_if (is_able r e.1) (place r e.1) e.0 r2.1)

  pub passed-step : (n : ℕ) (joining next : List Validator) (last : Option (ℕ × List ℕ)) (v : Validator) (now : ℕ × List ℕ) → Passed ordered n joining (option_map standing last)
      → Some v ≡ option_map (λ e. e.1) (entry_above standing_cmp ordered (option_map standing last)) → next ≡ joining ++ filter is_new (v ∷ []) → standing now ≡ place r v → Passed ordered (n + 1) next (Some (standing now))
  passed-step n joining next last v now p f g h =
      let m = some_mapped v (entry_above standing_cmp ordered (option_map standing last)) f in
      let e = m.0 in
      let own = (by_power_stands (option_map standing last) e m.1.0).1 in
      let at_place : e.0 ≡ standing now = sym own ∙ ap (place r) (sym m.1.1) ∙ sym h in
      subst (λ q. Passed ordered (n + 1) next (Some q)) at_place
      (passed-more ordered n joining next (option_map standing last) e (by_place-ascend r es) p m.1.0 (g ∙ ap (λ x. joining ++ filter is_new (x ∷ [])) m.1.1))

  pub by_power_found : (last : Option (ℕ × List ℕ)) (v : Validator) → Some v ≡ option_map (λ e. e.1) (entry_above standing_cmp ordered (option_map standing last)) → at addr_cmp es v.operator ≡ Some v
  by_power_found last v f =
      let m = some_mapped v (entry_above standing_cmp ordered (option_map standing last)) f in
      subst (λ x. at addr_cmp es x.operator ≡ Some x) (sym m.1.1) (by_power_stands (option_map standing last) m.0 m.1.0).0

  pub passed-over : (n most : ℕ) (joining : List Validator) (last : Option (ℕ × List ℕ)) → Passed ordered n joining (option_map standing last) → n ≤ most
      → ◌≡◌ {A = Option Validator} None (option_map (λ e. e.1) (entry_above standing_cmp ordered (option_map standing last))) → Passed ordered most joining (option_map standing last)
  passed-over n most joining last p l f = passed-end ordered n most joining (option_map standing last) p l (none_mapped (entry_above standing_cmp ordered (option_map standing last)) f)

  -- what was passed in the end is who joins, and tells the set
  pub passed-joining : (most : ℕ) (joining : List Validator) (last : Option Standing) → Passed ordered most joining last → joining ≡ joining_of r most (values_of es)
  passed-joining most joining last p = p.listed ∙ sym (joining_is r most es (all_apart es s k))

  pub passed-set : (most : ℕ) (joining : List Validator) (last : Option Standing) → Passed ordered most joining last → (o : List ℕ) (v : Validator) → at addr_cmp es o ≡ Some v → is_within r last v ≡ is_in_bonded_set r most (values_of es) v
  passed-set most joining last p o v f = ap (λ q. is_within r q v) p.last_is ∙ within_is r most es o v (all_apart es s k) k f

  -- ---- the bonded ones

  abbrev bonded : List (List ℕ × Validator)
  bonded = in_order addr_cmp (bonded_place r) es

  bonded-ascend : IsStrictlySortedBy addr_cmp (keys_of bonded)
  bonded-ascend = in_order-ascend addr_cmp addr_total bonded_placed.exact (bonded_place r) (bonded_placed.apart r) es

  bonded_stands : (past : Option (List ℕ)) (e : List ℕ × Validator) → entry_above addr_cmp bonded past ≡ Some e → e.1.operator ≡ e.0
  bonded_stands past e f =
      some_if (is_bonded e.1.status) e.1.operator e.0 (listed_stands addr_cmp addr_total bonded_placed.exact (bonded_place r) (bonded_placed.apart r) es e.0 e.1 s k (next_found addr_cmp addr_total bonded past e bonded-ascend f)).1

  pub left-step : (t : Validator → Bool) (out next : List Validator) (past : Option (List ℕ)) (v : Validator) → Left t bonded out past → Some v ≡ option_map (λ e. e.1) (entry_above addr_cmp bonded past)
      → next ≡ out ++ filter t (v ∷ []) → Left t bonded next (Some v.operator)
  left-step t out next past v h f g =
      let m = some_mapped v (entry_above addr_cmp bonded past) f in
      subst (λ q. Left t bonded next (Some q)) (sym (ap (λ x. x.operator) m.1.1 ∙ bonded_stands past m.0 m.1.0))
      (left-more t bonded out next past m.0 bonded-ascend h m.1.0 (g ∙ ap (λ x. out ++ filter t (x ∷ [])) m.1.1))

  pub left-less : (past : Option (List ℕ)) (v : Validator) → Some v ≡ option_map (λ e. e.1) (entry_above addr_cmp bonded past) → length (left_of addr_cmp bonded past) ≡ 1 + length (left_of addr_cmp bonded (Some v.operator))
  left-less past v f =
      let m = some_mapped v (entry_above addr_cmp bonded past) f in
      subst (λ q. length (left_of addr_cmp bonded past) ≡ 1 + length (left_of addr_cmp bonded (Some q))) (sym (ap (λ x. x.operator) m.1.1 ∙ bonded_stands past m.0 m.1.0))
      (left-shorter (λ x. true) bonded past m.0 bonded-ascend m.1.0)

  filter_same : (t u : Validator → Bool) (vs : List Validator) → AllByRecursion (λ v. t v ≡ u v) vs → filter t vs ≡ filter u vs
  filter_same t u [] h = refl
  filter_same t u (v ∷ vs) h = ap (λ b. cond b (v ∷ filter t vs) (filter t vs)) h.0 ∙ ap (λ l. cond (u v) (v ∷ l) l) (filter_same t u vs h.1)

  pub filter_all : (t : Validator → Bool) (Q : Validator → Type 0) (vs : List Validator) → AllByRecursion Q vs → AllByRecursion Q (filter t vs)
  filter_all t Q [] h = tt
  filter_all t Q (v ∷ vs) h = by (t v) (filter_all t Q vs h.1)
    where
      by : (b : Bool) → AllByRecursion Q (filter t vs) → AllByRecursion Q (cond b (v ∷ filter t vs) (filter t vs))
      by true ih = (h.0, ih)
      by false ih = ih

  -- what is said of who stands holds of all
  pub standing_all : (Q : Validator → Type 0) → ((o : List ℕ) (v : Validator) → at addr_cmp es o ≡ Some v → Q v) → AllByRecursion Q (values_of es)
  standing_all Q f = on es s f
    where
      on : (xs : Validators) → IsStrictlySortedBy addr_cmp (keys_of xs) → ((o : List ℕ) (v : Validator) → at addr_cmp xs o ≡ Some v → Q v) → AllByRecursion Q (values_of xs)
      on [] q g = tt
      on (x ∷ xs) q g = (
        g x.0 x.1 (ap (λ b. cond b (Some x.1) (at addr_cmp xs x.0)) (same_itself x.0)),
        on xs (sorted_tail addr_cmp x.0 (keys_of xs) q) (λ o v h. g o v (found_behind addr_cmp addr_total x xs o v q h)),
      )

  pub left-leaving : (most : ℕ) (last : Option Standing) (out : List Validator) (past : Option (List ℕ)) → Left (λ v. not (is_within r last v)) bonded out past
      → ◌≡◌ {A = Option Validator} None (option_map (λ e. e.1) (entry_above addr_cmp bonded past))
      → ((o : List ℕ) (v : Validator) → at addr_cmp es o ≡ Some v → is_within r last v ≡ is_in_bonded_set r most (values_of es) v) → out ≡ leaving_of r most (values_of es)
  left-leaving most last out past h f tells =
      left-all (λ v. not (is_within r last v)) bonded out past h (none_mapped (entry_above addr_cmp bonded past) f)
      ∙ ap (filter (λ v. not (is_within r last v))) (bonded_is r es s k)
      ∙ filter_same (λ v. not (is_within r last v)) (λ v. not (is_in_bonded_set r most (values_of es) v)) (filter (λ v. is_bonded v.status) (values_of es))
      (filter_all (λ v. is_bonded v.status) (λ v. not (is_within r last v) ≡ not (is_in_bonded_set r most (values_of es) v)) (values_of es)
      (standing_all (λ v. not (is_within r last v) ≡ not (is_in_bonded_set r most (values_of es) v)) (λ o v g. ap not (tells o v g))))
      ∙ ap (filter (λ v. not (is_in_bonded_set r most (values_of es) v))) (sym (bonded_is r es s k))
      ∙ sym (leaving_is r most r es s k)

  -- as many are left at first as are bonded
  pub bonded_count : length bonded ≡ count_where (λ v. is_bonded v.status) (values_of es)
  bonded_count = sym (length-values_of bonded) ∙ ap length (bonded_is r es s k) ∙ length_count (λ v. is_bonded v.status) (values_of es)

  -- no more join than there may be
  few_taken : (t : Validator → Bool) (m : ℕ) (vs : List Validator) → length (filter t (take m vs)) ≤ m
  few_taken t zero vs = omega arith
  few_taken t (suc m) [] = omega arith
  few_taken t (suc m) (v ∷ vs) = by (t v) (few_taken t m vs)
    where
      by : (b : Bool) → length (filter t (take m vs)) ≤ m → length (cond b (v ∷ filter t (take m vs)) (filter t (take m vs))) ≤ suc m
      by true h = omega (arith, h)
      by false h = omega (arith, h)

  pub joining-few : (most : ℕ) → length (joining_of r most (values_of es)) ≤ most
  joining-few most = subst (λ l. length l ≤ most) (sym (joining_is r most es (all_apart es s k))) (few_taken is_new most (values_of ordered))

  -- no more leave than are bonded
  fewer : (a b : Validator → Bool) (vs : List Validator) → length (filter (λ v. a v && b v) vs) ≤ count_where a vs
  fewer a b [] = omega arith
  fewer a b (v ∷ vs) = by (a v) (b v) (fewer a b vs)
    where
      by : (x y : Bool) → length (filter (λ v. a v && b v) vs) ≤ count_where a vs → length (cond (x && y) (v ∷ filter (λ v. a v && b v) vs) (filter (λ v. a v && b v) vs)) ≤ cond x 1 0 + count_where a vs
      by true true h = omega (arith, h)
      by true false h = omega (arith, h)
      by false y h = omega (arith, h)

  pub leaving-few : (most : ℕ) → length (leaving_of r most (values_of es)) ≤ count_where (λ v. is_bonded v.status) (values_of es)
  leaving-few most = fewer (λ v. is_bonded v.status) (λ v. not (is_in_bonded_set r most (values_of es) v)) (values_of es)
