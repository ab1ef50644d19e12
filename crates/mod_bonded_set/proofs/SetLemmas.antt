-- The bonded set as the beginning of the validators in the order of power.
use Rattle.std.proofs.Common.{◌≡◌, ◌∙◌, ℕ, ◌+◌, Bool, true, false, cond, List, [], ◌∷◌, Option, Some, None, refl, sym, ap, subst, arith, ◌==◌, ◌&&◌, ◌||◌, not, nat_lt, zero, suc, if◌then◌else◌, filter, take, Ordering, Less, Equal, Greater, is_eq, is_lt, nat_cmp}
use Rattle.std.specs.{BTreeMap.insert_entry, List.{AllByRecursion, Sorted.IsStrictlySortedBy}, Map.{keys_of, values_of}}
use Rattle.std.{specs.Ordering.{ordering_then, ordering_reverse, match_ordering}, proofs.lemmas.Bool.Decides.nat_tests}
use Rattle.std.proofs.lemmas.Map.Keys.{sorted_head, sorted_tail}
use Rattle.base_types.specs.Orders.{addr_cmp}
use Rattle.base_roles.specs.{declared.entities.Validator.Validator, Entries.at}
use Rattle.rule_modules.specs.Amounts.{count_where}
use Rattle.rule_modules.specs.BondedSet.{power_of, is_able, stands_before, rank_of, placed, by_power}
use Rattle.mod_staking.specs.{declared.places.Standing.Standing, Listed.Validators}
use Rattle.mod_staking.specs.{Places.{standing_cmp, power_place, in_order, with_if}, KnownSet.{place, is_not_behind}}
use Rattle.mod_staking.proofs.ListedLemmas.{standing_total, standing_exact}
use Rattle.mod_bonded_set.specs.Sets.{last_place}

-- ---- numbers and tests

-- the test of two places is that of the order
either_order : (p q : ℕ) (r : Ordering) → (nat_lt p q || ((q == p) && is_lt r)) ≡ is_lt (ordering_then (nat_cmp p q) r)
either_order p q r = by (nat_lt p q) (p == q) (q == p) refl refl refl
  where
    by : (a b c : Bool) → nat_lt p q ≡ a → (p == q) ≡ b → (q == p) ≡ c → (a || (c && is_lt r)) ≡ is_lt (ordering_then (cond a Less (cond b Equal Greater)) r)
    by true b c e f g = refl
    by false true true e f g = refl
    by false true false e f g = absurd (grind (arith, nat_tests))
    by false false true e f g = absurd (grind (arith, nat_tests))
    by false false false e f g = refl

pub before_is : (r : ℕ) (u v : Validator) → stands_before r u v ≡ is_lt (standing_cmp (place r u) (place r v))
before_is r u v = either_order (power_of r v) (power_of r u) (addr_cmp u.operator v.operator)

-- ---- lists whose keys are the places of their validators

abbrev pub ArePlaced : ℕ → List (Standing × Validator) → Type 0
ArePlaced r [] = Unit {0}
ArePlaced r (e ∷ es) = (e.0 ≡ place r e.1) × ArePlaced r es

-- no key of these ties with one
abbrev pub AreOthers : Standing → List (Standing × Validator) → Type 0
AreOthers k [] = Unit {0}
AreOthers k (e ∷ es) = (standing_cmp e.0 k ≡ Equal → ⊥) × AreOthers k es

placed-put : (r : ℕ) (v : Validator) (es : List (Standing × Validator)) → ArePlaced r es → ArePlaced r (insert_entry standing_cmp es (place r v) v)
placed-put r v [] h = (refl, tt)
placed-put r v (e ∷ es) h = by (standing_cmp (place r v) e.0) refl (placed-put r v es h.1)
  where
    by : (o : Ordering) → standing_cmp (place r v) e.0 ≡ o → ArePlaced r (insert_entry standing_cmp es (place r v) v) → ArePlaced r (match_ordering o ((place r v, v) ∷ e ∷ es) ((e.0, v) ∷ es) (e ∷ insert_entry standing_cmp es (place r v) v))
    by Less q ih = (refl, h)
    by Equal q ih = (sym (standing_exact (place r v) e.0 q), h.1)
    by Greater q ih = (h.0, ih)

-- who is put into such a list stands where the order of the set places it
put_is_placed : (r : ℕ) (v : Validator) (es : List (Standing × Validator)) → ArePlaced r es → AreOthers (place r v) es → values_of (insert_entry standing_cmp es (place r v) v) ≡ placed r v (values_of es)
put_is_placed r v [] h a = refl
put_is_placed r v (e ∷ es) h a = by (standing_cmp e.0 (place r v)) refl (put_is_placed r v es h.1 a.1)
  where
    test : stands_before r e.1 v ≡ is_lt (standing_cmp e.0 (place r v))
    test = before_is r e.1 v ∙ ap (λ k. is_lt (standing_cmp k (place r v))) (sym h.0)

    back : (o : Ordering) → standing_cmp e.0 (place r v) ≡ o → standing_cmp (place r v) e.0 ≡ ordering_reverse o
    back o q = standing_total.antisymm (place r v) e.0 ∙ ap ordering_reverse q

    by : (o : Ordering) → standing_cmp e.0 (place r v) ≡ o → values_of (insert_entry standing_cmp es (place r v) v) ≡ placed r v (values_of es)
        → values_of (insert_entry standing_cmp (e ∷ es) (place r v) v) ≡ placed r v (values_of (e ∷ es))
    by Less q ih =
        ap (λ o. values_of (match_ordering o ((place r v, v) ∷ e ∷ es) ((e.0, v) ∷ es) (e ∷ insert_entry standing_cmp es (place r v) v))) (back Less q)
        ∙ ap (λ l. e.1 ∷ l) ih
        ∙ sym (ap (λ b. if b then e.1 ∷ placed r v (values_of es) else v ∷ e.1 ∷ values_of es) (test ∙ ap is_lt q))
    by Equal q ih = absurd (a.0 q)
    by Greater q ih =
        ap (λ o. values_of (match_ordering o ((place r v, v) ∷ e ∷ es) ((e.0, v) ∷ es) (e ∷ insert_entry standing_cmp es (place r v) v))) (back Greater q)
        ∙ sym (ap (λ b. if b then e.1 ∷ placed r v (values_of es) else v ∷ e.1 ∷ values_of es) (test ∙ ap is_lt q))

-- ---- filters of the order

module _ (r : ℕ) (t : Validator → Bool) (v : Validator) where
  -- who does not pass leaves nothing
  filter-out : (us : List Validator) → t v ≡ false → filter t (placed r v us) ≡ filter t us
  filter-out [] e = ap (λ b. cond b (v ∷ []) []) e
  filter-out (u ∷ us) e = by (stands_before r u v) (filter-out us e)
    where
      by : (b : Bool) → filter t (placed r v us) ≡ filter t us → filter t (if b then u ∷ placed r v us else v ∷ u ∷ us) ≡ filter t (u ∷ us)
      by true ih = ap (λ l. cond (t u) (u ∷ l) l) ih
      by false ih = ap (λ b. cond b (v ∷ filter t (u ∷ us)) (filter t (u ∷ us))) e

  -- none of these stands before it
  abbrev Behind : List Validator → Type 0
  Behind us = AllByRecursion (λ u. stands_before r u v ≡ false) us

  behind-filter : (us : List Validator) → Behind us → Behind (filter t us)
  behind-filter [] h = tt
  behind-filter (u ∷ us) h = by (t u) (behind-filter us h.1)
    where
      by : (b : Bool) → Behind (filter t us) → Behind (cond b (u ∷ filter t us) (filter t us))
      by true ih = (h.0, ih)
      by false ih = ih

  first-behind : (us : List Validator) → Behind us → placed r v us ≡ v ∷ us
  first-behind [] h = refl
  first-behind (u ∷ us) h = ap (λ b. if b then u ∷ placed r v us else v ∷ u ∷ us) h.0

module _ (r : ℕ) (t : Validator → Bool) (v : Validator) where
  -- behind one that does not stand before it, no later one does
  none_before : (e : Standing × Validator) (es : List (Standing × Validator)) → IsStrictlySortedBy standing_cmp (keys_of (e ∷ es)) → ArePlaced r (e ∷ es) → stands_before r e.1 v ≡ false → AllByRecursion (λ u. stands_before r u v ≡ false) (values_of es)
  none_before e [] s h b = tt
  none_before e (x ∷ es) s h b = (here (stands_before r x.1 v) refl, none_before x es (sorted_tail standing_cmp e.0 (keys_of (x ∷ es)) s) h.1 (here (stands_before r x.1 v) refl))
    where
      lt : (o : Ordering) → is_lt o ≡ true → o ≡ Less
      lt Less p = refl
      lt Equal p = absurd cc
      lt Greater p = absurd cc

      here : (c : Bool) → stands_before r x.1 v ≡ c → stands_before r x.1 v ≡ false
      here false p = p
      here true p =
          let first : standing_cmp e.0 x.0 ≡ Less = (sorted_head standing_cmp e.0 (keys_of (x ∷ es)) s).0 in
          let second : standing_cmp x.0 (place r v) ≡ Less = lt _ (ap (λ k. is_lt (standing_cmp k (place r v))) h.1.0 ∙ sym (before_is r x.1 v) ∙ p) in
          let both : standing_cmp e.0 (place r v) ≡ Less = standing_total.trans e.0 x.0 (place r v) first second in
          let yes : true ≡ false = sym (before_is r e.1 v ∙ ap (λ k. is_lt (standing_cmp k (place r v))) (sym h.0) ∙ ap is_lt both) ∙ b in
          absurd cc

  -- who passes stands among those that pass where it stands among all
  filter-in : (es : List (Standing × Validator)) → IsStrictlySortedBy standing_cmp (keys_of es) → ArePlaced r es → t v ≡ true → filter t (placed r v (values_of es)) ≡ placed r v (filter t (values_of es))
  filter-in [] s h e = ap (λ b. cond b (v ∷ []) []) e
  filter-in (x ∷ es) s h e = by (stands_before r x.1 v) refl (t x.1) refl (filter-in es (sorted_tail standing_cmp x.0 (keys_of es) s) h.1 e)
    where
      by : (b : Bool) → stands_before r x.1 v ≡ b → (c : Bool) → t x.1 ≡ c → filter t (placed r v (values_of es)) ≡ placed r v (filter t (values_of es))
          → filter t (if b then x.1 ∷ placed r v (values_of es) else v ∷ x.1 ∷ values_of es) ≡ placed r v (cond (t x.1) (x.1 ∷ filter t (values_of es)) (filter t (values_of es)))
      by true p true q ih =
          ap (λ c. cond c (x.1 ∷ filter t (placed r v (values_of es))) (filter t (placed r v (values_of es)))) q ∙ ap (λ l. x.1 ∷ l) ih
          ∙ sym (ap (λ b. if b then x.1 ∷ placed r v (filter t (values_of es)) else v ∷ x.1 ∷ filter t (values_of es)) p)
          ∙ sym (ap (λ c. placed r v (cond c (x.1 ∷ filter t (values_of es)) (filter t (values_of es)))) q)
      by true p false q ih =
          ap (λ c. cond c (x.1 ∷ filter t (placed r v (values_of es))) (filter t (placed r v (values_of es)))) q ∙ ih
          ∙ sym (ap (λ c. placed r v (cond c (x.1 ∷ filter t (values_of es)) (filter t (values_of es)))) q)
      by false p c q ih =
          ap (λ d. cond d (v ∷ filter t (values_of (x ∷ es))) (filter t (values_of (x ∷ es)))) e
          ∙ sym (first-behind r t v (filter t (values_of (x ∷ es))) (behind-filter r t v (values_of (x ∷ es)) (p, none_before x es s h p)))

-- ---- all validators by power

-- the operators of these are others
abbrev pub Apart : List ℕ → Validators → Type 0
Apart o [] = Unit {0}
Apart o (e ∷ es) = (e.1.operator ≡ o → ⊥) × Apart o es

-- no operator stands twice
abbrev pub AllApart : Validators → Type 0
AllApart [] = Unit {0}
AllApart (e ∷ es) = Apart e.1.operator es × AllApart es

abbrev pub by_place : ℕ → Validators → List (Standing × Validator)
by_place r es = in_order standing_cmp (power_place r) es

others-put : (k q : Standing) (v : Validator) (es : List (Standing × Validator)) → (standing_cmp q k ≡ Equal → ⊥) → AreOthers k es → AreOthers k (insert_entry standing_cmp es q v)
others-put k q v [] n h = (n, tt)
others-put k q v (e ∷ es) n h = by (standing_cmp q e.0) (others-put k q v es n h.1)
  where
    by : (o : Ordering) → AreOthers k (insert_entry standing_cmp es q v) → AreOthers k (match_ordering o ((q, v) ∷ e ∷ es) ((e.0, v) ∷ es) (e ∷ insert_entry standing_cmp es q v))
    by Less ih = (n, h)
    by Equal ih = h
    by Greater ih = (h.0, ih)

module _ (r : ℕ) where
  apart_keys : (v : Validator) (es : Validators) → Apart v.operator es → AreOthers (place r v) (by_place r es)
  apart_keys v [] a = tt
  apart_keys v (e ∷ es) a = by (is_able r e.1) (apart_keys v es a.1)
    where
      by : (b : Bool) → AreOthers (place r v) (by_place r es) → AreOthers (place r v) (with_if standing_cmp (cond b (Some (place r e.1)) None) e.1 (by_place r es))
      by true ih = others-put (place r v) (place r e.1) e.1 (by_place r es) (λ q. a.0 (ap (λ k. k.operator) (standing_exact (place r e.1) (place r v) q))) ih
      by false ih = ih

  pub by_place-placed : (es : Validators) → ArePlaced r (by_place r es)
  by_place-placed [] = tt
  by_place-placed (e ∷ es) = by (is_able r e.1) (by_place-placed es)
    where
      by : (b : Bool) → ArePlaced r (by_place r es) → ArePlaced r (with_if standing_cmp (cond b (Some (place r e.1)) None) e.1 (by_place r es))
      by true ih = placed-put r e.1 (by_place r es) ih
      by false ih = ih

  -- the validators in the order of places are those of the rule, in its order
  pub by_place-is : (es : Validators) → AllApart es → values_of (by_place r es) ≡ by_power r (filter (is_able r) (values_of es))
  by_place-is [] a = refl
  by_place-is (e ∷ es) a = by (is_able r e.1) (by_place-is es a.1)
    where
      by : (b : Bool) → values_of (by_place r es) ≡ by_power r (filter (is_able r) (values_of es))
          → values_of (with_if standing_cmp (cond b (Some (place r e.1)) None) e.1 (by_place r es)) ≡ by_power r (cond b (e.1 ∷ filter (is_able r) (values_of es)) (filter (is_able r) (values_of es)))
      by true ih = put_is_placed r e.1 (by_place r es) (by_place-placed es) (apart_keys e.1 es a.0) ∙ ap (placed r e.1) ih
      by false ih = ih

  -- the order of those that pass is that of all, filtered
  pub by_power-filter : (t : Validator → Bool) → ((v : Validator) → t v ≡ true → is_able r v ≡ true) → (es : Validators) → AllApart es → ((fs : Validators) → IsStrictlySortedBy standing_cmp (keys_of (by_place r fs)))
      → by_power r (filter t (values_of es)) ≡ filter t (values_of (by_place r es))
  by_power-filter t able [] a s = refl
  by_power-filter t able (e ∷ es) a s = by (is_able r e.1) refl (t e.1) refl (by_power-filter t able es a.1 s)
    where
      put : values_of (insert_entry standing_cmp (by_place r es) (place r e.1) e.1) ≡ placed r e.1 (values_of (by_place r es))
      put = put_is_placed r e.1 (by_place r es) (by_place-placed es) (apart_keys e.1 es a.0)

      by : (b : Bool) → is_able r e.1 ≡ b → (c : Bool) → t e.1 ≡ c → by_power r (filter t (values_of es)) ≡ filter t (values_of (by_place r es))
          → by_power r (cond c (e.1 ∷ filter t (values_of es)) (filter t (values_of es))) ≡ filter t (values_of (with_if standing_cmp (cond b (Some (place r e.1)) None) e.1 (by_place r es)))
      by true p true q ih = ap (placed r e.1) ih ∙ sym (ap (filter t) put ∙ filter-in r t e.1 (by_place r es) (s es) (by_place-placed es) q)
      by true p false q ih = ih ∙ sym (ap (filter t) put ∙ filter-out r t e.1 (values_of (by_place r es)) q)
      by false p true q ih = let yes : true ≡ false = sym (able e.1 q) ∙ p in absurd cc
      by false p false q ih = ih

-- ---- ranks

count-placed : (r : ℕ) (t : Validator → Bool) (v : Validator) (us : List Validator) → count_where t (placed r v us) ≡ cond (t v) 1 0 + count_where t us
count-placed r t v [] = refl
count-placed r t v (u ∷ us) = by (stands_before r u v) (count-placed r t v us)
  where
    swapped : (a b c x : ℕ) → x ≡ b + c → a + x ≡ b + (a + c)
    swapped a b c x e = omega (arith, e)

    by : (b : Bool) → count_where t (placed r v us) ≡ cond (t v) 1 0 + count_where t us → count_where t (if b then u ∷ placed r v us else v ∷ u ∷ us) ≡ cond (t v) 1 0 + (cond (t u) 1 0 + count_where t us)
    by true ih = swapped (cond (t u) 1 0) (cond (t v) 1 0) (count_where t us) (count_where t (placed r v us)) ih
    by false ih = refl

count-ordered : (r : ℕ) (t : Validator → Bool) (us : List Validator) → count_where t (by_power r us) ≡ count_where t us
count-ordered r t [] = refl
count-ordered r t (u ∷ us) = count-placed r t u (by_power r us) ∙ ap (λ n. cond (t u) 1 0 + n) (count-ordered r t us)

count-filter : (s t : Validator → Bool) (us : List Validator) → count_where t (filter s us) ≡ count_where (λ u. s u && t u) us
count-filter s t [] = refl
count-filter s t (u ∷ us) = by (s u) (count-filter s t us)
  where
    by : (b : Bool) → count_where t (filter s us) ≡ count_where (λ u. s u && t u) us → count_where t (cond b (u ∷ filter s us) (filter s us)) ≡ cond (b && t u) 1 0 + count_where (λ u. s u && t u) us
    by true ih = ap (λ n. cond (t u) 1 0 + n) ih
    by false ih = ih ∙ none (count_where (λ u. s u && t u) us)
      where
        none : (n : ℕ) → n ≡ 0 + n
        none n = omega arith

module _ (r : ℕ) (es : Validators) (a : AllApart es) where
  -- how many stand before one is counted among those in order
  pub rank_is : (v : Validator) → rank_of r (values_of es) v ≡ count_where (λ u. stands_before r u v) (values_of (by_place r es))
  rank_is v =
      sym (count-filter (is_able r) (λ u. stands_before r u v) (values_of es))
      ∙ sym (count-ordered r (λ u. stands_before r u v) (filter (is_able r) (values_of es)))
      ∙ ap (count_where (λ u. stands_before r u v)) (sym (by_place-is r es a))

-- ---- the beginning of the order

module _ (r : ℕ) where
  abbrev pub before_count : Validator → List (Standing × Validator) → ℕ
  before_count v es = count_where (λ u. stands_before r u v) (values_of es)

  pub not_itself : (v : Validator) → stands_before r v v ≡ false
  not_itself v = before_is r v v ∙ on (standing_cmp (place r v) (place r v)) refl
    where
      on : (o : Ordering) → standing_cmp (place r v) (place r v) ≡ o → is_lt o ≡ false
      on Less p = let back : Less ≡ Greater = sym p ∙ standing_total.antisymm (place r v) (place r v) ∙ ap ordering_reverse p in absurd cc
      on Equal p = refl
      on Greater p = refl

  -- those behind the first do not stand before it, and it stands before each of them
  none_first : (e : Standing × Validator) (es : List (Standing × Validator)) → (e.0 ≡ place r e.1) → ArePlaced r es → AllByRecursion (λ k. standing_cmp e.0 k ≡ Less) (keys_of es) → before_count e.1 es ≡ 0
  none_first e [] p h l = refl
  none_first e (x ∷ es) p h l =
      let order : standing_cmp x.0 (place r e.1) ≡ Greater = ap (standing_cmp x.0) (sym p) ∙ standing_total.antisymm x.0 e.0 ∙ ap ordering_reverse l.0 in
      let test : stands_before r x.1 e.1 ≡ false = before_is r x.1 e.1 ∙ ap (λ k. is_lt (standing_cmp k (place r e.1))) (sym h.0) ∙ ap is_lt order in
      (λ i. cond (test i) 1 0 + none_first e es p h.1 l.1 i)

  first_before : (e x : Standing × Validator) → e.0 ≡ place r e.1 → x.0 ≡ place r x.1 → standing_cmp e.0 x.0 ≡ Less → stands_before r e.1 x.1 ≡ true
  first_before e x p q l = before_is r e.1 x.1 ∙ (λ i. is_lt (standing_cmp (p' i) (q' i))) ∙ ap is_lt l
    where
      p' : place r e.1 ≡ e.0
      p' = sym p

      q' : place r x.1 ≡ x.0
      q' = sym q

  -- each has as many before it as are counted
  abbrev pub Counted : ℕ → (Validator → ℕ) → List (Standing × Validator) → List (Standing × Validator) → Type 0
  Counted n count all [] = Unit {0}
  Counted n count all (x ∷ xs) = (count x.1 ≡ n + before_count x.1 all) × Counted n count all xs

  counted-behind : (n : ℕ) (count : Validator → ℕ) (e : Standing × Validator) (all xs : List (Standing × Validator)) → e.0 ≡ place r e.1 → ArePlaced r xs → AllByRecursion (λ k. standing_cmp e.0 k ≡ Less) (keys_of xs)
      → Counted n count (e ∷ all) xs → Counted (n + 1) count all xs
  counted-behind n count e all [] p h l c = tt
  counted-behind n count e all (x ∷ xs) p h l c =
      (c.0 ∙ ap (λ b. n + (cond b 1 0 + before_count x.1 all)) (first_before e x p h.0 l.0) ∙ regrouped n (before_count x.1 all), counted-behind n count e all xs p h.1 l.1 c.1)
    where
      regrouped : (m k : ℕ) → m + (1 + k) ≡ m + 1 + k
      regrouped m k = omega arith

  filter-none : (n most : ℕ) (count : Validator → ℕ) (all xs : List (Standing × Validator)) → nat_lt n most ≡ false → Counted n count all xs → filter (λ v. nat_lt (count v) most) (values_of xs) ≡ []
  filter-none n most count all [] f c = refl
  filter-none n most count all (x ∷ xs) f c =
      ap (λ b. cond b (x.1 ∷ filter (λ v. nat_lt (count v) most) (values_of xs)) (filter (λ v. nat_lt (count v) most) (values_of xs)))
      (ap (λ m. nat_lt m most) c.0 ∙ above n (before_count x.1 all) most f)
      ∙ filter-none n most count all xs f c.1
    where
      above : (m k b : ℕ) → nat_lt m b ≡ false → nat_lt (m + k) b ≡ false
      above m k b e = grind (arith, nat_tests)

  -- those with fewer before them than a number are so many from the first on
  pub filter_is_take : (n most : ℕ) (count : Validator → ℕ) (es : List (Standing × Validator)) → IsStrictlySortedBy standing_cmp (keys_of es) → ArePlaced r es → Counted n count es es
      → filter (λ v. nat_lt (count v) (n + most)) (values_of es) ≡ take most (values_of es)
  filter_is_take n zero count es s h c = filter-none n (n + 0) count es es (same n) c ∙ sym (no_more (values_of es))
    where
      same : (m : ℕ) → nat_lt m (m + 0) ≡ false
      same m = grind (arith, nat_tests)

      no_more : (us : List Validator) → take zero us ≡ []
      no_more us = refl
  filter_is_take n (suc most) count [] s h c = refl
  filter_is_take n (suc most) count (e ∷ es) s h c =
      ap (λ b. cond b (e.1 ∷ filter test (values_of es)) (filter test (values_of es))) first
      ∙ ap (λ l. e.1 ∷ l) (ap (λ m. filter (λ v. nat_lt (count v) m) (values_of es)) (moved n most) ∙ filter_is_take (n + 1) most count es (sorted_tail standing_cmp e.0 (keys_of es) s) h.1 (counted-behind n count e es es h.0 h.1 below c.1))
    where
      test : Validator → Bool
      test v = nat_lt (count v) (n + suc most)

      below : AllByRecursion (λ k. standing_cmp e.0 k ≡ Less) (keys_of es)
      below = sorted_head standing_cmp e.0 (keys_of es) s

      moved : (m k : ℕ) → m + suc k ≡ m + 1 + k
      moved m k = omega arith

      own : before_count e.1 (e ∷ es) ≡ 0
      own = (λ i. cond (not_itself e.1 i) 1 0 + none_first e es h.0 h.1 below i)

      within : (m k : ℕ) → nat_lt (m + 0) (m + suc k) ≡ true
      within m k = grind (arith, nat_tests)

      first : nat_lt (count e.1) (n + suc most) ≡ true
      first = ap (λ m. nat_lt m (n + suc most)) (c.0 ∙ ap (λ m. n + m) own) ∙ within n most

  -- ---- who is within the last of the beginning

  later_places : (e : Standing × Validator) (es : List (Standing × Validator)) (k : Standing) → standing_cmp e.0 k ≡ Less → is_not_behind (last_place (e ∷ es)) k ≡ is_not_behind (last_place es) k
  later_places e [] k l = ap (λ o. not (is_lt o)) l
  later_places e (x ∷ es) k l = refl

  first_place : (e : Standing × Validator) (es : List (Standing × Validator)) → IsStrictlySortedBy standing_cmp (keys_of (e ∷ es)) → is_not_behind (last_place (e ∷ es)) e.0 ≡ true
  first_place e [] s = on (standing_cmp e.0 e.0) refl
    where
      on : (o : Ordering) → standing_cmp e.0 e.0 ≡ o → not (is_lt o) ≡ true
      on Less p = let back : Less ≡ Greater = sym p ∙ standing_total.antisymm e.0 e.0 ∙ ap ordering_reverse p in absurd cc
      on Equal p = refl
      on Greater p = refl
  first_place e (x ∷ es) s = no_less (last_place (x ∷ es)) (first_place x es (sorted_tail standing_cmp e.0 (keys_of (x ∷ es)) s))
    where
      no_less : (p : Option Standing) → is_not_behind p x.0 ≡ true → is_not_behind p e.0 ≡ true
      no_less None h = absurd cc
      no_less (Some p) h = on (standing_cmp p e.0) refl
        where
          on : (o : Ordering) → standing_cmp p e.0 ≡ o → not (is_lt o) ≡ true
          on Less q =
              let below : standing_cmp p x.0 ≡ Less = standing_total.trans p e.0 x.0 q (sorted_head standing_cmp e.0 (keys_of (x ∷ es)) s).0 in
              let no : false ≡ true = sym (ap (λ o. not (is_lt o)) below) ∙ h in
              absurd cc
          on Equal q = refl
          on Greater q = refl

  -- what holds of all places holds of the one that is found
  of_found : (P : Standing → Type 0) (es : List (Standing × Validator)) (q : Standing) (v : Validator) → AllByRecursion P (keys_of es) → at standing_cmp es q ≡ Some v → P q
  of_found P [] q v h f = absurd cc
  of_found P (e ∷ es) q v h f = by (standing_cmp q e.0) refl f (λ g. of_found P es q v h.1 g)
    where
      by : (o : Ordering) → standing_cmp q e.0 ≡ o → cond (is_eq o) (Some e.1) (at standing_cmp es q) ≡ Some v → (at standing_cmp es q ≡ Some v → P q) → P q
      by Less p g later = later g
      by Equal p g later = subst P (sym (standing_exact q e.0 p)) h.0
      by Greater p g later = later g

  below_taken : (m : ℕ) (xs : List (Standing × Validator)) (P : Standing → Type 0) → AllByRecursion P (keys_of xs) → AllByRecursion P (keys_of (take m xs))
  below_taken zero xs P k = tt
  below_taken (suc m) [] P k = tt
  below_taken (suc m) (x ∷ xs) P k = (k.0, below_taken m xs P k.1)

  ascend_taken : (m : ℕ) (xs : List (Standing × Validator)) → IsStrictlySortedBy standing_cmp (keys_of xs) → IsStrictlySortedBy standing_cmp (keys_of (take m xs))
  unfolding IsStrictlySortedBy
  ascend_taken zero xs k = tt
  ascend_taken (suc m) [] k = tt
  ascend_taken (suc m) (x ∷ xs) k = (below_taken m xs (λ y. standing_cmp x.0 y ≡ Less) k.0, ascend_taken m xs k.1)

  -- Of those in order, the places that are not behind the last of the first few are theirs.
  pub not_behind_is : (most : ℕ) (es : List (Standing × Validator)) (v : Validator) → IsStrictlySortedBy standing_cmp (keys_of es) → ArePlaced r es → at standing_cmp es (place r v) ≡ Some v
      → is_not_behind (last_place (take most es)) (place r v) ≡ nat_lt (before_count v es) most
  not_behind_is zero es v s h f = none (before_count v es)
    where
      none : (n : ℕ) → false ≡ nat_lt n 0
      none n = grind (arith, nat_tests)
  not_behind_is (suc most) [] v s h f = absurd cc
  not_behind_is (suc most) (e ∷ es) v s h f = by (standing_cmp (place r v) e.0) refl f (λ g. not_behind_is most es v (sorted_tail standing_cmp e.0 (keys_of es) s) h.1 g)
    where
      below : AllByRecursion (λ k. standing_cmp e.0 k ≡ Less) (keys_of es)
      below = sorted_head standing_cmp e.0 (keys_of es) s

      positive : (m : ℕ) → true ≡ nat_lt 0 (suc m)
      positive m = grind (arith, nat_tests)

      one_more : (n m : ℕ) → nat_lt n m ≡ nat_lt (1 + n) (suc m)
      one_more n m = grind (arith, nat_tests)

      own : e.1 ≡ v → before_count v (e ∷ es) ≡ 0
      own one = ap (λ x. before_count x (e ∷ es)) (sym one) ∙ (λ i. cond (not_itself e.1 i) 1 0 + none_first e es h.0 h.1 below i)

      behind : at standing_cmp es (place r v) ≡ Some v → (at standing_cmp es (place r v) ≡ Some v → is_not_behind (last_place (take most es)) (place r v) ≡ nat_lt (before_count v es) most)
          → is_not_behind (last_place (e ∷ take most es)) (place r v) ≡ nat_lt (before_count v (e ∷ es)) (suc most)
      behind g later =
          let less : standing_cmp e.0 (place r v) ≡ Less = of_found (λ k. standing_cmp e.0 k ≡ Less) es (place r v) v below g in
          let test : stands_before r e.1 v ≡ true = before_is r e.1 v ∙ ap (λ k. is_lt (standing_cmp k (place r v))) (sym h.0) ∙ ap is_lt less in
          later_places e (take most es) (place r v) less ∙ later g ∙ one_more (before_count v es) most ∙ ap (λ b. nat_lt (cond b 1 0 + before_count v es) (suc most)) (sym test)

      by : (o : Ordering) → standing_cmp (place r v) e.0 ≡ o → cond (is_eq o) (Some e.1) (at standing_cmp es (place r v)) ≡ Some v
          → (at standing_cmp es (place r v) ≡ Some v → is_not_behind (last_place (take most es)) (place r v) ≡ nat_lt (before_count v es) most)
          → is_not_behind (last_place (e ∷ take most es)) (place r v) ≡ nat_lt (before_count v (e ∷ es)) (suc most)
      by Less p g later = behind g later
      by Equal p g later =
          let one : e.1 ≡ v = cc in
          ap (is_not_behind (last_place (e ∷ take most es))) (standing_exact (place r v) e.0 p) ∙ first_place e (take most es) (ascend_taken (suc most) (e ∷ es) s)
          ∙ positive most ∙ ap (λ n. nat_lt n (suc most)) (sym (own one))
      by Greater p g later = behind g later
