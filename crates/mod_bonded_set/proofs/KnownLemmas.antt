-- Bonded validators that are known to be the set: nobody joins or leaves it.
use Rattle.std.proofs.Common.{◌≡◌, ◌∙◌, ℕ, ◌+◌, ◌<◌, ◌≤◌, Bool, true, false, cond, List, [], ◌∷◌, Option, Some, None, refl, sym, ap, subst, arith, ◌&&◌, not, nat_lt, filter, ◌==◌, length, if◌then◌else◌, option_map, Ordering, Less, Equal, Greater, is_lt, All}
use Rattle.std.specs.{List.{AllByRecursion, Sorted.IsStrictlySortedBy}, Map.{keys_of, values_of}}
use Rattle.std.{specs.Ordering.ordering_reverse, proofs.lemmas.Bool.Decides.nat_tests}
use Rattle.std.proofs.lemmas.List.Elements.{All-from_recursion, recursion_from_All}
use Rattle.base_types.specs.Orders.{addr_cmp}
use Rattle.base_roles.specs.{declared.entities.Validator.Validator, Entries.at, Orders.same_addr}
use Rattle.base_roles.specs.Staked.{Staked, is_bonded}
use Rattle.rule_modules.specs.Amounts.{count_where}
use Rattle.rule_modules.specs.BondedSet.{is_able, stands_before, rank_of, is_in_bonded_set, placed, by_power, joining_of, leaving_of}
use Rattle.mod_staking.specs.{declared.places.Standing.Standing, Listed.Validators, Places.{standing, standing_cmp}}
use Rattle.mod_staking.specs.Registered.{AreKeyed}
use Rattle.mod_staking.specs.KnownSet.{place, is_not_behind, is_within, AreBondedTo, IsKnown, AreSet}
use Rattle.mod_staking.proofs.ListedLemmas.{standing_total, standing_exact}
use Rattle.mod_bonded_set.specs.Sets.{TellsSet, IsUnmoved, unmoved_last, all_joined, all_left}
use Rattle.mod_bonded_set.proofs.{SetLemmas.{before_is, not_itself}, OrderedLemmas.first_of_two}
use Rattle.mod_bonded_set.proofs.PassedLemmas.{standing_all, bonded_count}

-- ---- how many pass a test

more_in : (b c : Bool) (m n : ℕ) → (b ≡ true → c ≡ true) → m ≤ n → cond b 1 0 + m ≤ cond c 1 0 + n
more_in true true m n f h = omega (arith, h)
more_in true false m n f h = let yes : false ≡ true = f refl in absurd cc
more_in false true m n f h = omega (arith, h)
more_in false false m n f h = omega (arith, h)

less_in : (b c : Bool) (m n : ℕ) → (b ≡ true → c ≡ true) → m < n → cond b 1 0 + m < cond c 1 0 + n
less_in true true m n f h = omega (arith, h)
less_in true false m n f h = let yes : false ≡ true = f refl in absurd cc
less_in false true m n f h = omega (arith, h)
less_in false false m n f h = omega (arith, h)

one_in : (b c : Bool) (m n : ℕ) → b ≡ false → c ≡ true → m ≤ n → cond b 1 0 + m < cond c 1 0 + n
one_in true c m n e f h = absurd cc
one_in false true m n e f h = omega (arith, h)
one_in false false m n e f h = absurd cc

-- where whoever passes one test passes another, no more pass it
fewer_pass : (p q : Validator → Bool) (vs : List Validator) → AllByRecursion (λ v. p v ≡ true → q v ≡ true) vs → count_where p vs ≤ count_where q vs
fewer_pass p q [] h = omega arith
fewer_pass p q (v ∷ vs) h = more_in (p v) (q v) (count_where p vs) (count_where q vs) h.0 (fewer_pass p q vs h.1)

-- and fewer do where one passes the other alone
less_pass : (p q : Validator → Bool) (es : Validators) (o : List ℕ) (v : Validator) → AllByRecursion (λ v. p v ≡ true → q v ≡ true) (values_of es) → at addr_cmp es o ≡ Some v → p v ≡ false → q v ≡ true
    → count_where p (values_of es) < count_where q (values_of es)
less_pass p q [] o v h f a b = absurd cc
less_pass p q (e ∷ es) o v h f a b = by (same_addr o e.0) f (λ g. less_pass p q es o v h.1 g a b)
  where
    by : (d : Bool) → cond d (Some e.1) (at addr_cmp es o) ≡ Some v → (at addr_cmp es o ≡ Some v → count_where p (values_of es) < count_where q (values_of es)) → cond (p e.1) 1 0 + count_where p (values_of es) < cond (q e.1) 1 0 + count_where q (values_of es)
    by true g later =
        let one : v ≡ e.1 = cc in
        one_in (p e.1) (q e.1) (count_where p (values_of es)) (count_where q (values_of es)) (ap p (sym one) ∙ a) (ap q (sym one) ∙ b) (fewer_pass p q (values_of es) h.1)
    by false g later = less_in (p e.1) (q e.1) (count_where p (values_of es)) (count_where q (values_of es)) h.0 (later g)

second_of_two : (a b : Bool) → (a && b) ≡ true → b ≡ true
second_of_two true b e = e
second_of_two false b e = absurd cc

both : (a b : Bool) → a ≡ true → b ≡ true → (a && b) ≡ true
both true b e f = f
both false b e f = absurd cc

lt_is : (o : Ordering) → is_lt o ≡ true → o ≡ Less
lt_is Less e = refl
lt_is Equal e = absurd cc
lt_is Greater e = absurd cc

-- ---- places

module _ (r : ℕ) (c : Standing) where
  abbrev within : Validator → Bool
  within v = is_within r (Some c) v

  -- who stands before one that is within, is
  before_within : (u v : Validator) → within v ≡ true → (is_able r u && stands_before r u v) ≡ true → within u ≡ true
  before_within u v w b = both (is_able r u) _ (first_of_two (is_able r u) _ b) (by (standing_cmp c (place r u)) refl)
    where
      first : standing_cmp (place r u) (place r v) ≡ Less
      first = lt_is _ (sym (before_is r u v) ∙ second_of_two (is_able r u) _ b)

      by : (o : Ordering) → standing_cmp c (place r u) ≡ o → not (is_lt o) ≡ true
      by Less e =
          let less : standing_cmp c (place r v) ≡ Less = standing_total.trans c (place r u) (place r v) e first in
          let no : false ≡ true = sym (ap (λ o. not (is_lt o)) less) ∙ second_of_two (is_able r v) _ w in
          absurd cc
      by Equal e = refl
      by Greater e = refl

  -- who is within stands before one that is able and is not
  within_before : (u v : Validator) → is_able r v ≡ true → within v ≡ false → within u ≡ true → (is_able r u && stands_before r u v) ≡ true
  within_before u v a w b = both (is_able r u) _ (first_of_two (is_able r u) _ b) (before_is r u v ∙ ap is_lt (by (standing_cmp c (place r u)) refl))
    where
      behind : (d : Bool) → d ≡ true → (o : Ordering) → (d && not (is_lt o)) ≡ false → o ≡ Less
      behind true e Less h = refl
      behind true e Equal h = absurd cc
      behind true e Greater h = absurd cc
      behind false e o h = absurd cc

      last : standing_cmp c (place r v) ≡ Less
      last = behind (is_able r v) a (standing_cmp c (place r v)) w

      by : (o : Ordering) → standing_cmp c (place r u) ≡ o → standing_cmp (place r u) (place r v) ≡ Less
      by Less e =
          let no : false ≡ true = sym (ap (λ o. not (is_lt o)) e) ∙ second_of_two (is_able r u) _ b in
          absurd cc
      by Equal e = ap (λ k. standing_cmp k (place r v)) (sym (standing_exact c (place r u) e)) ∙ last
      by Greater e = standing_total.trans (place r u) c (place r v) (standing_total.antisymm (place r u) c ∙ ap ordering_reverse e) last

-- ---- the set

none_pass : (t : Validator → Bool) (vs : List Validator) → AllByRecursion (λ v. t v ≡ false) vs → filter t vs ≡ []
none_pass t [] h = refl
none_pass t (v ∷ vs) h = ap (λ b. cond b (v ∷ filter t vs) (filter t vs)) h.0 ∙ none_pass t vs h.1

not_both : (a b : Bool) → a ≡ b → (a && not b) ≡ false
not_both true true e = refl
not_both true false e = absurd cc
not_both false b e = refl

module _ (r most : ℕ) (es : Validators) (s : IsStrictlySortedBy addr_cmp (keys_of es)) (k : AreKeyed es) (a : AreSet r most es) where
  abbrev vs : List Validator
  vs = values_of es

  bonded_all : AllByRecursion (λ v. within r a.least v ≡ is_bonded v.status) vs
  bonded_all = recursion_from_All (λ v. within r a.least v ≡ is_bonded v.status) vs a.bonded

  count : count_where (λ v. is_bonded v.status) vs ≡ most
  count = sym (bonded_count r es s k) ∙ a.many

  mapped : (P Q : Validator → Type 0) (us : List Validator) → ((v : Validator) → P v → Q v) → AllByRecursion P us → AllByRecursion Q us
  mapped P Q [] f h = tt
  mapped P Q (u ∷ us) f h = (f u h.0, mapped P Q us f h.1)

  is_in : (o : List ℕ) (v : Validator) → at addr_cmp es o ≡ Some v → within r a.least v ≡ is_bonded v.status → is_in_bonded_set r most vs v ≡ is_bonded v.status
  is_in o v f w = by (is_able r v) refl (within r a.least v) refl
    where
      low : (m n k : ℕ) → m < n → n ≡ k → nat_lt m k ≡ true
      low m n k h e = grind (arith, nat_tests, h, e)

      high : (m n k : ℕ) → n ≤ m → n ≡ k → nat_lt m k ≡ false
      high m n k h e = grind (arith, nat_tests, h, e)

      by : (b : Bool) → is_able r v ≡ b → (d : Bool) → within r a.least v ≡ d → (b && nat_lt (rank_of r vs v) most) ≡ is_bonded v.status
      by false e d g = sym (ap (λ b. b && is_not_behind (Some a.least) (place r v)) e) ∙ w
      by true e true g =
          low (rank_of r vs v) (count_where (λ u. is_bonded u.status) vs) most
          (less_pass (λ u. is_able r u && stands_before r u v) (λ u. is_bonded u.status) es o v
          (mapped (λ u. within r a.least u ≡ is_bonded u.status) (λ u. (is_able r u && stands_before r u v) ≡ true → is_bonded u.status ≡ true) vs (λ u h p. sym h ∙ before_within r a.least u v g p) bonded_all)
          f (ap (λ b. b && stands_before r v v) e ∙ not_itself r v) (sym w ∙ g)) count
          ∙ sym g ∙ w
      by true e false g =
          high (rank_of r vs v) (count_where (λ u. is_bonded u.status) vs) most
          (fewer_pass (λ u. is_bonded u.status) (λ u. is_able r u && stands_before r u v) vs
          (mapped (λ u. within r a.least u ≡ is_bonded u.status) (λ u. is_bonded u.status ≡ true → (is_able r u && stands_before r u v) ≡ true) vs (λ u h p. within_before r a.least u v e g (h ∙ p)) bonded_all)) count
          ∙ sym g ∙ w

  all_in : AllByRecursion (λ v. is_in_bonded_set r most vs v ≡ is_bonded v.status) vs
  all_in = standing_all r es s k (λ v. is_in_bonded_set r most vs v ≡ is_bonded v.status) (λ o v f. is_in o v f (of_all o v f))
    where
      of_all : (o : List ℕ) (v : Validator) → at addr_cmp es o ≡ Some v → within r a.least v ≡ is_bonded v.status
      of_all o v f = on es bonded_all f
        where
          on : (xs : Validators) → AllByRecursion (λ v. within r a.least v ≡ is_bonded v.status) (values_of xs) → at addr_cmp xs o ≡ Some v → within r a.least v ≡ is_bonded v.status
          on [] h g = absurd cc
          on (x ∷ xs) h g = by (same_addr o x.0) g (λ e. on xs h.1 e)
            where
              by : (b : Bool) → cond b (Some x.1) (at addr_cmp xs o) ≡ Some v → (at addr_cmp xs o ≡ Some v → within r a.least v ≡ is_bonded v.status) → within r a.least v ≡ is_bonded v.status
              by true e later = let one : x.1 ≡ v = cc in subst (λ y. within r a.least y ≡ is_bonded y.status) one h.0
              by false e later = later e

  pub none-join : joining_of r most vs ≡ []
  none-join = ap (by_power r) (none_pass (λ v. is_in_bonded_set r most vs v && not (is_bonded v.status)) vs (mapped (λ v. is_in_bonded_set r most vs v ≡ is_bonded v.status) (λ v. (is_in_bonded_set r most vs v && not (is_bonded v.status)) ≡ false) vs (λ v h. not_both _ _ h) all_in))

  pub none-leave : leaving_of r most vs ≡ []
  none-leave = none_pass (λ v. is_bonded v.status && not (is_in_bonded_set r most vs v)) vs (mapped (λ v. is_in_bonded_set r most vs v ≡ is_bonded v.status) (λ v. (is_bonded v.status && not (is_in_bonded_set r most vs v)) ≡ false) vs (λ v h. not_both _ _ (sym h)) all_in)

-- ---- where nobody moves, those within the last place are bonded, and no others

none_placed : (r : ℕ) (v : Validator) (us : List Validator) → placed r v us ≡ [] → ⊥
none_placed r v [] e = absurd cc
none_placed r v (u ∷ us) e = by (stands_before r u v) e
  where
    by : (b : Bool) → (if b then u ∷ placed r v us else v ∷ u ∷ us) ≡ [] → ⊥
    by true g = absurd cc
    by false g = absurd cc

none_ordered : (r : ℕ) (us : List Validator) → by_power r us ≡ [] → us ≡ []
none_ordered r [] e = refl
none_ordered r (u ∷ us) e = absurd (none_placed r u (by_power r us) e)

fail_all : (t : Validator → Bool) (vs : List Validator) → filter t vs ≡ [] → AllByRecursion (λ v. t v ≡ false) vs
fail_all t [] e = tt
fail_all t (v ∷ vs) e = by (t v) refl e (fail_all t vs)
  where
    by : (b : Bool) → t v ≡ b → cond b (v ∷ filter t vs) (filter t vs) ≡ [] → (filter t vs ≡ [] → AllByRecursion (λ v. t v ≡ false) vs) → (t v ≡ false) × AllByRecursion (λ v. t v ≡ false) vs
    by true f g later = absurd cc
    by false f g later = (f, later g)

same_if : (a b : Bool) → (a && not b) ≡ false → (b && not a) ≡ false → a ≡ b
same_if true true e f = refl
same_if true false e f = absurd cc
same_if false true e f = absurd cc
same_if false false e f = refl

module _ (r most : ℕ) (s : Staked) (sorted : IsStrictlySortedBy addr_cmp (keys_of s.validators)) (keyed : AreKeyed s.validators) (joining leaving : List Validator)
    (j : joining ≡ joining_of r most (values_of s.validators)) (l : leaving ≡ leaving_of r most (values_of s.validators)) where
  three : (P Q R S : Validator → Type 0) (us : List Validator) → ((v : Validator) → P v → Q v → R v → S v) → AllByRecursion P us → AllByRecursion Q us → AllByRecursion R us → AllByRecursion S us
  three P Q R S [] f p q x = tt
  three P Q R S (u ∷ us) f p q x = (f u p.0 q.0 x.0, three P Q R S us f p.1 q.1 x.1)

  pub unmoved : (last : Option Standing) → TellsSet r most s last → joining ≡ [] → leaving ≡ [] → IsUnmoved r most s last
  unmoved None t e f = tt
  unmoved (Some p) t e f =
      let vs = values_of s.validators in
      let none = sym j ∙ e in
      let nobody = sym l ∙ f in (
        none,
        (
          nobody,
          All-from_recursion (λ v. is_within r (Some p) v ≡ is_bonded v.status) vs
              (three (λ v. is_within r (Some p) v ≡ is_in_bonded_set r most vs v) (λ v. (is_in_bonded_set r most vs v && not (is_bonded v.status)) ≡ false) (λ v. (is_bonded v.status && not (is_in_bonded_set r most vs v)) ≡ false) _ vs
              (λ v x y z. x ∙ same_if _ _ y z)
              (standing_all r s.validators sorted keyed (λ v. is_within r (Some p) v ≡ is_in_bonded_set r most vs v) t)
              (fail_all _ vs (none_ordered r _ none)) (fail_all _ vs nobody)),
        ),
      )

-- and so where the place was told only if nobody moves
nobody : {A : Type 0} (xs : List A) → (length xs == 0) ≡ true → xs ≡ []
nobody [] e = refl
nobody (x ∷ xs) e = absurd (grind (arith, nat_tests))

pub unmoved_if : (r most : ℕ) (s : Staked) → IsStrictlySortedBy addr_cmp (keys_of s.validators) → AreKeyed s.validators → (joining leaving : List Validator) → joining ≡ joining_of r most (values_of s.validators) → leaving ≡ leaving_of r most (values_of s.validators)
    → (last : Option (ℕ × List ℕ)) → TellsSet r most s (option_map standing last) → IsUnmoved r most s (option_map standing (unmoved_last joining leaving last))
unmoved_if r most s sorted keyed joining leaving j l last tells = by (length joining == 0) refl (length leaving == 0) refl
  where
    by : (a : Bool) → (length joining == 0) ≡ a → (b : Bool) → (length leaving == 0) ≡ b → IsUnmoved r most s (option_map standing (if a && b then last else None))
    by true e true f = unmoved r most s sorted keyed joining leaving j l (option_map standing last) tells (nobody joining e) (nobody leaving f)
    by true e false f = tt
    by false e b f = tt

-- what is found stays known behind a change of nobody
pub known_after : (r most height time : ℕ) (s s1 s2 : Staked) (last : Option Standing) → IsUnmoved r most s last → s1 ≡ all_joined (joining_of r most (values_of s.validators)) s
    → s2 ≡ all_left height time (leaving_of r most (values_of s.validators)) s1 → IsKnown r last s2.validators
known_after r most height time s s1 s2 None u e f = tt
known_after r most height time s s1 s2 (Some p) u e f =
    let same : s2 ≡ s = f ∙ ap (λ l. all_left height time l s1) u.1.0 ∙ e ∙ ap (λ l. all_joined l s) u.0 in
    subst (λ x. AreBondedTo r p x.validators) (sym same) u.1.1
