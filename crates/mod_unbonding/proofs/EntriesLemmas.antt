-- The entries of one key take the place of others: what holds of all, their order, and their sums.
use Rattle.std.proofs.Common.{◌≡◌, ◌∙◌, ℕ, ◌+◌, ◌^◌, ◌<◌, ◌≤◌, Bool, true, false, cond, List, [], ◌∷◌, Option, Some, None, refl, sym, ap, subst, arith, inl, inr, ◌⊎◌, All, map, sum, length, unwrap_or, Ordering, Less, Equal, Greater, is_eq}
use Rattle.std.specs.{Ordering.match_ordering, BTreeMap.{insert_entry, is_at}, List.Sorted.IsStrictlySortedBy}
use Rattle.std.{specs.Map.{keys_of, values_of}, proofs.lemmas.List.{Elements.{All-nil, All-weaker}, Sums.sum_by-cons}}
use Rattle.std.proofs.lemmas.Map.{lookup-none, Entries.none_below_head}
use Rattle.base_types.proofs.MapLemmas.{ascend-taken}
use Rattle.base_roles.specs.{declared.entities.UnbondingEntry.UnbondingEntry, Entries.{at, with, without}}
use Rattle.base_roles.specs.Orders.{pair_cmp}
use Rattle.rule_modules.specs.{EntrySlashes.unbonding_made, Sound.UnbondingIsSound}
use Rattle.rule_modules.specs.Unbondings.{UnbondingLists, entries_of, with_entries}
use Rattle.rule_modules.proofs.EntryLemmas.{at-put, at-taken, ascend-put, from_all, to_all}
use Rattle.rule_modules.proofs.{OrderLemmas.{pair_total, equal}, SoundLemmas.{exact_pair, either_some}}
use Rattle.mod_entries.specs.Lists.{list_at, with_list, AreFew}
use Rattle.mod_unbonding.specs.{Calls.AreSoundLists, Walked.Key}

-- ---- as lists by key

-- the entries that a delegator and an operator then have are those of their key
pub with_list-is : (key : Key) (l : List UnbondingEntry) (u : UnbondingLists) → with_list pair_cmp key l u ≡ with_entries key.0 key.1 l u
with_list-is key [] u = refl
with_list-is key (e ∷ es) u = refl

-- sound entries are few, and of at most so much
pub are_few : (u : UnbondingLists) → AreSoundLists u → AreFew pair_cmp unbonding_made u
are_few u h = record {
  ascend = h.1.ascend;
  some = h.1.some;
  most = h.1.most;
  initials = All-weaker (λ p. All (UnbondingIsSound h.0) p.1) (λ p. All (λ e. (unbonding_made e).initial ≤ 10 ^ 18) p.1)
      (λ p a. All-weaker (UnbondingIsSound h.0) (λ e. (unbonding_made e).initial ≤ 10 ^ 18) (λ e k. k.initial) p.1 a) u h.1.entries;
}

-- ---- what holds of all

still_there : {A : Type 0} (b : Bool) (x : A) (r : Option A) → cond b None r ≡ Some x → r ≡ Some x
still_there true x r e = absurd cc
still_there false x r e = e

module _ (P : Key × List UnbondingEntry → Type 0) (u : UnbondingLists) (in_order : IsStrictlySortedBy pair_cmp (keys_of u)) (h : All P u) where
  pub holds_at : (k : Key) (es : List UnbondingEntry) → at pair_cmp u k ≡ Some es → P (k, es)
  holds_at = from_all pair_cmp pair_total P u exact_pair h

  all-put : (k : Key) (l : List UnbondingEntry) → P (k, l) → All P (with pair_cmp u k l)
  all-put k l p = to_all pair_cmp pair_total P (with pair_cmp u k l) (ascend-put pair_cmp pair_total u k l in_order)
      (λ q es e. either q es (either_some (is_at (pair_cmp q) k) l es (at pair_cmp u q) (sym (at-put pair_cmp pair_total u k q l) ∙ e)))
    where
      either : (q : Key) (es : List UnbondingEntry) → ((is_at (pair_cmp q) k ≡ true) × (l ≡ es)) ⊎ ((is_at (pair_cmp q) k ≡ false) × (at pair_cmp u q ≡ Some es)) → P (q, es)
      either q es (inl s) = subst (λ x. P (x, es)) (sym (exact_pair q k (equal _ s.0))) (subst (λ x. P (k, x)) s.1 p)
      either q es (inr s) = holds_at q es s.1

  all-take : (k : Key) → All P (without pair_cmp u k)
  all-take k = to_all pair_cmp pair_total P (without pair_cmp u k) (ascend-taken pair_cmp (is_at (pair_cmp k)) u in_order)
      (λ q es e. holds_at q es (still_there (is_at (pair_cmp q) k) es (at pair_cmp u q) (sym (at-taken pair_cmp pair_total u k q in_order) ∙ e)))

  -- it holds of all once other entries stand under a key, where it holds of them, unless they are none
  pub all-entries : (delegator operator : List ℕ) (l : List UnbondingEntry) → (0 < length l → P ((delegator, operator), l)) → All P (with_entries delegator operator l u)
  all-entries delegator operator [] p = all-take (delegator, operator)
  all-entries delegator operator (e ∷ es) p = all-put (delegator, operator) (e ∷ es) (p (omega arith))

-- what holds of all, and of none, holds of the entries of a key
pub list-at : (P : List UnbondingEntry → Type 0) (u : UnbondingLists) → P [] → All (λ p. P p.1) u → (delegator operator : List ℕ) → P (entries_of u delegator operator)
list-at P u none h delegator operator = by (at pair_cmp u (delegator, operator)) refl
  where
    by : (r : Option (List UnbondingEntry)) → at pair_cmp u (delegator, operator) ≡ r → P (unwrap_or r [])
    by None e = none
    by (Some es) e = from_all pair_cmp pair_total (λ p. P p.1) u exact_pair h (delegator, operator) es e

-- the same of the entries themselves
pub all-at : (P : UnbondingEntry → Type 0) (u : UnbondingLists) → All (λ p. All P p.1) u → (delegator operator : List ℕ) → All P (entries_of u delegator operator)
all-at P u h delegator operator = list-at (All P) u (All-nil P) h delegator operator

-- ---- their order

pub ascend-entries : (delegator operator : List ℕ) (l : List UnbondingEntry) (u : UnbondingLists) → IsStrictlySortedBy pair_cmp (keys_of u) → IsStrictlySortedBy pair_cmp (keys_of (with_entries delegator operator l u))
ascend-entries delegator operator [] u s = ascend-taken pair_cmp (is_at (pair_cmp (delegator, operator))) u s
ascend-entries delegator operator (e ∷ es) u s = ascend-put pair_cmp pair_total u (delegator, operator) (e ∷ es) s

-- ---- their sums

module _ (f : List UnbondingEntry → ℕ) (z : f [] ≡ 0) where
  abbrev pub total : UnbondingLists → ℕ
  total u = sum (map f (values_of u))

  total-cons : (p : Key × List UnbondingEntry) (u : UnbondingLists) → total (p ∷ u) ≡ f p.1 + total u
  total-cons p u = sum_by-cons (λ (n : ℕ). n) (f p.1) (map f (values_of u))

  total-put : (k : Key) (l : List UnbondingEntry) (u : UnbondingLists) → IsStrictlySortedBy pair_cmp (keys_of u) → total (with pair_cmp u k l) + f (list_at pair_cmp u k) ≡ total u + f l
  unfolding IsStrictlySortedBy
  total-put k l [] s =
      let one = total-cons (k, l) [] in
      let none : total [] ≡ 0 = refl in
      let goal : total ((k, l) ∷ []) + f [] ≡ total [] + f l = omega (arith, z, one, none) in
      goal
  total-put k l (e ∷ es) s = by (pair_cmp k e.0) refl (total-put k l es s.1)
    where
      by : (r : Ordering) → pair_cmp k e.0 ≡ r → total (insert_entry pair_cmp es k l) + f (list_at pair_cmp es k) ≡ total es + f l
          → total (match_ordering r ((k, l) ∷ e ∷ es) ((e.0, l) ∷ es) (e ∷ insert_entry pair_cmp es k l)) + f (unwrap_or (cond (is_eq r) (Some e.1) (at pair_cmp es k)) []) ≡ total (e ∷ es) + f l
      by Less p later =
          let none : at pair_cmp es k ≡ None = lookup-none (is_at (pair_cmp k)) es (none_below_head pair_total k e es s p).1 in
          let zero : f (list_at pair_cmp es k) ≡ 0 = ap (λ o. f (unwrap_or o [])) none ∙ z in
          let one = total-cons (k, l) (e ∷ es) in
          let goal : total ((k, l) ∷ e ∷ es) + f (list_at pair_cmp es k) ≡ total (e ∷ es) + f l = omega (arith, zero, one) in
          goal
      by Equal p later =
          let one = total-cons (e.0, l) es in
          let two = total-cons e es in
          let goal : total ((e.0, l) ∷ es) + f e.1 ≡ total (e ∷ es) + f l = omega (arith, one, two) in
          goal
      by Greater p later =
          let one = total-cons e (insert_entry pair_cmp es k l) in
          let two = total-cons e es in
          let goal : total (e ∷ insert_entry pair_cmp es k l) + f (list_at pair_cmp es k) ≡ total (e ∷ es) + f l = omega (arith, one, two, later) in
          goal

  total-take : (k : Key) (u : UnbondingLists) → total (without pair_cmp u k) + f (list_at pair_cmp u k) ≡ total u
  total-take k [] = let none : total [] ≡ 0 = refl in let goal : total [] + f [] ≡ total [] = omega (arith, z, none) in goal
  total-take k (e ∷ es) = by (is_at (pair_cmp k) e.0) (total-take k es)
    where
      by : (b : Bool) → total (without pair_cmp es k) + f (list_at pair_cmp es k) ≡ total es
          → total (cond b es (e ∷ without pair_cmp es k)) + f (unwrap_or (cond b (Some e.1) (at pair_cmp es k)) []) ≡ total (e ∷ es)
      by true later = let two = total-cons e es in let goal : total es + f e.1 ≡ total (e ∷ es) = omega (arith, two) in goal
      by false later =
          let one = total-cons e (without pair_cmp es k) in
          let two = total-cons e es in
          let goal : total (e ∷ without pair_cmp es k) + f (list_at pair_cmp es k) ≡ total (e ∷ es) = omega (arith, one, two, later) in
          goal

  -- the sum once other entries stand under a key
  pub total-entries : (delegator operator : List ℕ) (l : List UnbondingEntry) (u : UnbondingLists) → IsStrictlySortedBy pair_cmp (keys_of u)
      → total (with_entries delegator operator l u) + f (entries_of u delegator operator) ≡ total u + f l
  total-entries delegator operator [] u s = let a = total-take (delegator, operator) u in omega (arith, a, z)
  total-entries delegator operator (e ∷ es) u s = total-put (delegator, operator) (e ∷ es) u s

  -- those of one key are no more than all
  pub total-within : (delegator operator : List ℕ) (u : UnbondingLists) → f (entries_of u delegator operator) ≤ total u
  total-within delegator operator u = let a = total-take (delegator, operator) u in omega (arith, a)
