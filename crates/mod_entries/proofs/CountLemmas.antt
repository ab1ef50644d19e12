-- What a slash counts, entry by entry and key by key.
use Rattle.std.proofs.Common.{◌≡◌, ◌∙◌, ℕ, ◌+◌, ◌^◌, ◌<◌, ◌≤◌, ◌++◌, Bool, true, false, cond, List, [], ◌∷◌, Option, Some, None, drop, get_or, add-one, drop-cons, append-nil, append_assoc, length, refl, sym, ap, subst, arith, inl, inr, suc, zero, map, filter, sum, All, Ordering}
use Rattle.std.specs.{Cmp.IsTotalOrder, List.{AllByRecursion, Sorted.IsStrictlySortedBy}, Map.keys_of}
use Rattle.std.proofs.{Math.Nat.div-le_of_le-mul, lemmas.{Nat.mul-le, List.Elements.recursion_from_All}}
use Rattle.std.proofs.lemmas.List.Sums.{sum_by-cons}
use Rattle.base_table.specs.Tabled.{entry_above}
use Rattle.base_roles.specs.Orders.{same_addr}
use Rattle.base_records.proofs.{MemberLemmas.Member, WalkLemmas.{left_of, walk-end, walk-more}}
use Rattle.rule_modules.specs.EntrySlashes.{Made, is_hit, part_of, counted, counted_of}
use Rattle.mod_entries.specs.Slashed.{all_counted}

module _ {E : Type 0} (made : E → Made) (infraction factor now : ℕ) where
  pub counted-cons : (e : E) (es : List E)
      → counted_of infraction factor now (map made (e ∷ es)) ≡ cond (is_hit infraction now (made e).created (made e).completes) (part_of factor (made e).initial) 0 + counted_of infraction factor now (map made es)
  counted-cons e es = by (is_hit infraction now (made e).created (made e).completes)
    where
      rest : List Made
      rest = filter (λ (x : Made). is_hit infraction now x.created x.completes) (map made es)

      by : (b : Bool) → sum (map (λ (x : Made). part_of factor x.initial) (cond b (made e ∷ rest) rest)) ≡ cond b (part_of factor (made e).initial) 0 + sum (map (λ (x : Made). part_of factor x.initial) rest)
      by true = sum_by-cons (λ (n : ℕ). n) (part_of factor (made e).initial) (map (λ (x : Made). part_of factor x.initial) rest)
      by false = omega arith

  pub all_counted-cons : {K : Type 0} (source : K → List ℕ) (operator : List ℕ) (p : K × List E) (u : List (K × List E))
      → all_counted source made operator infraction factor now (p ∷ u) ≡ cond (same_addr (source p.0) operator) (counted_of infraction factor now (map made p.1)) 0 + all_counted source made operator infraction factor now u
  all_counted-cons {K} source operator p u = by (same_addr (source p.0) operator)
    where
      of_key : K × List E → ℕ
      of_key x = counted_of infraction factor now (map made x.1)

      rest : List (K × List E)
      rest = filter (λ (x : K × List E). same_addr (source x.0) operator) u

      by : (b : Bool) → sum (map of_key (cond b (p ∷ rest) rest)) ≡ cond b (of_key p) 0 + sum (map of_key rest)
      by true = sum_by-cons (λ (n : ℕ). n) (of_key p) (map of_key rest)
      by false = omega arith

-- a sum that is cut at each step is cut as the whole is
pub counted-next : (s x rest : ℕ) → counted (counted (s + x) + rest) ≡ counted (s + (x + rest))
counted-next s x rest = omega arith

pub part_few : (factor initial : ℕ) → factor ≤ 10 ^ 18 → initial ≤ 10 ^ 18 → part_of factor initial ≤ 10 ^ 18
part_few factor initial p q = div-le_of_le-mul (10 ^ 18) (mul-le initial factor (10 ^ 18) (10 ^ 18) q p)

-- ---- walking a list

-- what is left from a place on, and at the end
pub next_of : {A : Type 0} (xs : List A) (i : ℕ) (x : A) → i < length xs → x ≡ get_or xs i x → drop i xs ≡ x ∷ drop (i + 1) xs
next_of xs i x lt is = rw (add-one) (drop-cons xs i x lt) ∙ ap (λ y. y ∷ drop (i + 1) xs) (sym is)

pub drop_end : {A : Type 0} (xs : List A) (i : ℕ) → length xs ≤ i → drop i xs ≡ []
drop_end [] zero h = refl
drop_end [] (suc i) h = refl
drop_end (x ∷ xs) zero h = absurd (omega (arith, h))
drop_end (x ∷ xs) (suc i) h = let less : length xs ≤ i = omega (arith, h) in drop_end xs i less

pub counted-step : {E : Type 0} (made : E → Made) (infraction factor now : ℕ) (es : List E) (i : ℕ) (e : E) → i < length es → e ≡ get_or es i e → (sum next : ℕ)
    → next ≡ sum + cond (is_hit infraction now (made e).created (made e).completes) (part_of factor (made e).initial) 0
    → sum + counted_of infraction factor now (map made (drop i es)) ≡ counted_of infraction factor now (map made es)
    → next + counted_of infraction factor now (map made (drop (i + 1) es)) ≡ counted_of infraction factor now (map made es)
counted-step made infraction factor now es i e less is sum next n told =
    let c = ap (λ l. counted_of infraction factor now (map made l)) (next_of es i e less is) ∙ counted-cons made infraction factor now e (drop (i + 1) es) in
    omega (arith, n, told, c)

-- ---- walking a table

pub one_step : (b : Bool) → cond b 1 0 ≤ 1
one_step true = omega arith
one_step false = omega arith

pub filter_member : {A : Type 0} (p : A → Bool) (xs : List A) (x : A) → Member (filter p xs) x → Member xs x
filter_member p [] x m = absurd m
filter_member p (y ∷ xs) x m = by (p y) (filter_member p xs x) m
  where
    by : (b : Bool) → (Member (filter p xs) x → Member xs x) → Member (cond b (y ∷ filter p xs) (filter p xs)) x → Member (y ∷ xs) x
    by true more (inl e) = inl e
    by true more (inr n) = inr (more n)
    by false more n = inr (more n)

pub filter_passes : {A : Type 0} (p : A → Bool) (xs : List A) (x : A) → Member (filter p xs) x → p x ≡ true
filter_passes p [] x m = absurd m
filter_passes p (y ∷ xs) x m = by (p y) refl (filter_passes p xs x) m
  where
    by : (b : Bool) → p y ≡ b → (Member (filter p xs) x → p x ≡ true) → Member (cond b (y ∷ filter p xs) (filter p xs)) x → p x ≡ true
    by true q more (inl e) = ap p (sym e) ∙ q
    by true q more (inr n) = more n
    by false q more n = more n

pub all-passes : {A : Type 0} (p : A → Bool) (xs : List A) → AllByRecursion (λ x. p x ≡ true) (filter p xs)
all-passes p [] = tt
all-passes {A} p (x ∷ xs) = by (p x) refl (all-passes p xs)
  where
    by : (b : Bool) → p x ≡ b → AllByRecursion (λ (y : A). p y ≡ true) (filter p xs) → AllByRecursion (λ (y : A). p y ≡ true) (cond b (x ∷ filter p xs) (filter p xs))
    by true q more = (q, more)
    by false q more = more

pub of_member : {A : Type 0} (P : A → Type 0) (xs : List A) → AllByRecursion P xs → (x : A) → Member xs x → P x
of_member P [] h x m = absurd m
of_member P (y ∷ xs) h x (inl e) = subst P e h.0
of_member P (y ∷ xs) h x (inr m) = of_member P xs h.1 x m

module _ {K E : Type 0} (cmp : K → K → Ordering) (total : IsTotalOrder cmp) (u : List (K × List E)) (s : IsStrictlySortedBy cmp (keys_of u)) (after : Option K) where
  abbrev left_at : Option K → List (K × List E)
  left_at x = left_of cmp u x

  left_member : (x : Option K) (e : K × List E) → Member (left_at x) e → Member u e
  left_member None e m = m
  left_member (Some k) e m = filter_member _ u e m

  -- at the end all keys are told
  pub keys-end : (ks all : List K) → entry_above cmp u after ≡ None → ks ++ keys_of (left_at after) ≡ all → ks ≡ all
  keys-end ks all none told = sym (append-nil ks) ∙ ap (λ l. ks ++ keys_of l) (sym (walk-end cmp u after none)) ∙ told

  module _ (e : K × List E) (f : entry_above cmp u after ≡ Some e) where
    pub left_is : left_at after ≡ e ∷ left_at (Some e.0)
    left_is = walk-more cmp total u after e s f

    pub where-shorter : length (left_at (Some e.0)) < length (left_at after)
    where-shorter = let n = ap length left_is in omega (arith, n)

    -- its key is told next
    pub keys-next : (ks next all : List K) → ks ++ keys_of (left_at after) ≡ all → next ≡ ks ++ e.0 ∷ [] → next ++ keys_of (left_at (Some e.0)) ≡ all
    keys-next ks next all told n =
        ap (λ l. l ++ keys_of (left_at (Some e.0))) n ∙ append_assoc ks (e.0 ∷ []) (keys_of (left_at (Some e.0)))
        ∙ ap (λ l. ks ++ keys_of l) (sym left_is) ∙ told

    -- a step of the walk goes from what is left
    pub walk-cost : (steps next bound : ℕ) → next ≤ steps + 1 → steps + length (left_at after) ≤ bound → next + length (left_at (Some e.0)) ≤ bound
    walk-cost steps next bound one h = let n = ap length left_is in omega (arith, n, one, h)

    pub count-next : (source : K → List ℕ) (made : E → Made) (operator : List ℕ) (infraction factor now sum next all : ℕ) → same_addr (source e.0) operator ≡ true
        → counted (sum + all_counted source made operator infraction factor now (left_at after)) ≡ all
        → next ≡ counted (sum + counted_of infraction factor now (map made e.1))
        → counted (next + all_counted source made operator infraction factor now (left_at (Some e.0))) ≡ all
    count-next source made operator infraction factor now sum next all own told n =
        let rest = all_counted source made operator infraction factor now (left_at (Some e.0)) in
        ap (λ x. counted (x + rest)) n
        ∙ counted-next sum (counted_of infraction factor now (map made e.1)) rest
        ∙ ap (λ x. counted (sum + x))
        (sym (ap (all_counted source made operator infraction factor now) left_is ∙ all_counted-cons made infraction factor now source operator e (left_at (Some e.0))
        ∙ ap (λ b. cond b (counted_of infraction factor now (map made e.1)) 0 + rest) own))
        ∙ told

    -- it is one of the entries
    pub next-member : Member u e
    next-member = left_member after e (subst (λ l. Member l e) (sym left_is) (inl refl))

    -- what holds of all entries holds of that one
    pub all-left : (P : K × List E → Type 0) → All P u → P e
    all-left P h = of_member P u (recursion_from_All P u h) e next-member
