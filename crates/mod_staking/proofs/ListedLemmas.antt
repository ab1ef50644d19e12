-- The three lists beside the table of validators, as marks are opened and closed and as a validator changes.
use Rattle.std.proofs.Common.{◌≡◌, ◌∙◌, ℕ, ◌+◌, ◌<◌, ◌≤◌, Bool, true, false, cond, List, [], ◌∷◌, ◌++◌, Option, Some, None, length, refl, sym, ap, subst, rules, map, Ordering, Less, Equal, Greater, nat_cmp}
use Rattle.std.specs.{BTreeMap.is_at, Cmp.{IsTotalOrder, on_total, then_total, Rules.comparing}}
use Rattle.std.specs.{List.Sorted.IsStrictlySortedBy, Map.keys_of, Ordering.ordering_then}
use Rattle.std.proofs.lemmas.{Cmp.nat_cmp_total, List.{map-append, length-map}}
use Rattle.std.proofs.lemmas.Map.Lookups.{exact_bytes, exact_unsigned}
use Rattle.base_types.{specs.Orders.addr_cmp, proofs.MapLemmas.{at-put, at-taken, ascend-put, ascend-taken}}
use Rattle.base_table.specs.Tabled.{Tabled, empty_table, with_mark, IsGoneBack, IsForgotten}
use Rattle.base_roles.specs.{declared.entities.Validator.Validator, Entries.at, Orders.same_addr, Staked.is_bonded}
use Rattle.rule_modules.{specs.{BondedSet.{is_able, power_of}, Stakes.is_unbonding}, proofs.OrderLemmas.addr_total}
use Rattle.mod_staking.specs.declared.{places.Standing.Standing, lists.Lists.Lists}
use Rattle.mod_staking.specs.Listed.{Validators, with_or_without}
use Rattle.mod_staking.specs.Places.{standing, standing_cmp, time_cmp, power_place, bonded_place, maturing_place, IsPlaced, place_in, moved_place, operators_in_order, IsListed, AreListed, AreMoved, HaveMarksOf}
use Rattle.mod_staking.{specs.Registered.AreKeyed, proofs.IndexLemmas.{keyed-put, keyed-removed}}
use Rattle.mod_staking.proofs.PlaceLemmas.{operators-moved}

-- ---- the orders

both_equal : (r s : Ordering) → ordering_then r s ≡ Equal → (r ≡ Equal) × (s ≡ Equal)
both_equal Less s e = absurd cc
both_equal Equal s e = (refl, e)
both_equal Greater s e = absurd cc

pub some_if : {A : Type 0} (b : Bool) (x p : A) → cond b (Some x) None ≡ Some p → x ≡ p
some_if true x p e = cc
some_if false x p e = absurd cc

pub standing_total : IsTotalOrder standing_cmp
standing_total = search (comparing, rules)

pub time_total : IsTotalOrder time_cmp
time_total = then_total (on_total (λ (t : ℕ × List ℕ). t.0) nat_cmp_total) (on_total (λ (t : ℕ × List ℕ). t.1) addr_total)

pub standing_exact : (p q : Standing) → standing_cmp p q ≡ Equal → p ≡ q
standing_exact p q e =
    let r = both_equal (nat_cmp q.power p.power) (addr_cmp p.operator q.operator) e in
    let power : p.power ≡ q.power = sym (exact_unsigned q.power p.power r.0) in
    let operator : p.operator ≡ q.operator = exact_bytes p.operator q.operator r.1 in
    λ i. record { power = power i; operator = operator i }

time_exact : (p q : ℕ × List ℕ) → time_cmp p q ≡ Equal → p ≡ q
time_exact p q e =
    let r = both_equal (nat_cmp p.0 q.0) (addr_cmp p.1 q.1) e in
    let time = exact_unsigned p.0 q.0 r.0 in
    let operator = exact_bytes p.1 q.1 r.1 in
    λ i. (time i, operator i)

-- the operator is that of the place
power_own : (reduction : ℕ) (v : Validator) (p : Standing) → power_place reduction v ≡ Some p → v.operator ≡ p.operator
power_own reduction v p e = ap (λ s. s.operator) (some_if (is_able reduction v) (standing (power_of reduction v, v.operator)) p e)

bonded_own : (reduction : ℕ) (v : Validator) (p : List ℕ) → bonded_place reduction v ≡ Some p → v.operator ≡ p
bonded_own reduction v p e = some_if (is_bonded v.status) v.operator p e

maturing_own : (reduction : ℕ) (v : Validator) (p : ℕ × List ℕ) → maturing_place reduction v ≡ Some p → v.operator ≡ p.1
maturing_own reduction v p e = ap (λ t. t.1) (some_if (is_unbonding v.status) (v.unbonding_time, v.operator) p e)

pub power_placed : IsPlaced standing_cmp power_place
power_placed = record { exact = standing_exact; apart = λ reduction v w p e f. power_own reduction v p e ∙ sym (power_own reduction w p f) }

pub bonded_placed : IsPlaced addr_cmp bonded_place
bonded_placed = record { exact = exact_bytes; apart = λ reduction v w p e f. bonded_own reduction v p e ∙ sym (bonded_own reduction w p f) }

pub maturing_placed : IsPlaced time_cmp maturing_place
maturing_placed = record { exact = time_exact; apart = λ reduction v w p e f. maturing_own reduction v p e ∙ sym (maturing_own reduction w p f) }

-- ---- marks

-- of two lists that end alike, all before the end is alike
pub last_apart : {A : Type 0} (xs ys : List A) (x y : A) → xs ++ x ∷ [] ≡ ys ++ y ∷ [] → (xs ≡ ys) × (x ≡ y)
last_apart [] [] x y e = let one : x ≡ y = cc in (refl, one)
last_apart [] (b ∷ []) x y e = absurd cc
last_apart [] (b ∷ c ∷ ys) x y e = absurd cc
last_apart (a ∷ []) [] x y e = absurd cc
last_apart (a ∷ b ∷ xs) [] x y e = absurd cc
last_apart (a ∷ xs) (b ∷ ys) x y e =
    let first : a ≡ b = cc in
    let rest : xs ++ x ∷ [] ≡ ys ++ y ∷ [] = cc in
    let r = last_apart xs ys x y rest in
    ((λ i. first i ∷ r.0 i), r.1)

module _ {K : Type 0} (cmp : K → K → Ordering) (place_of : Validator → Option K) where
  abbrev of : Validators → List (K × List ℕ)
  of es = operators_in_order cmp place_of es

  abbrev Is : Tabled (List ℕ) Validator → Tabled K (List ℕ) → Type 0
  Is records list = IsListed cmp place_of records list

  module _ (records records2 : Tabled (List ℕ) Validator) (list list2 : Tabled K (List ℕ)) (h : Is records list) where
    listed-with : records2.marks ≡ records.marks → list2.marks ≡ list.marks → list2.entries ≡ of records2.entries → Is records2 list2
    listed-with m n e = record { entries = e; marks = n ∙ h.marks ∙ ap (map of) (sym m) }

-- ---- a change

-- what stands once a validator is written under an operator, or none
pub written_at : (es : Validators) (operator x : List ℕ) (now : Option Validator) → IsStrictlySortedBy addr_cmp (keys_of es) → at addr_cmp (with_or_without operator now es) x ≡ cond (same_addr x operator) now (at addr_cmp es x)
written_at es operator x None s = at-taken addr_cmp addr_total es operator x s
written_at es operator x (Some v) s = at-put addr_cmp addr_total es operator x v

written_ascend : (es : Validators) (operator : List ℕ) (now : Option Validator) → IsStrictlySortedBy addr_cmp (keys_of es) → IsStrictlySortedBy addr_cmp (keys_of (with_or_without operator now es))
written_ascend es operator None s = ascend-taken addr_cmp (is_at (addr_cmp operator)) es s
written_ascend es operator (Some v) s = ascend-put addr_cmp addr_total es operator v s

written_keyed : (es : Validators) (operator : List ℕ) (now : Option Validator) → ((v : Validator) → now ≡ Some v → v.operator ≡ operator) → AreKeyed es → AreKeyed (with_or_without operator now es)
written_keyed es operator None own k = keyed-removed es operator k
written_keyed es operator (Some v) own k = subst (λ o. AreKeyed (with_or_without o (Some v) es)) (own v refl) (keyed-put es v k)

module _ (n : ℕ) (records records2 : Tabled (List ℕ) Validator) (lists lists2 : Lists) (h : AreListed n records lists) (operator : List ℕ) (now : Option Validator)
    (own : (v : Validator) → now ≡ Some v → v.operator ≡ operator) (s : IsStrictlySortedBy addr_cmp (keys_of records.entries)) (k : AreKeyed records.entries)
    (written : records2.entries ≡ with_or_without operator now records.entries) where
  abbrev es : Validators
  es = records.entries

  moved_of : {K : Type 0} (cmp : K → K → Ordering) (o : IsTotalOrder cmp) (place_of : ℕ → Validator → Option K) (placed : IsPlaced cmp place_of) (old new : List (K × List ℕ))
      → old ≡ operators_in_order cmp (place_of n) es → new ≡ moved_place cmp (place_in cmp (place_of n) (at addr_cmp es operator)) (place_in cmp (place_of n) now) operator old
      → new ≡ operators_in_order cmp (place_of n) records2.entries
  moved_of cmp o place_of placed old new e f =
      f ∙ ap (moved_place cmp (place_in cmp (place_of n) (at addr_cmp es operator)) (place_in cmp (place_of n) now) operator) e
      ∙ sym (operators-moved cmp o placed.exact (place_of n) (placed.apart n) es (with_or_without operator now es) operator now s (written_ascend es operator now s) k (written_keyed es operator now own k)
      (λ x. written_at es operator x now s))
      ∙ ap (operators_in_order cmp (place_of n)) (sym written)

  pub all_listed-moved : AreMoved n (at addr_cmp records.entries operator) now operator lists lists2 → records2.marks ≡ records.marks → HaveMarksOf lists lists2 → AreListed n records2 lists2
  all_listed-moved m e q = record {
    some = h.some;
    by_power = listed-with standing_cmp (power_place n) records records2 lists.by_power lists2.by_power h.by_power e q.by_power
        (moved_of standing_cmp standing_total power_place power_placed lists.by_power.entries lists2.by_power.entries h.by_power.entries m.by_power);
    bonded = listed-with addr_cmp (bonded_place n) records records2 lists.bonded lists2.bonded h.bonded e q.bonded
        (moved_of addr_cmp addr_total bonded_place bonded_placed lists.bonded.entries lists2.bonded.entries h.bonded.entries m.bonded);
    maturing = listed-with time_cmp (maturing_place n) records records2 lists.maturing lists2.maturing h.maturing e q.maturing
        (moved_of time_cmp time_total maturing_place maturing_placed lists.maturing.entries lists2.maturing.entries h.maturing.entries m.maturing);
  }

-- a list over an open mark, once an operator moved in it and the mark is closed
through : {K : Type 0} (cmp : K → K → Ordering) (from to : Option K) (operator : List ℕ) (l m w f : Tabled K (List ℕ)) → m ≡ with_mark l → w.entries ≡ moved_place cmp from to operator m.entries → w.marks ≡ m.marks → IsForgotten w f
    → (f.entries ≡ moved_place cmp from to operator l.entries) × (f.marks ≡ l.marks)
through cmp from to operator l m w f e g n q = (
  ap (λ t. t.entries) q.rest ∙ g ∙ ap (λ t. moved_place cmp from to operator t.entries) e,
  (last_apart f.marks l.marks q.closed.0 l.entries (q.closed.1 ∙ n ∙ ap (λ t. t.marks) e)).0,
)

-- the same of the three lists
pub moved_through : (n : ℕ) (was now : Option Validator) (operator : List ℕ) (l m w f : Lists) → m.by_power ≡ with_mark l.by_power → m.bonded ≡ with_mark l.bonded → m.maturing ≡ with_mark l.maturing → AreMoved n was now operator m w → HaveMarksOf m w
    → IsForgotten w.by_power f.by_power → IsForgotten w.bonded f.bonded → IsForgotten w.maturing f.maturing → AreMoved n was now operator l f × HaveMarksOf l f
moved_through n was now operator l m w f p b t moved marks fp fb ft =
    let x = through standing_cmp (place_in standing_cmp (power_place n) was) (place_in standing_cmp (power_place n) now) operator l.by_power m.by_power w.by_power f.by_power p moved.by_power marks.by_power fp in
    let y = through addr_cmp (place_in addr_cmp (bonded_place n) was) (place_in addr_cmp (bonded_place n) now) operator l.bonded m.bonded w.bonded f.bonded b moved.bonded marks.bonded fb in
    let z = through time_cmp (place_in time_cmp (maturing_place n) was) (place_in time_cmp (maturing_place n) now) operator l.maturing m.maturing w.maturing f.maturing t moved.maturing marks.maturing ft in
    (record { by_power = x.0; bonded = y.0; maturing = z.0 }, record { by_power = x.1; bonded = y.1; maturing = z.1 })
