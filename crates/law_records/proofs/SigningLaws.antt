-- The tests of signing records tell that they are sound, and that those stand which have to.
use Rattle.std.proofs.Common.{◌≡◌, ◌∙◌, ℕ, ◌+◌, ◌-◌, ◌%◌, ◌^◌, ◌≤◌, ◌<◌, Bool, true, false, List, [], ◌∷◌, ◌++◌, Option, Some, None, map, take, drop, length, get_or, refl, sym, ap, subst, inl, inr, arith, ◌⊎◌, ◌==◌, ◌&&◌, ◌||◌, min, nat_lt, nat_le, is_some, option_map, replicate, reverse, All, Contains, IsSome, Decides, length-append, take-append-drop}
use Rattle.std.specs.{BTreeMap.is_at, List.{list_all, Sorted.IsStrictlySortedBy}, Map.{keys_of, values_of}}
use Rattle.std.proofs.{Math.Nat.min-le_left, lemmas.Bool.Decides.{nat_tests, Decides-and, Decides-or, Decides-eqb}}
use Rattle.std.proofs.lemmas.List.{get_or-map, length-replicate, length-reverse}
use Rattle.std.proofs.lemmas.{List.Elements.{All-map, All-contains, All-weaker}, Map.Entries.length-values_of}
use Rattle.std.proofs.lemmas.Map.Made.{keys_of-map_values, lookup-map_values}
use Rattle.base_types.specs.Orders.{cons_cmp}
use Rattle.base_roles.specs.{declared.entities.Validator.Validator, Entries.at, Staked.{Staked, is_unbonded}}
use Rattle.rule_modules.specs.{Amounts.count_where, Sound.{SigningIsSound, WindowIsSound, AreRecorded}}
use Rattle.rule_modules.specs.Window.{signing_of}
use Rattle.store_records.specs.{declared.records.Signed.Signed, States.{votes_of, signing_in, window_of}}
use Rattle.store_soundness.specs.Signing.{is_recorded, are_recorded, is_signing_sound, are_signings_sound}
use Rattle.law_records.proofs.TestLemmas.{at_most, below, all_decides}

-- ---- the records that have to stand

abbrev Signings : Type 0
Signings = List (List ℕ × Signed)

mapped : {A B : Type 0} (f : A → B) (r : Option A) → is_some (option_map f r) ≡ is_some r
mapped f None = refl
mapped f (Some x) = refl

stands : (window : ℕ) (signings : Signings) (cons : List ℕ) → is_some (signing_of (window_of window signings) cons) ≡ is_some (at cons_cmp signings cons)
stands window signings cons = ap is_some (lookup-map_values (signing_in window) (is_at (cons_cmp cons)) signings) ∙ mapped (signing_in window) (at cons_cmp signings cons)

-- a validator is unbonded, or has a record
abbrev HasRecord : Signings → Validator → Type 0
HasRecord signings v = (is_unbonded v.status ≡ true) ⊎ (is_some (at cons_cmp signings v.cons) ≡ true)

one_decides : (signings : Signings) (v : Validator) → Decides (is_recorded signings v) (HasRecord signings v)
one_decides signings v = Decides-or (is_unbonded v.status) (is_some (at cons_cmp signings v.cons)) (λ t. t, λ t. t) (λ t. t, λ t. t)

all_decide : (signings : Signings) (vs : List (List ℕ × Validator)) → Decides (are_recorded vs signings) (All (λ e. HasRecord signings e.1) vs)
all_decide signings vs = all_decides (λ (e : List ℕ × Validator). is_recorded signings e.1) (λ e. HasRecord signings e.1) (λ e. one_decides signings e.1) vs

told : (s : Staked) (window : ℕ) (signings : Signings) → are_recorded s.validators signings ≡ true → AreRecorded s (window_of window signings)
told s window signings t v there bonded = by (All-contains (HasRecord signings) (values_of s.validators) v (All-map (HasRecord signings) (λ (e : List ℕ × Validator). e.1) s.validators ((all_decide signings s.validators).0 t)) there)
  where
    by : HasRecord signings v → IsSome (signing_of (window_of window signings) v.cons)
    by (inl unbonded) = absurd cc
    by (inr some) = stands window signings v.cons ∙ some

tested : (s : Staked) (window : ℕ) (signings : Signings) → AreRecorded s (window_of window signings) → are_recorded s.validators signings ≡ true
tested s window signings r = (all_decide signings s.validators).1 (λ k d lt. by k d lt (is_unbonded (get_or s.validators k d).1.status) refl)
  where
    there : (k : ℕ) (d : List ℕ × Validator) → k < length s.validators → Contains (values_of s.validators) (get_or s.validators k d).1
    there k d lt = (k, subst (λ n. k < n) (sym (length-values_of s.validators)) lt, get_or-map (λ (e : List ℕ × Validator). e.1) s.validators k d (get_or s.validators k d).1 lt)

    by : (k : ℕ) (d : List ℕ × Validator) → k < length s.validators → (b : Bool) → is_unbonded (get_or s.validators k d).1.status ≡ b → HasRecord signings (get_or s.validators k d).1
    by k d lt true e = inl e
    by k d lt false e = inr (sym (stands window signings (get_or s.validators k d).1.cons) ∙ r (get_or s.validators k d).1 (there k d lt) e)

pub recorded_decides : (s : Staked) (window : ℕ) (signings : Signings) → Decides (are_recorded s.validators signings) (AreRecorded s (window_of window signings))
recorded_decides s window signings = (told s window signings, tested s window signings)

-- ---- each record

-- what the test of a record tells
abbrev pub IsSigned : ℕ → ℕ → Signed → Type 0
IsSigned height window s = (((s.info.counted ≤ height) × (s.info.start < 2 ^ 63)) × (length s.ring ≡ min s.info.counted window)) × (count_where (λ missed. missed) s.ring ≡ s.info.missed)

pub signed_decides : (height window : ℕ) (s : Signed) → Decides (is_signing_sound height window s) (IsSigned height window s)
signed_decides height window s =
    let first = Decides-and (nat_le s.info.counted height) (nat_lt s.info.start (2 ^ 63)) (at_most s.info.counted height) (below s.info.start (2 ^ 63)) in
    let second = Decides-and (nat_le s.info.counted height && nat_lt s.info.start (2 ^ 63)) (length s.ring == min s.info.counted window) first (Decides-eqb (length s.ring) (min s.info.counted window)) in
    Decides-and (nat_le s.info.counted height && nat_lt s.info.start (2 ^ 63) && (length s.ring == min s.info.counted window)) (count_where (λ missed. missed) s.ring == s.info.missed)
    second (Decides-eqb (count_where (λ missed. missed) s.ring) s.info.missed)

-- a ring that is turned keeps its length
turned : (n : ℕ) (ring : List Bool) → length (drop n ring ++ take n ring) ≡ length ring
turned n ring =
    let whole = ap length (take-append-drop n ring) in
    let parts = length-append (take n ring) (drop n ring) in
    let swapped = length-append (drop n ring) (take n ring) in
    omega (arith, whole, parts, swapped)

-- so many votes stand as were counted
pub votes_length : (window : ℕ) (s : Signed) → length s.ring ≤ s.info.counted → length (votes_of window s) ≡ s.info.counted
votes_length window s within =
    let n = s.info.counted % window in
    let all = length-append (reverse (drop n s.ring ++ take n s.ring)) (replicate (s.info.counted - length s.ring) false) in
    let old = length-replicate (s.info.counted - length s.ring) false in
    let late = length-reverse (drop n s.ring ++ take n s.ring) ∙ turned n s.ring in
    omega (arith, all, old, late, within)

pub window_sound : (height window : ℕ) (signings : Signings) → IsStrictlySortedBy cons_cmp (keys_of signings) → are_signings_sound height window signings ≡ true → WindowIsSound height (window_of window signings)
window_sound height window signings ascend t = record {
  ascend = subst (IsStrictlySortedBy cons_cmp) (sym (keys_of-map_values (signing_in window) signings)) ascend;
  records = All-map (λ e. SigningIsSound height e.1) (λ (e : List ℕ × Signed). (e.0, signing_in window e.1)) signings
      (All-weaker (λ (e : List ℕ × Signed). IsSigned height window e.1) (λ e. SigningIsSound height (signing_in window e.1)) (λ e h. sound e.1 h) signings
      ((all_decides (λ (e : List ℕ × Signed). is_signing_sound height window e.1) (λ e. IsSigned height window e.1) (λ e. signed_decides height window e.1) signings).0 t));
}
  where
    sound : (s : Signed) → IsSigned height window s → SigningIsSound height (signing_in window s)
    sound s h = record {
      counted = subst (λ n. n ≤ height) (sym (votes_length window s (subst (λ n. n ≤ s.info.counted) (sym h.0.1) (min-le_left s.info.counted window)))) h.0.0.0;
      start = h.0.0.1;
    }
