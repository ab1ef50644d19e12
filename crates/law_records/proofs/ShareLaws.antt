-- The tests of validators and delegations decide that they are sound together.
use Rattle.std.proofs.Common.{◌≡◌, ◌∙◌, ℕ, zero, suc, ◌+◌, ◌^◌, ◌≤◌, ◌<◌, Bool, true, false, cond, not, List, [], ◌∷◌, map, length, get_or, refl, sym, ap, subst, inl, inr, arith, ◌⊎◌, ◌==◌, ◌&&◌, ◌||◌, nat_lt, is_some, All, Contains, IsSome, Ordering, Less, Equal, Greater, Decides, is_eq, true≢false}
use Rattle.std.specs.{BTreeMap.is_at, Cmp.{eq_by_cmp_equiv, tied_itself}, List.{list_any, list_all, AllByRecursion}}
use Rattle.std.specs.{List.Sorted.IsStrictlySortedBy, Map.{keys_of, values_of}}
use Rattle.std.proofs.lemmas.Bool.Decides.{Decides-and, Decides-eqb}
use Rattle.std.proofs.lemmas.List.Elements.{All-nil, All-cons, All-contains, All-map, All-weaker, Contains-append_right, recursion_from_All, All-from_recursion}
use Rattle.std.proofs.lemmas.{List.Folds.list_any_none, Map.{Lookups.exact_bytes, Views.list_any-from_Contains}}
use Rattle.base_types.{specs.Orders.{addr_cmp, cons_cmp}, proofs.MapLemmas.equal}
use Rattle.base_coins.specs.Coins.{has_repeats}
use Rattle.base_roles.specs.{declared.entities.Validator.Validator, Entries.{at, sum_where}}
use Rattle.base_roles.specs.{Orders.{pair_cmp, same_addr}, Staked.{Staked, validator_at}}
use Rattle.rule_modules.specs.Sound.{delegated_shares, ValidatorIsSound, StakedIsSound}
use Rattle.rule_modules.proofs.OrderLemmas.{addr_total, cons_total}
use Rattle.store_soundness.specs.Ranges.{are_validators_sound}
use Rattle.store_soundness.specs.Shares.{shares_of, is_total, have_shares, is_delegation_sound, are_delegations_sound, are_shares_delegated, are_cons_distinct}
use Rattle.law_records.proofs.{RangeLaws.validators_decide, TestLemmas.{below, all_decides}}

abbrev Validators : Type 0
Validators = List (List ℕ × Validator)

abbrev Delegations : Type 0
Delegations = List ((List ℕ × List ℕ) × ℕ)

-- ---- shares

shares_alike : (ds : Delegations) (operator : List ℕ) → shares_of ds operator ≡ sum_where (λ key. same_addr key.0 operator) ds
shares_alike [] operator = refl
shares_alike (e ∷ es) operator =
    ap (λ b. cond b e.1 0 + shares_of es operator) ((eq_by_cmp_equiv addr_total).symm operator e.0.0)
    ∙ ap (λ n. cond (same_addr e.0.0 operator) e.1 0 + n) (shares_alike es operator)

-- shares below 10^38 are a total
abbrev IsTotal : Delegations → List ℕ × Validator → Type 0
IsTotal ds e = (e.1.shares < 10 ^ 38) × (shares_of ds e.0 ≡ e.1.shares)

totals_decide : (ds : Delegations) (vs : Validators) → Decides (have_shares (shares_of ds) vs) (All (IsTotal ds) vs)
totals_decide ds vs = all_decides (λ (e : List ℕ × Validator). is_total (shares_of ds e.0) e.1.shares) (IsTotal ds)
    (λ e. Decides-and (nat_lt e.1.shares (10 ^ 38)) (shares_of ds e.0 == e.1.shares) (below e.1.shares (10 ^ 38)) (Decides-eqb (shares_of ds e.0) e.1.shares)) vs

-- a delegation has shares, at a validator that stands
abbrev IsDelegation : Validators → (List ℕ × List ℕ) × ℕ → Type 0
IsDelegation vs e = (0 < e.1) × IsSome (at addr_cmp vs e.0.0)

delegations_decide : (vs : Validators) (ds : Delegations) → Decides (are_delegations_sound vs ds) (All (IsDelegation vs) ds)
delegations_decide vs ds = all_decides (λ (e : (List ℕ × List ℕ) × ℕ). is_delegation_sound vs e.0.0 e.1) (IsDelegation vs)
    (λ e. Decides-and (nat_lt 0 e.1) (is_some (at addr_cmp vs e.0.0)) (below 0 e.1) (λ t. t, λ t. t)) ds

-- ---- consensus addresses

-- consensus addresses tell validators apart
abbrev AreApart : Validators → Type 0
AreApart vs = (u v : Validator) → Contains (values_of vs) u → Contains (values_of vs) v → u.cons ≡ v.cons → u ≡ v

abbrev conses : Validators → List (List ℕ)
conses vs = map (λ e. e.1.cons) vs

first_or : (a b : Bool) → (a || b) ≡ false → a ≡ false
first_or true b h = h
first_or false b h = refl

second_or : (a b : Bool) → (a || b) ≡ false → b ≡ false
second_or true b h = absurd (true≢false h)
second_or false b h = h

cons_there : (vs : Validators) (v : Validator) → Contains (values_of vs) v → Contains (conses vs) v.cons
cons_there vs v c = All-contains (λ (x : Validator). Contains (conses vs) x.cons) (values_of vs) v
    (All-map (λ (x : Validator). Contains (conses vs) x.cons) (λ (e : List ℕ × Validator). e.1) vs (each vs)) c
  where
    each : (es : Validators) → All (λ e. Contains (conses es) e.1.cons) es
    each [] = All-nil (λ e. Contains (conses []) e.1.cons)
    each (e ∷ es) = All-cons (λ x. Contains (conses (e ∷ es)) x.1.cons) e es (0, omega arith, refl)
        (All-weaker (λ x. Contains (conses es) x.1.cons) (λ x. Contains (conses (e ∷ es)) x.1.cons) (λ x. Contains-append_right (e.1.cons ∷ []) (conses es) x.1.cons) es (each es))

-- one that stands in a list with one more is the first, or stands in the rest
split : {A : Type 0} (x : A) (xs : List A) (y : A) → Contains (x ∷ xs) y → (x ≡ y) ⊎ Contains xs y
split x xs y c = by c.0 c.1 c.2
  where
    by : (k : ℕ) → k < length (x ∷ xs) → get_or (x ∷ xs) k y ≡ y → (x ≡ y) ⊎ Contains xs y
    by zero lt same = inl same
    by (suc k) lt same = inr (k, omega (arith, lt), same)

none_below : (k : ℕ) → k < 0 → ⊥
none_below k lt = omega (arith, lt)

less_not_equal : Less ≡ Equal → ⊥
less_not_equal p = true≢false (sym (ap is_eq p))

-- nobody else has a consensus address that stands once
alone : (c : List ℕ) (vs : Validators) (v : Validator) → list_any (is_at (cons_cmp c)) (conses vs) ≡ false → Contains (values_of vs) v → c ≡ v.cons → ⊥
alone c vs v none there same =
    let found : list_any (is_at (cons_cmp v.cons)) (conses vs) ≡ true = list_any-from_Contains (eq_by_cmp_equiv cons_total) v.cons (conses vs) (cons_there vs v there) in
    true≢false (sym (ap (λ (x : List ℕ). list_any (is_at (cons_cmp x)) (conses vs)) same ∙ found) ∙ none)

apart_told : (vs : Validators) → has_repeats cons_cmp (conses vs) ≡ false → AreApart vs
apart_told [] t u v cu cv same = absurd (none_below cu.0 cu.1)
apart_told (e ∷ es) t u v cu cv same =
    by (λ c d. apart_told es (second_or (list_any (is_at (cons_cmp e.1.cons)) (conses es)) (has_repeats cons_cmp (conses es)) t) u v c d same)
    (split e.1 (values_of es) u cu) (split e.1 (values_of es) v cv)
  where
    new : list_any (is_at (cons_cmp e.1.cons)) (conses es) ≡ false
    new = first_or (list_any (is_at (cons_cmp e.1.cons)) (conses es)) (has_repeats cons_cmp (conses es)) t

    by : (Contains (values_of es) u → Contains (values_of es) v → u ≡ v) → (e.1 ≡ u) ⊎ Contains (values_of es) u → (e.1 ≡ v) ⊎ Contains (values_of es) v → u ≡ v
    by later (inl p) (inl q) = sym p ∙ q
    by later (inl p) (inr d) = absurd (alone e.1.cons es v new d (ap (λ (x : Validator). x.cons) p ∙ same))
    by later (inr c) (inl q) = absurd (alone e.1.cons es u new c (ap (λ (x : Validator). x.cons) q ∙ sym same))
    by later (inr c) (inr d) = later c d

apart_tested : (vs : Validators) → IsStrictlySortedBy addr_cmp (keys_of vs) → AllByRecursion (λ e. e.1.operator ≡ e.0) vs → AreApart vs → has_repeats cons_cmp (conses vs) ≡ false
unfolding IsStrictlySortedBy
apart_tested [] s a h = refl
apart_tested (e ∷ es) s a h =
    ap (λ b. b || has_repeats cons_cmp (conses es)) new
    ∙ apart_tested es s.1 a.1 (λ u v c d. h u v (Contains-append_right (e.1 ∷ []) (values_of es) u c) (Contains-append_right (e.1 ∷ []) (values_of es) v d))
  where
    -- another validator of the same consensus address would stand under the same operator
    other : (x : List ℕ × Validator) → addr_cmp e.0 x.0 ≡ Less → x.1.operator ≡ x.0 → Contains (values_of es) x.1 → (b : Bool) → is_at (cons_cmp e.1.cons) x.1.cons ≡ b → b ≡ false
    other x less own there false same = refl
    other x less own there true same =
        let one : e.1 ≡ x.1 = h e.1 x.1 (0, omega arith, refl) (Contains-append_right (e.1 ∷ []) (values_of es) x.1 there) (exact_bytes e.1.cons x.1.cons (equal (cons_cmp e.1.cons x.1.cons) same)) in
        let key : e.0 ≡ x.0 = sym a.0 ∙ ap (λ (v : Validator). v.operator) one ∙ own in
        let tied : addr_cmp e.0 x.0 ≡ Equal = ap (addr_cmp e.0) (sym key) ∙ tied_itself addr_total e.0 in
        absurd (less_not_equal (sym less ∙ tied))

    -- of each behind it: what its key, its operator and its place tell
    rest : (xs : Validators) → AllByRecursion (λ k. addr_cmp e.0 k ≡ Less) (keys_of xs) → AllByRecursion (λ x. x.1.operator ≡ x.0) xs → ((v : Validator) → Contains (values_of xs) v → Contains (values_of es) v)
        → AllByRecursion (λ c. is_at (cons_cmp e.1.cons) c ≡ false) (conses xs)
    rest [] below own within = tt
    rest (x ∷ xs) below own within = (
      other x below.0 own.0 (within x.1 (0, omega arith, refl)) (is_at (cons_cmp e.1.cons) x.1.cons) refl,
      rest xs below.1 own.1 (λ v c. within v (Contains-append_right (x.1 ∷ []) (values_of xs) v c)),
    )

    new : list_any (is_at (cons_cmp e.1.cons)) (conses es) ≡ false
    new = list_any_none (is_at (cons_cmp e.1.cons)) (conses es) (All-from_recursion (λ c. is_at (cons_cmp e.1.cons) c ≡ false) (conses es) (rest es s.0 a.1 (λ v c. c)))

not_told : (b : Bool) → not b ≡ true → b ≡ false
not_told true h = absurd (true≢false (sym h))
not_told false h = refl

-- ---- all together

staked_told : (height : ℕ) (s : Staked) → IsStrictlySortedBy addr_cmp (keys_of s.validators) → All (λ e. e.1.operator ≡ e.0) s.validators → IsStrictlySortedBy pair_cmp (keys_of s.delegations)
    → (All (λ e. ValidatorIsSound height e.1) s.validators × (All (IsTotal s.delegations) s.validators × All (IsDelegation s.validators) s.delegations)) × (are_cons_distinct s.validators ≡ true) → StakedIsSound height s
staked_told height s validators operators delegations t = record {
  validators_ascend = validators;
  delegations_ascend = delegations;
  operators = operators;
  validators = t.0.0;
  cons = apart_told s.validators (not_told (has_repeats cons_cmp (conses s.validators)) t.1);
  shares = All-weaker (IsTotal s.delegations) (λ e. e.1.shares ≡ delegated_shares s e.0) (λ e h. sym h.1 ∙ shares_alike s.delegations e.0) s.validators t.0.1.0;
  positive = λ k d lt. (t.0.1.1 k d lt).0;
  existing = λ k d lt. (t.0.1.1 k d lt).1;
}

staked_tested : (height : ℕ) (s : Staked) → All (λ e. e.1.shares < 10 ^ 38) s.validators → StakedIsSound height s
    → (All (λ e. ValidatorIsSound height e.1) s.validators × (All (IsTotal s.delegations) s.validators × All (IsDelegation s.validators) s.delegations)) × (are_cons_distinct s.validators ≡ true)
staked_tested height s shares sound = (
  (
    sound.validators,
    (λ k d lt. (shares k d lt, shares_alike s.delegations (get_or s.validators k d).0 ∙ sym (sound.shares k d lt)), λ k d lt. (sound.positive k d lt, sound.existing k d lt)),
  ),
  ap not (apart_tested s.validators sound.validators_ascend (recursion_from_All (λ e. e.1.operator ≡ e.0) s.validators sound.operators) sound.cons),
)

-- the tests of validators and delegations decide that they are sound
pub staked_decide : (height : ℕ) (s : Staked) → IsStrictlySortedBy addr_cmp (keys_of s.validators) → All (λ e. e.1.operator ≡ e.0) s.validators → IsStrictlySortedBy pair_cmp (keys_of s.delegations)
    → All (λ e. e.1.shares < 10 ^ 38) s.validators
    → Decides (are_validators_sound height s.validators && are_shares_delegated s.validators s.delegations && are_cons_distinct s.validators) (StakedIsSound height s)
staked_decide height s validators operators delegations shares =
    let sums = Decides-and (have_shares (shares_of s.delegations) s.validators) (are_delegations_sound s.validators s.delegations) (totals_decide s.delegations s.validators) (delegations_decide s.validators s.delegations) in
    let both = Decides-and (are_validators_sound height s.validators) (are_shares_delegated s.validators s.delegations) (validators_decide height s.validators) sums in
    let all = Decides-and (are_validators_sound height s.validators && are_shares_delegated s.validators s.delegations) (are_cons_distinct s.validators) both (λ t. t, λ t. t) in
    (λ t. staked_told height s validators operators delegations (all.0 t), λ sound. all.1 (staked_tested height s shares sound))
