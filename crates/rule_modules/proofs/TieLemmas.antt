-- How tests, rings, references and rewards tie to what the definitions say in words.
use Rattle.std.proofs.Common.{◌≡◌, ℕ, ◌+◌, ◌==◌, cond, Bool, true, List, [], ◌∷◌, ◌++◌, length, take, drop, reverse, ◌%◌, refl, sym, ◌∙◌, ap, arith, take-append-drop, ◌<◌, ◌&&◌, not, false, nat_lt, Any, ◌↔◌, bytes_eq, Decides, Result, Ok, Err, ◌^◌, if◌then◌else◌}
use Rattle.std.proofs.lemmas.{Grind.{common_steps, reverse_onto}, Bool.Decides.nat_tests}
use Rattle.std.proofs.lemmas.{List.Folds.{Any-from_list_any, list_any-from_Any}, Map.Text.is_eq-slice_cmp}
use Rattle.std.proofs.lemmas.Slice.Eq.{bytes_eq-Decides}
use Rattle.base_coins.specs.Coins.{coins_added, coins_taken, coins_mul_cut}
use Rattle.base_roles.specs.{declared.entities.Validator.Validator, Flow.{◌>>=◌, ◌>>◌, stop_if, stopping}}
use Rattle.base_roles.specs.declared.entities.{RedelegationEntry.RedelegationEntry, UnbondingEntry.UnbondingEntry}
use Rattle.base_roles.specs.declared.{params.Ctx.Ctx, refusal.Refusal.{Refusal, TheVariants.{TinyDelegation, Overflow}}}
use Rattle.base_roles.specs.{Orders.same_addr, Staked.is_unbonded}
use Rattle.rule_modules.specs.{Amounts.count_where, BondedSet.{IsInBondedSet, is_in_bonded_set}, Periods.earned}
use Rattle.rule_modules.specs.{Stakes.refusal_of_shares, Redelegations.{RedelegationLists, IsTransitive, is_transitive}}
use Rattle.rule_modules.specs.{Unbonding.{FallsBelowMinimum, falls_below_minimum}, Unbondings.{IsMature, is_mature}}
use Rattle.rule_modules.specs.Window.{Signing, IsDowntime, is_downtime, allowed_of, missed_of}
use Rattle.rule_modules.specs.Ties.{TestsDecide, SetIsDecided, RingCountsMisses, SameReward, ReferencesAfterEnd, ReferencesAfterStart, ReferencesAfterEvent}
use Rattle.base_decimals.specs.{Decimals.{trunc_of, add_of, sum_over}, declared.over.Over.Over}
use Rattle.base_shares.specs.{Shares.{value_even_of, issued_shares}, declared.fault.ShareFault.ShareFault}
use Rattle.base_shares.specs.declared.fault.ShareFault.TheVariants as share

-- the test of the bonded set is the relation
in_set : (reduction most : ℕ) (vs : List Validator) (v : Validator) → is_in_bonded_set reduction most vs v ≡ true → IsInBondedSet reduction most vs v
in_set reduction most vs v h = record { able = grind (arith, common_steps, nat_tests); among = grind (arith, common_steps, nat_tests) }

passes : (reduction most : ℕ) (vs : List Validator) (v : Validator) → IsInBondedSet reduction most vs v → is_in_bonded_set reduction most vs v ≡ true
passes reduction most vs v h = grind (arith, common_steps, nat_tests, h.able, h.among)

pub set_is_decided : SetIsDecided
set_is_decided reduction most vs v = (in_set reduction most vs v, passes reduction most vs v)

-- ---- other tests

and_parts : (s t : Bool) → s && t ≡ true → (s ≡ true) × (t ≡ true)
and_parts true t h = (refl, h)
and_parts false t h = absurd cc

and_both : (s t : Bool) → s ≡ true → t ≡ true → s && t ≡ true
and_both true t p q = q
and_both false t p q = absurd cc

not_parts : (s : Bool) → not s ≡ true → s ≡ false
not_parts true h = absurd cc
not_parts false h = refl

not_of : (s : Bool) → s ≡ false → not s ≡ true
not_of true h = absurd cc
not_of false h = refl

iff_of : {P : Type 0} (s t : Bool) → s ≡ t → Decides t P → s ≡ true ↔ P
iff_of s t e d = (λ h. d.0 (sym e ∙ h), λ p. e ∙ d.1 p)

same : (a b : List ℕ) → same_addr a b ≡ true ↔ a ≡ b
same a b = iff_of (same_addr a b) (bytes_eq a b) (is_eq-slice_cmp a b) (bytes_eq-Decides a b)

less : (a b : ℕ) → nat_lt a b ≡ true ↔ a < b
less a b = (λ h. grind (arith, nat_tests, h), λ h. grind (arith, nat_tests, h))

mature : (now : ℕ) (e : UnbondingEntry) → is_mature now e ≡ true ↔ IsMature now e
mature now e = (λ h. grind (arith, nat_tests, h), λ h. grind (arith, nat_tests, h))

any_with : {A : Type 0} (P Q : A → Type 0) (xs : List A) → ((x : A) → P x → Q x) → Any P xs → Any Q xs
any_with P Q xs f a = (a.0, a.1, a.2, a.3, f a.1 a.4)

transitive : (r : RedelegationLists) (delegator source : List ℕ) → is_transitive r delegator source ≡ true ↔ IsTransitive r delegator source
transitive r delegator source = (
  λ h. any_with (λ e. passes_both e ≡ true) (λ e. (e.0.0 ≡ delegator) × (e.0.2 ≡ source)) r (λ e k. let p : (same_addr e.0.0 delegator ≡ true) × (same_addr e.0.2 source ≡ true) = and_parts (same_addr e.0.0 delegator) (same_addr e.0.2 source) k in ((same e.0.0 delegator).0 p.0, (same e.0.2 source).0 p.1)) (Any-from_list_any passes_both r h),
  λ h. list_any-from_Any passes_both r (any_with (λ e. (e.0.0 ≡ delegator) × (e.0.2 ≡ source)) (λ e. passes_both e ≡ true) r (λ e k. and_both (same_addr e.0.0 delegator) (same_addr e.0.2 source) ((same e.0.0 delegator).1 k.0) ((same e.0.2 source).1 k.1)) h),
)
  where
    passes_both : (List ℕ × List ℕ × List ℕ) × List RedelegationEntry → Bool
    passes_both e = same_addr e.0.0 delegator && same_addr e.0.2 source

falls : (v : Validator) (delegator : List ℕ) (left : ℕ) → falls_below_minimum v delegator left ≡ true ↔ FallsBelowMinimum v delegator left
falls v delegator left =
    let n : ℕ = trunc_of (value_even_of v.tokens v.shares left) in (
      λ h. let p : (same_addr delegator v.operator && not v.jailed ≡ true) × (nat_lt n v.min_self ≡ true) = and_parts (same_addr delegator v.operator && not v.jailed) (nat_lt n v.min_self) h in
          let q : (same_addr delegator v.operator ≡ true) × (not v.jailed ≡ true) = and_parts (same_addr delegator v.operator) (not v.jailed) p.0 in
          ((same delegator v.operator).0 q.0, not_parts v.jailed q.1, (less n v.min_self).0 p.1),
      λ h. and_both (same_addr delegator v.operator && not v.jailed) (nat_lt n v.min_self) (and_both (same_addr delegator v.operator) (not v.jailed) ((same delegator v.operator).1 h.0) (not_of v.jailed h.1)) ((less n v.min_self).1 h.2),
    )

downtime : (c : Ctx) (s : Signing) (v : Validator) → is_downtime c s v ≡ true ↔ IsDowntime c s v
downtime c s v =
    let a : Bool = nat_lt (s.start + c.params.signed_blocks_window) c.height in
    let b : Bool = nat_lt (allowed_of c.params) (missed_of c.params.signed_blocks_window s.votes) in
    let u : Bool = is_unbonded v.status in (
      λ h. let p : (a && b ≡ true) × (not u ≡ true) = and_parts (a && b) (not u) h in
          let q : (a ≡ true) × (b ≡ true) = and_parts a b p.0 in
          record {
            window_over = (less (s.start + c.params.signed_blocks_window) c.height).0 q.0;
            too_many = (less (allowed_of c.params) (missed_of c.params.signed_blocks_window s.votes)).0 q.1;
            may_be_slashed = not_parts u p.1;
          },
      λ h. and_both (a && b) (not u) (and_both a b ((less (s.start + c.params.signed_blocks_window) c.height).1 h.window_over) ((less (allowed_of c.params) (missed_of c.params.signed_blocks_window s.votes)).1 h.too_many)) (not_of u h.may_be_slashed),
    )

abbrev after_issue : (b c : Bool) → Over → ℕ → ℕ → Result ℕ Refusal
after_issue b c over sum n = stopping Overflow (if b then Ok sum else Err over) >> (stop_if c TinyDelegation >> Ok n)

tiny_only : (b c : Bool) (over : Over) (sum n : ℕ) → after_issue b c over sum n ≡ Err TinyDelegation → c ≡ true
tiny_only true true over sum n h = refl
tiny_only true false over sum n h = absurd cc
tiny_only false c over sum n h = absurd cc

tiny_then : (b c : Bool) (over : Over) (sum n : ℕ) → b ≡ true → c ≡ true → after_issue b c over sum n ≡ Err TinyDelegation
tiny_then true true over sum n p q = refl
tiny_then true false over sum n p q = absurd cc
tiny_then false c over sum n p q = absurd cc

tiny_of : (x : ℕ) → x < 10 ^ 38 → (r : Result ℕ ShareFault) → (stopping refusal_of_shares r >>= λ issued. stopping Overflow (add_of x issued) >> (stop_if (issued == 0) TinyDelegation >> Ok issued)) ≡ Err TinyDelegation ↔ r ≡ Ok 0
tiny_of x l (Err share.RateInvalid) = (λ h. absurd cc, λ h. absurd cc)
tiny_of x l (Err share.NoTokens) = (λ h. absurd cc, λ h. absurd cc)
tiny_of x l (Err (share.Over over)) = (λ h. absurd cc, λ h. absurd cc)
tiny_of x l (Ok n) = (
  λ h. let z : n == 0 ≡ true = tiny_only (nat_lt (x + n) (10 ^ 38)) (n == 0) (sum_over x n) (x + n) n h in let e : n ≡ 0 = grind (arith, nat_tests, z) in ap Ok e,
  λ h. let e : n ≡ 0 = cc in tiny_then (nat_lt (x + n) (10 ^ 38)) (n == 0) (sum_over x n) (x + n) n (grind (arith, nat_tests, e, l)) (grind (arith, nat_tests, e)),
)

pub tests_decide : TestsDecide
tests_decide = record {
  mature = mature;
  transitive = transitive;
  falls = falls;
  downtime = downtime;
  tiny = λ v amount l. tiny_of v.shares l (issued_shares v.tokens v.shares amount);
}

-- ---- rings

count_of_join : {A : Type 0} (test : A → Bool) (xs ys : List A) → count_where test (xs ++ ys) ≡ count_where test xs + count_where test ys
count_of_join test [] ys = omega arith
count_of_join test (x ∷ xs) ys = omega (arith, count_of_join test xs ys)

count_of_turned : {A : Type 0} (test : A → Bool) (k : ℕ) (xs : List A) → count_where test (drop k xs ++ take k xs) ≡ count_where test xs
count_of_turned test k xs = omega (arith, count_of_join test (drop k xs) (take k xs), count_of_join test (take k xs) (drop k xs), ap (count_where test) (take-append-drop k xs))

count_of_reverse : {A : Type 0} (test : A → Bool) (xs : List A) → count_where test (reverse xs) ≡ count_where test xs
count_of_reverse test [] = refl
count_of_reverse test (x ∷ xs) = omega (arith, ap (count_where test) (reverse_onto xs x []), count_of_join test (reverse xs) (x ∷ []), count_of_reverse test xs)

pub ring_counts_misses : RingCountsMisses
ring_counts_misses window votes ring r =
    sym (count_of_turned (λ m. m) (length votes % window) ring) ∙ ap (count_where (λ m. m)) r ∙ count_of_reverse (λ m. m) (take window votes)

-- ---- rewards

pub same_reward : SameReward
same_reward f g [] total h = refl
same_reward f g (t ∷ ts) total h =
    let first : coins_mul_cut (coins_taken (f t.last) (f t.after)) t.stake ≡ coins_mul_cut (coins_taken (g t.last) (g t.after)) t.stake
    = λ i. coins_mul_cut (coins_taken (h.1 i) (h.0 i)) t.stake in
    ap (λ part. ◌>>=◌ part (λ p. ◌>>=◌ (coins_added total p) (λ sum. earned f ts sum))) first
    ∙ ap (λ next. ◌>>=◌ (coins_mul_cut (coins_taken (g t.last) (g t.after)) t.stake) (λ p. ◌>>=◌ (coins_added total p) next)) (λ i sum. same_reward f g ts sum h.2 i)

-- ---- references

abbrev bit : Bool → ℕ
bit b = cond b 1 0

same_suc : (a b : ℕ) → (a + 1 == b + 1) ≡ (a == b)
same_suc a b = grind (arith, nat_tests)

pub references_after_end : ReferencesAfterEnd
references_after_end p starts ratio q h =
    let e : bit (p.current + 1 == q + 1) ≡ bit (p.current == q) = ap bit (same_suc p.current q) in
    omega (arith, e)

pub references_after_start : ReferencesAfterStart
references_after_start p s starts q = omega arith

pub references_after_event : ReferencesAfterEvent
references_after_event p e starts q = omega (arith, count_of_join (λ x. x.period == q) p.events (e ∷ []))
