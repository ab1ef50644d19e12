-- Sound validators and delegations, said of each operator and each delegation, and how they stay so as validators join, take
-- the place of one another and are delegated to.
use Rattle.std.proofs.Common.{◌≡◌, ◌∙◌, ℕ, ◌+◌, ◌<◌, ◌≤◌, ◌==◌, Bool, true, false, cond, List, [], ◌∷◌, Option, Some, None, refl, sym, ap, subst, arith, inl, inr, ◌&&◌, ◌⊎◌, All, Contains, IsSome, is_some, Equal}
use Rattle.std.specs.{BTreeMap.is_at, List.Sorted.IsStrictlySortedBy, Map.{keys_of, values_of}}
use Rattle.std.proofs.lemmas.Bool.Decides.{nat_tests}
use Rattle.std.proofs.lemmas.List.Elements.{All-head, All-tail, All-weaker, All-map, All-contains}
use Rattle.std.proofs.lemmas.Map.{Lookups.{exact_bytes, exact_pairs}, Made.Contains-values_of}
use Rattle.std.proofs.lemmas.Map.Views.{Contains-from_lookup}
use Rattle.base_types.specs.Orders.{addr_cmp}
use Rattle.base_roles.specs.declared.entities.Validator.{Validator}
use Rattle.base_roles.specs.Entries.{at, with, without, number_at, with_number, sum_where}
use Rattle.base_roles.specs.{Orders.{pair_cmp, same_addr}, Staked.{Staked, validator_at, put_validator}}
use Rattle.base_roles.proofs.EntryLemmas.{ascend-after, sum-after, number-within}
use Rattle.rule_modules.specs.Sound.{StakedIsSound, ValidatorIsSound, delegated_shares}
use Rattle.rule_modules.proofs.EntryLemmas.{at-put, at-taken, ascend-put, from_all, to_all}
use Rattle.rule_modules.proofs.OrderLemmas.{addr_total, pair_total, same_is, same_itself, same_back, pair_found}

-- shares by operator and delegator
abbrev pub Delegations : Type 0
Delegations = List ((List ℕ × List ℕ) × ℕ)

pub exact_addr : (a b : List ℕ) → addr_cmp a b ≡ Equal → a ≡ b
exact_addr a b h = exact_bytes a b h

pub exact_pair : (a b : List ℕ × List ℕ) → pair_cmp a b ≡ Equal → a ≡ b
exact_pair a b h = exact_pairs addr_cmp addr_cmp exact_bytes exact_bytes a b h

some_is : {A : Type 0} (a b : A) → Some a ≡ Some b → a ≡ b
some_is a b h = cc

-- the same as `StakedIsSound`, of each operator and each delegation
pub record IsSoundAt (height : ℕ) (s : Staked) : Type 0 where
  pub validators_ascend : IsStrictlySortedBy addr_cmp (keys_of s.validators)
  pub delegations_ascend : IsStrictlySortedBy pair_cmp (keys_of s.delegations)
  pub operators : (o : List ℕ) (v : Validator) → validator_at s o ≡ Some v → v.operator ≡ o
  pub validators : (o : List ℕ) (v : Validator) → validator_at s o ≡ Some v → ValidatorIsSound height v
  pub cons : (o p : List ℕ) (u v : Validator) → validator_at s o ≡ Some u → validator_at s p ≡ Some v → u.cons ≡ v.cons → o ≡ p
  pub shares : (o : List ℕ) (v : Validator) → validator_at s o ≡ Some v → v.shares ≡ delegated_shares s o
  pub positive : (k : List ℕ × List ℕ) (n : ℕ) → at pair_cmp s.delegations k ≡ Some n → 0 < n
  pub existing : (k : List ℕ × List ℕ) (n : ℕ) → at pair_cmp s.delegations k ≡ Some n → IsSome (validator_at s k.0)

-- a validator that stands is among the values
values_contain : (vs : List (List ℕ × Validator)) (o : List ℕ) (u : Validator) → at addr_cmp vs o ≡ Some u → Contains (values_of vs) u
values_contain vs o u e = Contains-values_of vs o u (Contains-from_lookup (λ x y h. same_is x y h) o u vs e)

pub to_points : (height : ℕ) (s : Staked) → StakedIsSound height s → IsSoundAt height s
to_points height s h =
    let vs = s.validators in
    let in_values : (o : List ℕ) (u : Validator) → validator_at s o ≡ Some u → Contains (values_of vs) u = λ o u e. values_contain vs o u e in
    let operator : (o : List ℕ) (u : Validator) → validator_at s o ≡ Some u → u.operator ≡ o = from_all addr_cmp addr_total (λ e. e.1.operator ≡ e.0) vs exact_addr h.operators in
    record {
      validators_ascend = h.validators_ascend;
      delegations_ascend = h.delegations_ascend;
      operators = operator;
      validators = from_all addr_cmp addr_total (λ e. ValidatorIsSound height e.1) vs exact_addr h.validators;
      cons = λ o p u v e f g. sym (operator o u e) ∙ ap (λ x. x.operator) (h.cons u v (in_values o u e) (in_values p v f) g) ∙ operator p v f;
      shares = from_all addr_cmp addr_total (λ e. e.1.shares ≡ delegated_shares s e.0) vs exact_addr h.shares;
      positive = from_all pair_cmp pair_total (λ e. 0 < e.1) s.delegations exact_pair h.positive;
      existing = from_all pair_cmp pair_total (λ e. IsSome (validator_at s e.0.0)) s.delegations exact_pair h.existing;
    }

pub from_points : (height : ℕ) (s : Staked) → IsSoundAt height s → StakedIsSound height s
from_points height s h =
    let vs = s.validators in
    let all_found : All (λ e. validator_at s e.1.operator ≡ Some e.1) vs
    = to_all addr_cmp addr_total (λ e. validator_at s e.1.operator ≡ Some e.1) vs h.validators_ascend (λ k v e. ap (validator_at s) (h.operators k v e) ∙ e) in
    let found : (u : Validator) → Contains (values_of vs) u → validator_at s u.operator ≡ Some u = λ u c.
    All-contains (λ u. validator_at s u.operator ≡ Some u) (values_of vs) u (All-map (λ u. validator_at s u.operator ≡ Some u) (λ (e : List ℕ × Validator). e.1) vs all_found) c in
    record {
      validators_ascend = h.validators_ascend;
      delegations_ascend = h.delegations_ascend;
      operators = to_all addr_cmp addr_total (λ e. e.1.operator ≡ e.0) vs h.validators_ascend h.operators;
      validators = to_all addr_cmp addr_total (λ e. ValidatorIsSound height e.1) vs h.validators_ascend h.validators;
      cons = λ u v c d g.
          let same : u.operator ≡ v.operator = h.cons u.operator v.operator u v (found u c) (found v d) g in
          some_is u v (sym (found u c) ∙ ap (validator_at s) same ∙ found v d);
      shares = to_all addr_cmp addr_total (λ e. e.1.shares ≡ delegated_shares s e.0) vs h.validators_ascend h.shares;
      positive = to_all pair_cmp pair_total (λ e. 0 < e.1) s.delegations h.delegations_ascend h.positive;
      existing = to_all pair_cmp pair_total (λ e. IsSome (validator_at s e.0.0)) s.delegations h.delegations_ascend h.existing;
    }

-- ---- one validator is put, with other delegations

pub found-put : (s : Staked) (w : Validator) (o : List ℕ) → validator_at (put_validator w s) o ≡ cond (same_addr o w.operator) (Some w) (validator_at s o)
found-put s w o = at-put addr_cmp addr_total s.validators w.operator o w

pub found_itself : (s : Staked) (w : Validator) → validator_at (put_validator w s) w.operator ≡ Some w
found_itself s w = found-put s w w.operator ∙ ap (λ b. cond b (Some w) (validator_at s w.operator)) (same_itself w.operator)

pub either_some : {A : Type 0} (b : Bool) (w x : A) (r : Option A) → cond b (Some w) r ≡ Some x → ((b ≡ true) × (w ≡ x)) ⊎ ((b ≡ false) × (r ≡ Some x))
either_some true w x r e = inl (refl, cc)
either_some false w x r e = inr (refl, e)

-- a validator of this operator is put, with these delegations
abbrev pub put_with : Validator → Delegations → Staked → Staked
put_with w ds s = record { validators = with addr_cmp s.validators w.operator w; delegations = ds }

abbrev pub shares_at : Delegations → List ℕ → ℕ
shares_at ds o = sum_where (λ key. same_addr key.0 o) ds

-- what a validator and delegations meet that may be put
pub record MayBePut (height : ℕ) (w : Validator) (ds : Delegations) (s : Staked) : Type 0 where
  pub validator : ValidatorIsSound height w
  pub ascend : IsStrictlySortedBy pair_cmp (keys_of ds)
  pub positive : (k : List ℕ × List ℕ) (n : ℕ) → at pair_cmp ds k ≡ Some n → 0 < n
  pub existing : (k : List ℕ × List ℕ) (n : ℕ) → at pair_cmp ds k ≡ Some n → (same_addr k.0 w.operator ≡ true) ⊎ IsSome (validator_at s k.0)
  pub alone : (p : List ℕ) (v : Validator) → same_addr p w.operator ≡ false → validator_at s p ≡ Some v → v.cons ≡ w.cons → ⊥
  pub own : w.shares ≡ shares_at ds w.operator
  pub others : (o : List ℕ) → same_addr o w.operator ≡ false → shares_at ds o ≡ shares_at s.delegations o

stands_still : (b : Bool) (w : Validator) (r : Option Validator) → (b ≡ true) ⊎ IsSome r → IsSome (cond b (Some w) r)
stands_still true w r h = refl
stands_still false w r (inl e) = absurd cc
stands_still false w r (inr h) = h

module _ (height : ℕ) (w : Validator) (ds : Delegations) (s : Staked) (h : IsSoundAt height s) (m : MayBePut height w ds s) where
  -- it is the one that was put, or stood before
  abbrev IsEither : List ℕ → Validator → Type 0
  IsEither o x = ((same_addr o w.operator ≡ true) × (w ≡ x)) ⊎ ((same_addr o w.operator ≡ false) × (validator_at s o ≡ Some x))

  found : (o : List ℕ) (x : Validator) → validator_at (put_with w ds s) o ≡ Some x → IsEither o x
  found o x e = either_some (same_addr o w.operator) w x (validator_at s o) (sym (found-put s w o) ∙ e)

  pub sound-put_with : IsSoundAt height (put_with w ds s)
  sound-put_with = record {
    validators_ascend = ascend-put addr_cmp addr_total s.validators w.operator w h.validators_ascend;
    delegations_ascend = m.ascend;
    operators = λ o v e. operator o v (found o v e);
    validators = λ o v e. valid o v (found o v e);
    cons = λ o p u v e f g. one o p u v (found o u e) (found p v f) g;
    shares = λ o v e. sums o v (found o v e);
    positive = m.positive;
    existing = λ k n e. subst IsSome (sym (found-put s w k.0)) (stands_still (same_addr k.0 w.operator) w (validator_at s k.0) (m.existing k n e));
  }
    where
      operator : (o : List ℕ) (v : Validator) → IsEither o v → v.operator ≡ o
      operator o v (inl p) = sym (ap (λ x. x.operator) p.1) ∙ sym (same_is o w.operator p.0)
      operator o v (inr p) = h.operators o v p.1

      valid : (o : List ℕ) (v : Validator) → IsEither o v → ValidatorIsSound height v
      valid o v (inl p) = subst (ValidatorIsSound height) p.1 m.validator
      valid o v (inr p) = h.validators o v p.1

      one : (o p : List ℕ) (u v : Validator) → IsEither o u → IsEither p v → u.cons ≡ v.cons → o ≡ p
      one o p u v (inl a) (inl b) g = same_is o w.operator a.0 ∙ sym (same_is p w.operator b.0)
      one o p u v (inl a) (inr b) g = absurd (m.alone p v b.0 b.1 (sym g ∙ sym (ap (λ x. x.cons) a.1)))
      one o p u v (inr a) (inl b) g = absurd (m.alone o u a.0 a.1 (g ∙ sym (ap (λ x. x.cons) b.1)))
      one o p u v (inr a) (inr b) g = h.cons o p u v a.1 b.1 g

      sums : (o : List ℕ) (v : Validator) → IsEither o v → v.shares ≡ shares_at ds o
      sums o v (inl p) = sym (ap (λ x. x.shares) p.1) ∙ m.own ∙ ap (shares_at ds) (sym (same_is o w.operator p.0))
      sums o v (inr p) = h.shares o v p.1 ∙ sym (m.others o p.0)

-- ---- another validator in the place of one

-- a validator may stand in the place of one: it has the same operator, consensus address and shares
pub record TakesPlace (height : ℕ) (w v : Validator) : Type 0 where
  pub operator : w.operator ≡ v.operator
  pub cons : w.cons ≡ v.cons
  pub shares : w.shares ≡ v.shares
  pub sound : ValidatorIsSound height w

pub differs : (a b : List ℕ) → same_addr a b ≡ false → a ≡ b → ⊥
differs a b f e = let t : true ≡ false = sym (same_itself b) ∙ ap (λ x. same_addr x b) (sym e) ∙ f in absurd cc

module _ (height : ℕ) (w v : Validator) (s : Staked) (h : IsSoundAt height s) (f : validator_at s w.operator ≡ Some v) where
  -- no other validator has its consensus address
  pub alone_in : w.cons ≡ v.cons → (p : List ℕ) (x : Validator) → same_addr p w.operator ≡ false → validator_at s p ≡ Some x → x.cons ≡ w.cons → ⊥
  alone_in c p x a e g = differs p w.operator a (h.cons p w.operator x v e f (g ∙ c))

  pub sound-put : TakesPlace height w v → IsSoundAt height (put_validator w s)
  sound-put t = sound-put_with height w s.delegations s h (record {
    validator = t.sound;
    ascend = h.delegations_ascend;
    positive = h.positive;
    existing = λ k n e. inr (h.existing k n e);
    alone = alone_in t.cons;
    own = t.shares ∙ h.shares w.operator v f;
    others = λ o a. refl;
  })

-- ---- shares of one delegation change

respects_operator : (o : List ℕ) (k x : List ℕ × List ℕ) → pair_cmp k x ≡ Equal → same_addr x.0 o ≡ same_addr k.0 o
respects_operator o k x e = ap (λ (y : List ℕ × List ℕ). same_addr y.0 o) (sym (exact_pair k x e))

-- the shares of an operator after one number of them changed
pub sum-changed : (ds : Delegations) (p delegator o : List ℕ) (n : ℕ) → IsStrictlySortedBy pair_cmp (keys_of ds)
    → shares_at (with_number pair_cmp ds (p, delegator) n) o + cond (same_addr p o) (number_at pair_cmp ds (p, delegator)) 0 ≡ shares_at ds o + cond (same_addr p o) n 0
sum-changed ds p delegator o n a = sum-after pair_cmp pair_total (λ key. same_addr key.0 o) (p, delegator) n ds (respects_operator o) a

pub held_within : (ds : Delegations) (p delegator : List ℕ) → number_at pair_cmp ds (p, delegator) ≤ shares_at ds p
held_within ds p delegator = number-within pair_cmp pair_total (λ key. same_addr key.0 p) (p, delegator) ds (respects_operator p) (same_itself p)

own_sum : (new held old n total : ℕ) → new + held ≡ old + n → total + held ≡ old + n → total ≡ new
own_sum new held old n total e f = omega (arith, e, f)

plus_nothing : (b : Bool) (x y m n : ℕ) → b ≡ false → x + cond b m 0 ≡ y + cond b n 0 → x ≡ y
plus_nothing true x y m n e f = absurd cc
plus_nothing false x y m n e f = omega (arith, f)

cond-yes : (b : Bool) (x y m n : ℕ) → b ≡ true → x + cond b m 0 ≡ y + cond b n 0 → x + m ≡ y + n
cond-yes true x y m n e f = f
cond-yes false x y m n e f = absurd cc

positive_if : (b z : Bool) (n m : ℕ) (r : Option ℕ) → (z ≡ false → 0 < n) → ((k : ℕ) → r ≡ Some k → 0 < k) → cond b (cond z None (Some n)) r ≡ Some m → 0 < m
positive_if true true n m r p q e = absurd cc
positive_if true false n m r p q e = let one : n ≡ m = cc in subst (λ x. 0 < x) one (p refl)
positive_if false z n m r p q e = q m e

-- what stands at a delegation after its number was set
pub at-number : (ds : Delegations) (p q : List ℕ × List ℕ) (n : ℕ) → IsStrictlySortedBy pair_cmp (keys_of ds)
    → at pair_cmp (with_number pair_cmp ds p n) q ≡ cond (is_at (pair_cmp q) p) (cond (n == 0) None (Some n)) (at pair_cmp ds q)
at-number ds p q n a = by (n == 0)
  where
    by : (z : Bool) → at pair_cmp (cond z (without pair_cmp ds p) (with pair_cmp ds p n)) q ≡ cond (is_at (pair_cmp q) p) (cond z None (Some n)) (at pair_cmp ds q)
    by true = at-taken pair_cmp pair_total ds p q a
    by false = at-put pair_cmp pair_total ds p q n

is_key : (b : Bool) {A B : Type 0} → ((b ≡ true) → A) → ((b ≡ false) → B) → A ⊎ B
is_key true f g = inl (f refl)
is_key false f g = inr (g refl)

first_of_and : (a b : Bool) → (a && b) ≡ true → a ≡ true
first_of_and true b e = refl
first_of_and false b e = absurd cc

some_there : (b z : Bool) (n m : ℕ) (r : Option ℕ) → b ≡ false → cond b (cond z None (Some n)) r ≡ Some m → r ≡ Some m
some_there true z n m r f e = absurd cc
some_there false z n m r f e = e

module _ (height : ℕ) (w v : Validator) (delegator : List ℕ) (n : ℕ) (s : Staked) (h : IsSoundAt height s) (f : validator_at s w.operator ≡ Some v) where
  -- a validator stands in the place of one, whose shares changed as those of one delegation
  pub sound-changed : w.cons ≡ v.cons → ValidatorIsSound height w → w.shares + number_at pair_cmp s.delegations (w.operator, delegator) ≡ v.shares + n
      → IsSoundAt height (put_with w (with_number pair_cmp s.delegations (w.operator, delegator) n) s)
  sound-changed c ok e = sound-put_with height w (with_number pair_cmp s.delegations (w.operator, delegator) n) s h (record {
    validator = ok;
    ascend = ascend-after pair_cmp pair_total s.delegations (w.operator, delegator) n h.delegations_ascend;
    positive = λ k m g. positive_if (is_at (pair_cmp k) (w.operator, delegator)) (n == 0) n m (at pair_cmp s.delegations k) (λ z. grind (arith, nat_tests)) (h.positive k) (sym (at-number s.delegations (w.operator, delegator) k n h.delegations_ascend) ∙ g);
    existing = λ k m g. is_key (is_at (pair_cmp k) (w.operator, delegator))
        (λ b. first_of_and (same_addr k.0 w.operator) (same_addr k.1 delegator) (sym (pair_found k.0 w.operator k.1 delegator) ∙ b))
        (λ b. h.existing k m (some_there (is_at (pair_cmp k) (w.operator, delegator)) (n == 0) n m (at pair_cmp s.delegations k) b (sym (at-number s.delegations (w.operator, delegator) k n h.delegations_ascend) ∙ g)));
    alone = alone_in height w v s h f c;
    own = own_sum (shares_at (with_number pair_cmp s.delegations (w.operator, delegator) n) w.operator) (number_at pair_cmp s.delegations (w.operator, delegator)) (shares_at s.delegations w.operator) n w.shares
        (cond-yes (same_addr w.operator w.operator) _ _ _ _ (same_itself w.operator) (sum-changed s.delegations w.operator delegator w.operator n h.delegations_ascend))
        (subst (λ x. w.shares + number_at pair_cmp s.delegations (w.operator, delegator) ≡ x + n) (h.shares w.operator v f) e);
    others = λ o a. plus_nothing (same_addr w.operator o) _ _ _ _ (same_back w.operator o ∙ a) (sum-changed s.delegations w.operator delegator o n h.delegations_ascend);
  })

-- ---- a validator joins

none_delegated_at : (o : List ℕ) (ds : Delegations) → All (λ e. same_addr e.0.0 o ≡ false) ds → shares_at ds o ≡ 0
none_delegated_at o [] h = refl
none_delegated_at o (e ∷ ds) h =
    let first : cond (same_addr e.0.0 o) e.1 0 ≡ 0 = ap (λ b. cond b e.1 0) (All-head (λ (x : (List ℕ × List ℕ) × ℕ). same_addr x.0.0 o ≡ false) e ds h) in
    let rest = none_delegated_at o ds (All-tail (λ (x : (List ℕ × List ℕ) × ℕ). same_addr x.0.0 o ≡ false) e ds h) in
    omega (arith, first, rest)

-- no delegation to an operator that has no validator
pub none_delegated : (height : ℕ) (s : Staked) (o : List ℕ) → IsSoundAt height s → validator_at s o ≡ None → shares_at s.delegations o ≡ 0
none_delegated height s o h f =
    none_delegated_at o s.delegations
    (All-weaker (λ (e : (List ℕ × List ℕ) × ℕ). IsSome (validator_at s e.0.0)) (λ e. same_addr e.0.0 o ≡ false) (λ e g. other e.0.0 g (same_addr e.0.0 o) refl) s.delegations
    (to_all pair_cmp pair_total (λ (e : (List ℕ × List ℕ) × ℕ). IsSome (validator_at s e.0.0)) s.delegations h.delegations_ascend h.existing))
  where
    other : (p : List ℕ) → is_some (validator_at s p) ≡ true → (b : Bool) → same_addr p o ≡ b → b ≡ false
    other p g true q =
        let none : is_some (validator_at s p) ≡ false = ap (λ x. is_some (validator_at s x)) (same_is p o q) ∙ ap is_some f in
        let both : true ≡ false = sym g ∙ none in
        absurd cc
    other p g false q = refl

pub sound-joined : (height : ℕ) (s : Staked) (w : Validator) → IsSoundAt height s → validator_at s w.operator ≡ None → ((p : List ℕ) (x : Validator) → validator_at s p ≡ Some x → x.cons ≡ w.cons → ⊥)
    → ValidatorIsSound height w → w.shares ≡ 0 → IsSoundAt height (put_validator w s)
sound-joined height s w h f apart ok z = sound-put_with height w s.delegations s h (record {
  validator = ok;
  ascend = h.delegations_ascend;
  positive = h.positive;
  existing = λ k n e. inr (h.existing k n e);
  alone = λ p x a e c. apart p x e c;
  own = z ∙ sym (none_delegated height s w.operator h f);
  others = λ o a. refl;
})

-- ---- at a later height

pub later : (a b : ℕ) (s : Staked) → a ≤ b → IsSoundAt a s → IsSoundAt b s
later a b s e h = record {
  validators_ascend = h.validators_ascend;
  delegations_ascend = h.delegations_ascend;
  operators = h.operators;
  validators = λ o v f. valid v (h.validators o v f);
  cons = h.cons;
  shares = h.shares;
  positive = h.positive;
  existing = h.existing;
}
  where
    valid : (v : Validator) → ValidatorIsSound a v → ValidatorIsSound b v
    valid v k = record {
      max_rate = k.max_rate;
      rate = k.rate;
      max_change = k.max_change;
      tokens = k.tokens;
      empty = k.empty;
      unbonding_height = let u = k.unbonding_height in omega (arith, e, u);
    }

-- ---- nobody at first

pub none_sound : IsSoundAt 0 (record { validators = []; delegations = [] })
unfolding IsStrictlySortedBy
none_sound = record {
  validators_ascend = tt;
  delegations_ascend = tt;
  operators = λ o v e. absurd cc;
  validators = λ o v e. absurd cc;
  cons = λ o p u v e f g. absurd cc;
  shares = λ o v e. absurd cc;
  positive = λ k n e. absurd cc;
  existing = λ k n e. absurd cc;
}
