-- Validators and delegations stay sound as they change.
use Rattle.std.proofs.Common.{◌≡◌, ◌∙◌, ℕ, ◌+◌, ◌-◌, ◌^◌, ◌≤◌, Bool, true, false, cond, List, Option, Some, None, refl, sym, ap, subst, arith, IsSome, unwrap_or}
use Rattle.std.specs.{List.Sorted.IsStrictlySortedBy, Map.keys_of, BTreeMap.is_at}
use Rattle.base_types.{specs.Orders.addr_cmp, proofs.MapLemmas.{ascend-taken, at-taken}}
use Rattle.base_roles.specs.{declared.entities.Validator.Validator, Entries.{at, number_at}}
use Rattle.base_roles.specs.{Orders.{pair_cmp, same_addr}, Staked.{Staked, validator_at, delegation, put_validator}}
use Rattle.rule_modules.{specs.Stakes.without_validator, proofs.OrderLemmas.{addr_total, same_is}}
use Rattle.rule_modules.proofs.SoundLemmas.{IsSoundAt, to_points, from_points, sound-put, held_within, later}
use Rattle.mod_staking.specs.Calls.{IsSoundStake}

-- ---- look-ups after a change

pub found-taken : (s : Staked) (p o : List ℕ) → IsStrictlySortedBy addr_cmp (keys_of s.validators) → validator_at (without_validator p s) o ≡ cond (same_addr o p) None (validator_at s o)
found-taken s p o a = at-taken addr_cmp addr_total s.validators p o a

pub not_taken : {A : Type 0} (b : Bool) (x : A) (r : Option A) → cond b None r ≡ Some x → (b ≡ false) × (r ≡ Some x)
not_taken true x r e = absurd cc
not_taken false x r e = (refl, e)

-- what a sound validator meets apart from its height
pub record IsWellMade (v : Validator) : Type 0 where
  pub max_rate : v.commission.max_rate ≤ 10 ^ 18
  pub rate : v.commission.rate ≤ v.commission.max_rate
  pub max_change : v.commission.max_change ≤ v.commission.max_rate
  pub tokens : v.tokens ≤ 10 ^ 18
  pub empty : v.shares ≡ 0 → v.tokens ≡ 0

-- a validator is set in the place of one with its operator, consensus address and shares
pub sound-set : (s s2 : Staked) (w v : Validator) → IsSoundStake s → validator_at s w.operator ≡ Some v → s2 ≡ put_validator w s → w.cons ≡ v.cons → w.shares ≡ v.shares
    → w.operator ≡ v.operator → (IsWellMade v → IsWellMade w) → IsSoundStake s2
sound-set s s2 w v sound f e c n o ok =
    let at_first = to_points sound.0 s sound.1 in
    let height : ℕ = sound.0 + w.unbonding_height in
    let first : sound.0 ≤ height = omega arith in
    let second : w.unbonding_height ≤ height = omega arith in
    let h = later sound.0 height s first at_first in
    let old = h.validators w.operator v f in
    let made = ok (record { max_rate = old.max_rate; rate = old.rate; max_change = old.max_change; tokens = old.tokens; empty = old.empty }) in (
      height,
      from_points height s2 (subst (IsSoundAt height) (sym e) (sound-put height w v s h f (record {
        operator = o;
        cons = c;
        shares = n;
        sound = record { max_rate = made.max_rate; rate = made.rate; max_change = made.max_change; tokens = made.tokens; empty = made.empty; unbonding_height = second };
      }))),
    )

-- ---- a validator goes that has no shares

-- no delegation to a validator without shares
pub no_shares : (height : ℕ) (s : Staked) (v : Validator) → IsSoundAt height s → validator_at s v.operator ≡ Some v → v.shares ≡ 0 → (delegator : List ℕ) → delegation s delegator v.operator ≡ None
no_shares height s v h f z delegator = by (delegation s delegator v.operator) refl
  where
    by : (x : Option ℕ) → delegation s delegator v.operator ≡ x → x ≡ None
    by None e = refl
    by (Some n) e =
        let some = h.positive (v.operator, delegator) n e in
        let within = held_within s.delegations v.operator delegator in
        let is : number_at pair_cmp s.delegations (v.operator, delegator) ≡ n = ap (λ x. unwrap_or x 0) e in
        let own = h.shares v.operator v f in
        absurd (omega (arith, some, within, is, own, z))

module _ (height : ℕ) (s : Staked) (v : Validator) (h : IsSoundAt height s) (f : validator_at s v.operator ≡ Some v) (z : v.shares ≡ 0) where
  old_found : (o : List ℕ) (x : Validator) → validator_at (without_validator v.operator s) o ≡ Some x → (same_addr o v.operator ≡ false) × (validator_at s o ≡ Some x)
  old_found o x e = not_taken (same_addr o v.operator) x (validator_at s o) (sym (found-taken s v.operator o h.validators_ascend) ∙ e)

  pub sound-taken : IsSoundAt height (without_validator v.operator s)
  sound-taken = record {
    validators_ascend = ascend-taken addr_cmp (is_at (addr_cmp v.operator)) s.validators h.validators_ascend;
    delegations_ascend = h.delegations_ascend;
    operators = λ o x e. h.operators o x (old_found o x e).1;
    validators = λ o x e. h.validators o x (old_found o x e).1;
    cons = λ o p u x e g c. h.cons o p u x (old_found o u e).1 (old_found p x g).1 c;
    shares = λ o x e. h.shares o x (old_found o x e).1;
    positive = h.positive;
    existing = λ k n e. subst IsSome (sym (found-taken s v.operator k.0 h.validators_ascend)) (still k n e (same_addr k.0 v.operator) refl);
  }
    where
      still : (k : List ℕ × List ℕ) (n : ℕ) → at pair_cmp s.delegations k ≡ Some n → (b : Bool) → same_addr k.0 v.operator ≡ b → IsSome (cond b None (validator_at s k.0))
      still k n e true q =
          let none : at pair_cmp s.delegations (v.operator, k.1) ≡ None = no_shares height s v h f z k.1 in
          let here : at pair_cmp s.delegations (v.operator, k.1) ≡ Some n = ap (λ o. at pair_cmp s.delegations (o, k.1)) (sym (same_is k.0 v.operator q)) ∙ e in
          absurd cc
      still k n e false q = h.existing k n e

pub less_empty : (t n : ℕ) → t ≡ 0 → t - n ≡ 0
less_empty t n e = omega (arith, e)
