-- What stands once an amount was unbonded that is then delegated: how much it is, the accounts, and the target.
use Rattle.std.proofs.Common.{◌≡◌, ◌∙◌, ℕ, ◌+◌, ◌-◌, ◌^◌, ◌<◌, ◌≤◌, ◌==◌, Bool, true, false, cond, List, Option, Some, refl, sym, ap, subst, arith, Ok, Err, Result, nat_le, if◌then◌else◌, ◌||◌, unwrap_or}
use Rattle.std.proofs.lemmas.Bool.Decides.{nat_tests}
use Rattle.base_decimals.specs.declared.over.Over.{Over}
use Rattle.base_types.specs.declared.account.Account.TheVariants as account
use Rattle.base_types.specs.declared.account.Module.TheVariants as holder
use Rattle.base_shares.specs.Shares.{amount_out}
use Rattle.base_roles.specs.{declared.entities.Validator.Validator, Answers.Follows, Entries.number_at}
use Rattle.base_roles.specs.{Holdings.balance_of, Hooks.Keeps, Orders.{pair_cmp, same_addr}}
use Rattle.base_roles.specs.Staked.{Staked, validator_at, delegation, put_validator, is_bonded, bonded_tokens, other_tokens}
use Rattle.base_roles.specs.StakeChanges.{HoldsStake, IsUnbonded, validator_left}
use Rattle.base_roles.specs.{World.{View, Told, World, call, over_mine, logged}, declared.calls.Hook.Hook}
use Rattle.base_roles.specs.declared.calls.Hook.TheVariants.{Modifying as modifying}
use Rattle.base_roles.specs.Log as log
use Rattle.rule_modules.specs.Delegating.{pool}
use Rattle.rule_modules.specs.Unbonding.{falls_below_minimum, put_in_jail, left_standing, removed_if_empty, unbonded_of, unbonded_shares, shares_unbonded}
use Rattle.rule_modules.proofs.SoundLemmas.{to_points, held_within, shares_at}
use Rattle.mod_staking.specs.Calls.{IsSoundStake, HasOrigin}
use Rattle.mod_staking.proofs.GroundLemmas.{from_bonded, from_other, holds-kept}
use Rattle.mod_redelegation.proofs.AskedLemmas.{bind_ok, ok_is, IsLeaving}

some_is : (a b : Validator) → Some a ≡ Some b → a ≡ b
some_is a b h = cc

-- ---- the amount

-- what unbonding a part of a delegation's shares needs
pub record IsRemovable (v : Validator) (n : ℕ) : Type 0 where
  pub tokens : v.tokens ≤ 10 ^ 18
  pub some : 0 < v.shares
  pub part : n ≤ v.shares

pub removable : (delegator source : List ℕ) (s : Staked) (v : Validator) (part : ℕ) → IsSoundStake s → IsLeaving delegator source s v part → IsRemovable v part
removable delegator source s v part h l =
    let at = to_points h.0 s h.1 in
    let held = l.shares.0 in
    let number : number_at pair_cmp s.delegations (source, delegator) ≡ held = ap (λ r. unwrap_or r 0) l.shares.1.0 in
    let all : v.shares ≡ shares_at s.delegations source = at.shares source v l.found in
    let inside = held_within s.delegations source delegator in
    let some : 0 < held = at.positive (source, delegator) held l.shares.1.0 in
    let within = l.shares.1.1 in
    record {
      tokens = (at.validators source v l.found).tokens;
      some = omega (arith, number, all, inside, some);
      part = omega (arith, number, all, inside, within);
    }

module _ {H : Type 0} (told : H → Hook → View → Told H) where
  amount_given : (v : Validator) (delegator : List ℕ) (held part : ℕ) (w : World Staked H) (p : ℕ × World Staked H) → unbonded_shares told v delegator held part w ≡ Ok p → p.0 ≡ amount_out v.tokens v.shares part
  amount_given v delegator held part w p e =
      let falls = falls_below_minimum v delegator (held - part) in
      let now : Validator = record v { jailed = v.jailed || falls } in
      let out = amount_out v.tokens v.shares part in
      let less : Validator = record now { tokens = v.tokens - out; shares = v.shares - part } in
      let a = bind_ok (call told (modifying v delegator held) w) _ p e in
      let b = bind_ok (left_standing told now delegator (held - part) (if falls then put_in_jail v a.0 else a.0)) _ p a.1.1 in
      let c = bind_ok (removed_if_empty told less (logged v.operator log.left (over_mine (put_validator less) b.0))) _ p b.1.1 in
      let d = ok_is (out, c.0) p c.1.1 in
      sym (ap (λ (q : ℕ × World Staked H). q.0) d)

  amount_of : (x : Option Validator) (y : Option ℕ) (v : Validator) (held : ℕ) → x ≡ Some v → y ≡ Some held → (delegator : List ℕ) (part : ℕ) (w : World Staked H) (p : ℕ × World Staked H) → unbonded_of told x y delegator part w ≡ Ok p → p.0 ≡ amount_out v.tokens v.shares part
  amount_of x y v held f g delegator part w p e = amount_given v delegator held part w p (sym (λ i. unbonded_of told (f i) (g i) delegator part w) ∙ e)

  -- what goes out is what the shares are worth
  pub out_is : (delegator source : List ℕ) (part : ℕ) (w : World Staked H) (v : Validator) → IsLeaving delegator source w.mine v part → (s1 : Staked) (holds1 : H → Type 0) (v1 : View) (out : ℕ)
      → Follows (shares_unbonded told delegator source part w) s1 holds1 v1 (Ok out) → out ≡ amount_out v.tokens v.shares part
  out_is delegator source part w v l s1 holds1 v1 out =
      by (shares_unbonded told delegator source part w) (amount_of (validator_at w.mine source) (delegation w.mine delegator source) v l.shares.0 l.found l.shares.1.0 delegator part w)
    where
      by : (u : Result (ℕ × World Staked H) Over) → ((p : ℕ × World Staked H) → u ≡ Ok p → p.0 ≡ amount_out v.tokens v.shares part) → Follows u s1 holds1 v1 (Ok out) → out ≡ amount_out v.tokens v.shares part
      by (Err due) k f = absurd f
      by (Ok p) k f = f.0 ∙ k p refl

pub some_out : (out amount : ℕ) → out ≡ amount → (amount == 0) ≡ false → 0 < out
some_out out amount e n = grind (arith, nat_tests, e, n)

pub room_for : (most n : ℕ) → most ≤ 100 → nat_le most n ≡ false → n < 100
room_for most n p e = grind (arith, nat_tests, p, e)

-- ---- the accounts

-- what is left to be owed, once an amount left the tokens of a validator of this status
falls_so : (b : Bool) (bonded other bonded2 other2 out : ℕ) → bonded2 + (if b then out else 0) ≡ bonded → other2 + (if b then 0 else out) ≡ other → (bonded ≡ bonded2 + cond b out 0) × (other ≡ other2 + cond b 0 out)
falls_so true bonded other bonded2 other2 out e f = (omega (arith, e), omega (arith, f))
falls_so false bonded other bonded2 other2 out e f = (omega (arith, e), omega (arith, f))

module _ (delegator source : List ℕ) (part out : ℕ) (s s1 : Staked) (iu : IsUnbonded delegator source part out s s1) (v : Validator) (f : validator_at s source ≡ Some v) where
  same_v : iu.v ≡ v
  same_v = some_is iu.v v (sym iu.validator ∙ f)

  same_bonded : is_bonded iu.v.status ≡ is_bonded v.status
  same_bonded = ap (λ (x : Validator). is_bonded x.status) same_v

  pub out_most : IsSoundStake s → out ≤ 10 ^ 18
  out_most h =
      let at = to_points h.0 s h.1 in
      let few = (at.validators source v f).tokens in
      let within : out ≤ v.tokens = subst (λ (x : Validator). out ≤ x.tokens) same_v iu.within in
      omega (arith, few, within)

  -- the target still stands
  pub still-there : (target : List ℕ) (t : Validator) → same_addr source target ≡ false → validator_at s target ≡ Some t → validator_at s1 target ≡ Some t
  still-there target t apart there = iu.validators target ∙ ap (λ b. cond b (validator_left iu.v part out iu.falls) (validator_at s target)) apart ∙ there

  falls : (bonded_tokens s ≡ bonded_tokens s1 + cond (is_bonded v.status) out 0) × (other_tokens s ≡ other_tokens s1 + cond (is_bonded v.status) 0 out)
  falls = subst (λ b. (bonded_tokens s ≡ bonded_tokens s1 + cond b out 0) × (other_tokens s ≡ other_tokens s1 + cond b 0 out)) same_bonded
      (falls_so (is_bonded iu.v.status) (bonded_tokens s) (other_tokens s) (bonded_tokens s1) (other_tokens s1) out iu.bonded iu.other)

  module _ (N : Type 0) (v0 v1 : View) (k : Keeps N v0 v1) where
    -- the accounts hold what is owed to validators, what went out, and what they held besides
    pub held-more : (a b : ℕ) → HoldsStake v0 (bonded_tokens s + a) (other_tokens s + b) → HoldsStake v1 (bonded_tokens s1 + from_bonded (pool v.status) out + a) (other_tokens s1 + from_other (pool v.status) out + b)
    held-more a b h =
        let kept = holds-kept N v0 v1 (bonded_tokens s + a) (other_tokens s + b) k h in
        let p = kept.in_bonded in
        let q = kept.in_not_bonded in
        let e = falls.0 in
        let g = falls.1 in
        record { in_bonded = omega (arith, p, e); in_not_bonded = omega (arith, q, g) }

    module _ (h : HoldsStake v0 (bonded_tokens s) (other_tokens s)) where
      kept_now : HoldsStake v1 (bonded_tokens s) (other_tokens s)
      kept_now = holds-kept N v0 v1 (bonded_tokens s) (other_tokens s) k h

      pub held-now : HoldsStake v1 (bonded_tokens s1) (other_tokens s1)
      held-now =
          let p = kept_now.in_bonded in
          let q = kept_now.in_not_bonded in
          let e = falls.0 in
          let g = falls.1 in
          record { in_bonded = omega (arith, p, e); in_not_bonded = omega (arith, q, g) }

      -- the account of the source's status has what went out, besides what is owed from it
      pub has-origin : HasOrigin (pool v.status) out s1 v1
      has-origin = by (is_bonded v.status) falls
        where
          in_pool : Bool → ℕ
          in_pool b = balance_of v1.bank (account.Module (if b then holder.Bonded else holder.NotBonded)) v1.ctx.params.bond_denom

          by : (b : Bool) → (bonded_tokens s ≡ bonded_tokens s1 + cond b out 0) × (other_tokens s ≡ other_tokens s1 + cond b 0 out) → (if b then bonded_tokens s1 else other_tokens s1) + out ≤ in_pool b
          by true e = let p = kept_now.in_bonded in let g = e.0 in omega (arith, p, g)
          by false e = let p = kept_now.in_not_bonded in let g = e.1 in omega (arith, p, g)
