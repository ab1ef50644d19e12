-- What a slash leaves of the ground once shares were unbonded at a target, and what went out burned: the hooks, the accounts
-- and the validators.
use Rattle.std.proofs.Common.{◌≡◌, ◌∙◌, ℕ, ◌+◌, ◌^◌, ◌<◌, ◌≤◌, Bool, true, false, cond, List, Some, None, refl, sym, ap, subst, arith, ◌&&◌, if◌then◌else◌, ◌==◌, ◌||◌, ◌-◌}
use Rattle.std.specs.{BTreeMap.is_at, Cmp.eq_by_cmp_equiv}
use Rattle.base_types.specs.{declared.account.Account.Account, Orders.{account_cmp, denom_cmp}}
use Rattle.base_types.specs.declared.account.Account.TheVariants as account
use Rattle.base_types.specs.declared.account.Module.TheVariants as holder
use Rattle.base_roles.specs.declared.{entities.Validator.Validator, params.Ctx.Ctx}
use Rattle.base_roles.specs.{Ground.{AreInRange, IsInOrder, end_of_blocks}, Holdings.{balance_of, supply_of, IsBacked}}
use Rattle.base_roles.specs.{Hooks.{Tells, Stand, Keeps}, Owing.Lists, Orders.same_addr}
use Rattle.base_roles.specs.Staked.{Staked, validator_at, is_bonded, is_unbonded, bonded_tokens, other_tokens}
use Rattle.base_roles.specs.{StakeChanges.{HoldsStake, of_bond, IsUnbonded, validator_left}, World.{View, burnt}}
use Rattle.base_roles.proofs.{BurnLemmas.{burns_by_amounts, burns_lower_supplies}, HoldingLemmas.denom_total}
use Rattle.base_roles.proofs.{HookLemmas.Stand-same, StakeLemmas.holds-fallen}
use Rattle.rule_modules.{specs.Stakes.pool_of, proofs.OrderLemmas.same_is}
use Rattle.mod_staking.proofs.GroundLemmas.{holds-kept}
use Rattle.mod_redelegation.specs.Scenes.{IsSlashed}

-- nothing was slashed yet
pub slashed-none : (v : View) (s : Staked) → IsSlashed v v s s
slashed-none v s = record {
  falls = record { from_bonded = λ d. refl; from_not_bonded = λ d. refl; supply = λ d. refl };
  still = λ o x e n. (x, (e, refl, refl));
}

-- ---- one unbonding, and its burn

module _ (delegator target : List ℕ) (part out : ℕ) (s s1 : Staked) (iu : IsUnbonded delegator target part out s s1) (t : Validator) (f : validator_at s target ≡ Some t) (N : Type 0) (v0 v1 : View) (k : Keeps N v0 v1)
    (h : HoldsStake v0 (bonded_tokens s) (other_tokens s)) where
  some_is : (a b : Validator) → Some a ≡ Some b → a ≡ b
  some_is a b e = cc

  same_t : iu.v ≡ t
  same_t = some_is iu.v t (sym iu.validator ∙ f)

  falls_so : (b : Bool) (bonded other bonded2 other2 : ℕ) → bonded2 + (if b then out else 0) ≡ bonded → other2 + (if b then 0 else out) ≡ other → (bonded ≡ bonded2 + cond b out 0) × (other ≡ other2 + cond b 0 out)
  falls_so true bonded other bonded2 other2 e g = (omega (arith, e), omega (arith, g))
  falls_so false bonded other bonded2 other2 e g = (omega (arith, e), omega (arith, g))

  abbrev b : Bool
  b = is_bonded t.status

  falls : (bonded_tokens s ≡ bonded_tokens s1 + cond b out 0) × (other_tokens s ≡ other_tokens s1 + cond b 0 out)
  falls = subst (λ (x : Validator). (bonded_tokens s ≡ bonded_tokens s1 + cond (is_bonded x.status) out 0) × (other_tokens s ≡ other_tokens s1 + cond (is_bonded x.status) 0 out)) same_t
      (falls_so (is_bonded iu.v.status) (bonded_tokens s) (other_tokens s) (bonded_tokens s1) (other_tokens s1) iu.bonded iu.other)

  kept : HoldsStake v1 (bonded_tokens s) (other_tokens s)
  kept = holds-kept N v0 v1 (bonded_tokens s) (other_tokens s) k h

  abbrev from_of : Bool → Account
  from_of c = account.Module (if c then holder.Bonded else holder.NotBonded)

  abbrev bond : List ℕ
  bond = v1.ctx.params.bond_denom

  -- the account of the target's status has what went out
  pub can_burn : out ≤ balance_of v1.bank (account.Module (pool_of t.status)) bond
  can_burn = by b falls
    where
      by : (c : Bool) → (bonded_tokens s ≡ bonded_tokens s1 + cond c out 0) × (other_tokens s ≡ other_tokens s1 + cond c 0 out) → out ≤ balance_of v1.bank (from_of c) bond
      by true e = let p = kept.in_bonded in let q = e.0 in omega (arith, p, q)
      by false e = let p = kept.in_not_bonded in let q = e.1 in omega (arith, p, q)

  module _ (backed : IsBacked v1.bank) (v2 : View) (e : v2 ≡ burnt (pool_of t.status) bond out v1) (backed2 : IsBacked v2.bank) where
    abbrev burned_view : View
    burned_view = burnt (pool_of t.status) bond out v1

    bank_is : (read : View → ℕ) → read v2 ≡ read burned_view
    bank_is read = ap read e

    ctx_is : v2.ctx ≡ v1.ctx
    ctx_is = ap (λ (x : View). x.ctx) e

    flipped : (d : List ℕ) → is_at (denom_cmp d) bond ≡ is_at (denom_cmp bond) d
    flipped d = (eq_by_cmp_equiv denom_total).symm d bond

    -- what each account then has
    left : (who : Account) (d : List ℕ) → balance_of v2.bank who d + cond (is_at (account_cmp who) (from_of b) && is_at (denom_cmp bond) d) out 0 ≡ balance_of v1.bank who d
    left who d =
        ap (λ n. n + cond (is_at (account_cmp who) (from_of b) && is_at (denom_cmp bond) d) out 0) (bank_is (λ x. balance_of x.bank who d))
        ∙ ap (λ c. balance_of burned_view.bank who d + cond (is_at (account_cmp who) (from_of b) && c) out 0) (sym (flipped d))
        ∙ burns_by_amounts v1.bank (account.Module (pool_of t.status)) bond out backed can_burn who d

    supply_left : (d : List ℕ) → supply_of v2.bank d + cond (is_at (denom_cmp bond) d) out 0 ≡ supply_of v1.bank d
    supply_left d =
        ap (λ n. n + cond (is_at (denom_cmp bond) d) out 0) (bank_is (λ x. supply_of x.bank d))
        ∙ ap (λ c. supply_of burned_view.bank d + cond c out 0) (sym (flipped d))
        ∙ burns_lower_supplies v1.bank (account.Module (pool_of t.status)) bond out backed can_burn d

    -- of the bond denomination or not, by the status
    less : (c bond_d : Bool) (has had owed owed2 : ℕ) (p : Bool) → p ≡ c → has + cond (p && bond_d) out 0 ≡ had → owed ≡ owed2 + cond c out 0 → has + cond bond_d owed 0 ≡ had + cond bond_d owed2 0
    less true true has had owed owed2 p q x y = let z = subst (λ c. has + cond (c && true) out 0 ≡ had) q x in omega (arith, z, y)
    less true false has had owed owed2 p q x y = let z = subst (λ c. has + cond (c && false) out 0 ≡ had) q x in omega (arith, z)
    less false bond_d has had owed owed2 p q x y = by bond_d (subst (λ c. has + cond (c && bond_d) out 0 ≡ had) q x)
      where
        by : (d : Bool) → has + 0 ≡ had → has + cond d owed 0 ≡ had + cond d owed2 0
        by true z = omega (arith, z, y)
        by false z = omega (arith, z)

    is_bonded_account : (c : Bool) → is_at (account_cmp (account.Module holder.Bonded)) (from_of c) ≡ c
    is_bonded_account true = refl
    is_bonded_account false = refl

    is_other_account : (c : Bool) → is_at (account_cmp (account.Module holder.NotBonded)) (from_of c) ≡ cond c false true
    is_other_account true = refl
    is_other_account false = refl

    is_distribution : (c : Bool) → is_at (account_cmp (account.Module holder.Distribution)) (from_of c) ≡ false
    is_distribution true = refl
    is_distribution false = refl

    or_other : (c : Bool) → cond c 0 out ≡ cond (cond c false true) out 0
    or_other true = refl
    or_other false = refl

    at_bonded : (d : List ℕ) → balance_of v2.bank (account.Module holder.Bonded) d + of_bond v1 d (bonded_tokens s) ≡ balance_of v1.bank (account.Module holder.Bonded) d + of_bond v1 d (bonded_tokens s1)
    at_bonded d = less b (is_at (denom_cmp bond) d) _ _ (bonded_tokens s) (bonded_tokens s1) _ (is_bonded_account b) (left (account.Module holder.Bonded) d) falls.0

    at_other : (d : List ℕ) → balance_of v2.bank (account.Module holder.NotBonded) d + of_bond v1 d (other_tokens s) ≡ balance_of v1.bank (account.Module holder.NotBonded) d + of_bond v1 d (other_tokens s1)
    at_other d = less (cond b false true) (is_at (denom_cmp bond) d) _ _ (other_tokens s) (other_tokens s1) _ (is_other_account b) (left (account.Module holder.NotBonded) d) (falls.1 ∙ ap (λ n. other_tokens s1 + n) (or_other b))

    both_fall : (c bond_d : Bool) (has had : ℕ) → has + cond bond_d out 0 ≡ had → (bonded_tokens s ≡ bonded_tokens s1 + cond c out 0) × (other_tokens s ≡ other_tokens s1 + cond c 0 out)
        → has + cond bond_d (bonded_tokens s + other_tokens s) 0 ≡ had + cond bond_d (bonded_tokens s1 + other_tokens s1) 0
    both_fall true true has had x y = let p = y.0 in let q = y.1 in omega (arith, x, p, q)
    both_fall false true has had x y = let p = y.0 in let q = y.1 in omega (arith, x, p, q)
    both_fall true false has had x y = omega (arith, x)
    both_fall false false has had x y = omega (arith, x)

    -- the same since before the unbonding, which moved nothing
    from_there : (d : List ℕ) (has had before m n : ℕ) → had ≡ before → has + of_bond v1 d m ≡ had + of_bond v1 d n → has + of_bond v0 d m ≡ before + of_bond v0 d n
    from_there d has had before m n p q =
        subst (λ (c : Ctx). has + cond (is_at (denom_cmp c.params.bond_denom) d) m 0 ≡ before + cond (is_at (denom_cmp c.params.bond_denom) d) n 0) k.ctx
        (subst (λ x. has + of_bond v1 d m ≡ x + of_bond v1 d n) p q)

    supply_same : (d : List ℕ) → supply_of v1.bank d ≡ supply_of v0.bank d
    supply_same d = ap (λ x. supply_of (record v0.bank { supplies = x }) d) k.supplies

    -- who was not unbonded still stands
    left_as : (x : Validator) (c : Bool) → is_unbonded x.status ≡ false → (y : Validator) × ((validator_left x part out c ≡ Some y) × (y.cons ≡ x.cons) × (y.status ≡ x.status))
    left_as x c n = by (is_unbonded x.status) n
      where
        less_v : Validator
        less_v = record x { tokens = x.tokens - out; shares = x.shares - part; jailed = x.jailed || c }

        by : (u : Bool) → u ≡ false → (y : Validator) × ((cond (u && (x.shares == part)) None (Some less_v) ≡ Some y) × (y.cons ≡ x.cons) × (y.status ≡ x.status))
        by true q = absurd cc
        by false q = (less_v, (refl, refl, refl))

    stands_still : (o : List ℕ) (x : Validator) → validator_at s o ≡ Some x → is_unbonded x.status ≡ false → (y : Validator) × ((validator_at s1 o ≡ Some y) × (y.cons ≡ x.cons) × (y.status ≡ x.status))
    stands_still o x p n = by (same_addr target o) refl
      where
        by : (c : Bool) → same_addr target o ≡ c → (y : Validator) × ((validator_at s1 o ≡ Some y) × (y.cons ≡ x.cons) × (y.status ≡ x.status))
        by false q = (x, (iu.validators o ∙ ap (λ z. cond z (validator_left iu.v part out iu.falls) (validator_at s o)) q ∙ p, refl, refl))
        by true q =
            let own : iu.v ≡ x = some_is iu.v x (sym iu.validator ∙ ap (validator_at s) (same_is target o q) ∙ p) in
            let r = left_as iu.v iu.falls (ap (λ (z : Validator). is_unbonded z.status) own ∙ n) in
            (r.0, (iu.validators o ∙ ap (λ z. cond z (validator_left iu.v part out iu.falls) (validator_at s o)) q ∙ r.1.0, r.1.1 ∙ ap (λ (z : Validator). z.cons) own, r.1.2 ∙ ap (λ (z : Validator). z.status) own))

    pub slashed-once : IsSlashed v0 v2 s s1
    slashed-once = record {
      falls = record {
        from_bonded = λ d. from_there d _ _ _ _ _ (k.bonded d) (at_bonded d);
        from_not_bonded = λ d. from_there d _ _ _ _ _ (k.not_bonded d) (at_other d);
        supply = λ d. from_there d _ _ _ (bonded_tokens s + other_tokens s) (bonded_tokens s1 + other_tokens s1) (supply_same d) (both_fall b (is_at (denom_cmp bond) d) _ _ (supply_left d) falls);
      };
      still = stands_still;
    }

    -- the accounts hold what is then owed to validators
    pub held-burnt : HoldsStake v2 (bonded_tokens s1) (other_tokens s1)
    held-burnt = holds-fallen v0 v2 (bonded_tokens s) (other_tokens s) (bonded_tokens s1) (other_tokens s1) (ctx_is ∙ k.ctx) slashed-once.falls h

    distribution_same : (d : List ℕ) → balance_of v2.bank (account.Module holder.Distribution) d ≡ balance_of v1.bank (account.Module holder.Distribution) d
    distribution_same d = no_less _ _ (is_at (denom_cmp bond) d) _ (is_distribution b) (left (account.Module holder.Distribution) d)
      where
        no_less : (x y : ℕ) (c p : Bool) → p ≡ false → x + cond (p && c) out 0 ≡ y → x ≡ y
        no_less x y c true q z = absurd cc
        no_less x y c false q z = omega (arith, z)

    -- hooks stand as before the burn
    pub stand-burnt : {S : Type 0} (tells : Tells S) (hs : S) (l : Lists) → Stand tells hs v1 l → Stand tells hs v2 l
    stand-burnt tells hs l p = Stand-same tells hs v1 v2 l ctx_is distribution_same (in_order p.in_order) p
      where
        in_order : IsInOrder v1 → IsInOrder v2
        in_order q = record {
          params = subst (λ (c : Ctx). AreInRange c.params) (sym ctx_is) q.params;
          time = subst (λ (c : Ctx). c.time < end_of_blocks) (sym ctx_is) q.time;
          height = subst (λ (c : Ctx). c.height < 2 ^ 63) (sym ctx_is) q.height;
          bank = backed2;
        }
