-- For callers of slashes: whom they act on, and what a burn of a validator's own tokens leaves.
use Rattle.std.proofs.Common.{◌≡◌, ◌∙◌, ℕ, ◌+◌, ◌^◌, ◌<◌, Bool, true, false, cond, refl, sym, ap, subst, arith, Option, Some, None, IsSome, not, ◌&&◌, if◌then◌else◌}
use Rattle.std.specs.BTreeMap.{is_at}
use Rattle.base_types.specs.declared.account.Account.TheVariants as account
use Rattle.base_types.specs.declared.account.Module.TheVariants as holder
use Rattle.base_types.specs.Orders.{account_cmp, denom_cmp}
use Rattle.base_roles.specs.declared.{entities.{SigningInfo.SigningInfo, Validator.Validator}, params.Ctx.Ctx}
use Rattle.base_roles.specs.{Ground.{AreInRange, end_of_blocks}, Hooks.{Tells, Stands}, Owing.Lists}
use Rattle.base_roles.specs.{Holdings.balance_of, Staked.{is_bonded, is_unbonded}, World.View}
use Rattle.base_roles.proofs.{BurnLemmas.burns_by_amounts, HookLemmas.Stand-same}
use Rattle.base_roles_example.specs.Caller.{can_be_slashed, can_be_jailed, can_be_banned, account_of, IsOwnBurnt, IsBurntIfKnown}

-- ---- whom callers act on

not_true : (b : Bool) → not b ≡ true → b ≡ false
not_true true e = absurd cc
not_true false e = refl

both_left : (a b : Bool) → a && b ≡ true → a ≡ true
both_left true b e = refl
both_left false b e = absurd cc

-- the validator of an answer that is not unbonded
pub slashable : (o : Option Validator) → can_be_slashed o ≡ true → (v : Validator) × ((o ≡ Some v) × (is_unbonded v.status ≡ false))
slashable None e = absurd cc
slashable (Some v) e = (v, (refl, not_true (is_unbonded v.status) e))

pub jailable : (o : Option Validator) → can_be_jailed o ≡ true → (v : Validator) × ((o ≡ Some v) × (is_unbonded v.status ≡ false))
jailable None e = absurd cc
jailable (Some v) e = (v, (refl, not_true (is_unbonded v.status) (both_left (not (is_unbonded v.status)) (not v.jailed) e)))

-- an info that can be banned is there
pub bannable : (o : Option SigningInfo) → can_be_banned o ≡ true → IsSome o
bannable None e = absurd cc
bannable (Some i) e = refl

-- ---- after a burn

none_lost : (b c : Bool) (x y n : ℕ) → b ≡ false → x + cond (b && c) n 0 ≡ y → x ≡ y
none_lost true c x y n f e = absurd cc
none_lost false c x y n f e = omega (arith, e)

away : (b : Bool) → is_at (account_cmp (account.Module holder.Distribution)) (account.Module (if b then holder.Bonded else holder.NotBonded)) ≡ false
away true = refl
away false = refl

-- also after a validator's own tokens burned
pub stands-own_burnt : {S : Type 0} (t : Tells S) (holds : S → Type 0) (v : Validator) (old new : View) (l : Lists) → IsOwnBurnt v old new → Stands holds t old l → Stands holds t new l
stands-own_burnt t holds v old new l e p =
    let i = p.1.1.in_order in
    let from = account.Module (account_of v.status) in
    let d = old.ctx.params.bond_denom in
    let ctx : new.ctx ≡ old.ctx = ap (λ u. u.ctx) e.view in (
      p.0,
      (
        p.1.0,
        Stand-same t p.0 old new l ctx
            (λ x. ap (λ (u : View). balance_of u.bank (account.Module holder.Distribution) x) e.view
            ∙ none_lost (is_at (account_cmp (account.Module holder.Distribution)) from) (is_at (denom_cmp x) d) _ _ v.tokens (away (is_bonded v.status)) (burns_by_amounts old.bank from d v.tokens i.bank e.enough (account.Module holder.Distribution) x))
            (record {
              params = subst (λ (x : Ctx). AreInRange x.params) (sym ctx) i.params;
              time = subst (λ (x : Ctx). x.time < end_of_blocks) (sym ctx) i.time;
              height = subst (λ (x : Ctx). x.height < 2 ^ 63) (sym ctx) i.height;
              bank = e.backed;
            }) p.1.1,
      ),
    )

pub stands-burnt : {S : Type 0} (t : Tells S) (holds : S → Type 0) (v : Option Validator) (old new : View) (l : Lists) → IsBurntIfKnown v old new → Stands holds t old l → Stands holds t new l
stands-burnt t holds None old new l e p = subst (λ u. Stands holds t u l) (sym e) p
stands-burnt t holds (Some v) old new l e p = stands-own_burnt t holds v old new l e p
