-- What the hook of a slash leaves, and the burn of a validator's own tokens behind it.
use Rattle.std.proofs.Common.{◌≡◌, ◌∙◌, ℕ, ◌+◌, ◌-◌, ◌^◌, ◌<◌, ◌≤◌, ◌==◌, Bool, true, false, cond, List, [], append-nil, refl, sym, ap, subst, arith, ◌&&◌, min, Some, None, Result, Ok}
use Rattle.std.specs.{BTreeMap.is_at, Cmp.eq_by_cmp_equiv}
use Rattle.base_decimals.specs.declared.over.Over.{Over}
use Rattle.base_types.specs.declared.account.Account.TheVariants as account
use Rattle.base_types.specs.declared.account.Module.TheVariants as holder
use Rattle.base_types.specs.{declared.status.BondStatus.BondStatus, Orders.{account_cmp, denom_cmp}}
use Rattle.base_coins.specs.Coins.{amount_of}
use Rattle.base_roles.specs.declared.{entities.Validator.Validator, params.Ctx.Ctx}
use Rattle.base_roles.specs.{Ground.{AreInRange, end_of_blocks}, Holdings.{balance_of, supply_of, IsBacked}}
use Rattle.base_roles.specs.{Hooks.{Tells, Stand, Ready, Keeps, Lawful}, Owing.Lists, Log.Log}
use Rattle.base_roles.specs.Staked.{Staked, validator_at, put_validator, is_bonded, bonded_tokens, other_tokens}
use Rattle.base_roles.specs.{StakeChanges.{HoldsStake, StakeFalls}, Flow.{◌>>=◌}}
use Rattle.base_roles.specs.World.{View, Told, gives, exceeds, World, hooked, noted, burnt, over_view, logged}
use Rattle.base_roles.specs.declared.calls.Hook.TheVariants.{Slashing as slashing}
use Rattle.base_roles.proofs.{BurnLemmas.{burns_by_amounts, burns_lower_supplies}, HoldingLemmas.denom_total}
use Rattle.base_roles.proofs.HookLemmas.{Stand-same, stand-noted}
use Rattle.base_roles.specs.declared.facts.Fact.TheVariants as fact
use Rattle.base_roles.specs.Log as log
use Rattle.rule_modules.specs.{Answers.Leaves, Slashing.{slash_fraction, slash_told}, Stakes.pool_of}
use Rattle.rule_modules.proofs.{SoundLemmas.to_points, TokenLemmas.{tokens-put, tokens-within}}
use Rattle.mod_staking.{specs.Calls.{IsSoundStake, behind_log}, proofs.GroundLemmas.keeps-noted}
use Rattle.mod_slashing.specs.Scenes.{HasTokens}

-- ---- the hook before

fraction_few : (a b : ℕ) → min a b ≤ a
fraction_few a b = omega arith

module _ {H : Type 0} (t : Tells H) (v : Validator) (burned : ℕ) (h : H) (u : View) (l : Lists) where
  abbrev pub fraction : ℕ
  fraction = slash_fraction burned v.tokens

  -- the hook of a slash may be called where hooks stand
  pub ready-slash : Stand t h u l → l.operators v.operator ≡ true → v.tokens ≤ 10 ^ 18 → Ready t h u (slashing v fraction) l
  ready-slash st k m = record { stand = st; needs = (k, fraction_few (10 ^ 18) _); tokens = m }

  -- what is left of hooks and ground once it was told
  abbrev pub IsToldSlash : (H → Type 0) → View → Type 0
  IsToldSlash holds u2 = (h2 : H) × (holds h2 × Stand t h2 u2 l × Keeps (t.owes h ≡ None) u u2)

  keeps_all : Keeps (t.owes h ≡ None) u u
  keeps_all = record { ctx = refl; supplies = refl; bonded = λ d. refl; not_bonded = λ d. refl; fee_collector = λ d. refl; distribution = λ n d. refl; facts = ([], sym (append-nil u.facts)) }

  pub slash-leaves : Lawful t → (s : Staked) (past : Log) (holds : H → Type 0) (u2 : View) → Stand t h u l → l.operators v.operator ≡ true → v.tokens ≤ 10 ^ 18
      → Leaves (slash_told t.told v burned (behind_log past s h u)) s holds u2 (Ok tt) → IsToldSlash holds u2
  slash-leaves lawful s past holds u2 st k m = by (v.tokens == 0)
    where
      rest : World Staked H → Result (World Staked H) Over
      rest w = Ok (over_view (noted (fact.Slashed v.operator fraction burned)) (logged v.operator (log.slashed burned v.tokens fraction) w))

      told_so : (r : Told H) → t.told h (slashing v fraction) u ≡ r → Leaves (hooked r (behind_log past s h u) >>= rest) s holds u2 (Ok tt) → IsToldSlash holds u2
      told_so (gives h2 u1 more) e p =
          let ready = ready-slash st k m in
          let f = fact.Slashed v.operator fraction burned in (
            h2,
            (
              p.1,
              subst (λ (x : View). Stand t h2 x l) (sym p.2) (stand-noted t h2 u1 (noted f u1).facts l (lawful.follows h h2 (slashing v fraction) u u1 more l ready e)),
              subst (λ (x : View). Keeps (t.owes h ≡ None) u x) (sym p.2) (keeps-noted (t.owes h ≡ None) u u1 f (noted f u1).facts refl (lawful.keeps h h2 (slashing v fraction) u u1 more l ready e)),
            ),
          )
      told_so (exceeds over) e p = absurd p

      by : (z : Bool) → Leaves (cond z (Ok (behind_log past s h u)) (hooked (t.told h (slashing v fraction) u) (behind_log past s h u) >>= rest)) s holds u2 (Ok tt) → IsToldSlash holds u2
      by true p = (h, (p.1, subst (λ (x : View). Stand t h x l) (sym p.2) st, subst (λ (x : View). Keeps (t.owes h ≡ None) u x) (sym p.2) keeps_all))
      by false p = told_so (t.told h (slashing v fraction) u) refl p

-- ---- the burn behind it

module _ (n t : ℕ) (few : n ≤ t) (u u1 : View) (N : Type 0) (k : Keeps N u u1) (backed : IsBacked u1.bank) (b b2 o o2 : ℕ) where
  abbrev bond : List ℕ
  bond = u.ctx.params.bond_denom

  flipped : (d : List ℕ) → is_at (denom_cmp d) bond ≡ is_at (denom_cmp bond) d
  flipped d = (eq_by_cmp_equiv denom_total).symm d bond

  lost : (x x1 x2 owed owed2 : ℕ) (a c : Bool) → a ≡ c → owed2 + n ≡ owed → x1 ≡ x → x2 + cond a n 0 ≡ x1 → x2 + cond c owed 0 ≡ x + cond c owed2 0
  lost x x1 x2 owed owed2 true true q e f p = omega (arith, e, f, p)
  lost x x1 x2 owed owed2 false false q e f p = omega (arith, f, p)
  lost x x1 x2 owed owed2 true false q e f p = absurd cc
  lost x x1 x2 owed owed2 false true q e f p = absurd cc

  kept : (x x1 x2 owed owed2 : ℕ) (c : Bool) → owed2 ≡ owed → x1 ≡ x → x2 + 0 ≡ x1 → x2 + cond c owed 0 ≡ x + cond c owed2 0
  kept x x1 x2 owed owed2 true e f p = omega (arith, e, f, p)
  kept x x1 x2 owed owed2 false e f p = omega (arith, f, p)

  sum_less : (x y x2 y2 : ℕ) → x2 + n ≡ x → y2 ≡ y → x2 + y2 + n ≡ x + y
  sum_less x y x2 y2 e f = omega (arith, e, f)

  less_sum : (x y x2 y2 : ℕ) → x2 ≡ x → y2 + n ≡ y → x2 + y2 + n ≡ x + y
  less_sum x y x2 y2 e f = omega (arith, e, f)

  fell : (x x2 : ℕ) → x2 + t ≡ x + (t - n) → x2 + n ≡ x
  fell x x2 e = omega (arith, e, few)

  stayed : (x x2 : ℕ) → x2 + 0 ≡ x + 0 → x2 ≡ x
  stayed x x2 e = omega (arith, e)

  supply_is : (d : List ℕ) → supply_of u1.bank d ≡ supply_of u.bank d
  supply_is d = ap (λ m. amount_of m d) k.supplies

  -- tokens of a status burned from its account, as what is owed from it fell
  pub falls-by : (c : Bool) → b2 + cond c t 0 ≡ b + cond c (t - n) 0 → o2 + cond (cond c false true) t 0 ≡ o + cond (cond c false true) (t - n) 0
      → n ≤ balance_of u1.bank (account.Module (cond c holder.Bonded holder.NotBonded)) bond → StakeFalls u (burnt (cond c holder.Bonded holder.NotBonded) bond n u1) b o b2 o2
  falls-by true eb eo enough = record {
    from_bonded = λ d. lost _ _ _ b b2 _ _ (flipped d) (fell b b2 eb) (k.bonded d) (burns_by_amounts u1.bank (account.Module holder.Bonded) bond n backed enough (account.Module holder.Bonded) d);
    from_not_bonded = λ d. kept _ _ _ o o2 _ (stayed o o2 eo) (k.not_bonded d) (burns_by_amounts u1.bank (account.Module holder.Bonded) bond n backed enough (account.Module holder.NotBonded) d);
    supply = λ d. lost _ _ _ (b + o) (b2 + o2) _ _ (flipped d) (sum_less b o b2 o2 (fell b b2 eb) (stayed o o2 eo)) (supply_is d) (burns_lower_supplies u1.bank (account.Module holder.Bonded) bond n backed enough d);
  }
  falls-by false eb eo enough = record {
    from_bonded = λ d. kept _ _ _ b b2 _ (stayed b b2 eb) (k.bonded d) (burns_by_amounts u1.bank (account.Module holder.NotBonded) bond n backed enough (account.Module holder.Bonded) d);
    from_not_bonded = λ d. lost _ _ _ o o2 _ _ (flipped d) (fell o o2 eo) (k.not_bonded d) (burns_by_amounts u1.bank (account.Module holder.NotBonded) bond n backed enough (account.Module holder.NotBonded) d);
    supply = λ d. lost _ _ _ (b + o) (b2 + o2) _ _ (flipped d) (less_sum b o b2 o2 (stayed b b2 eb) (fell o o2 eo)) (supply_is d) (burns_lower_supplies u1.bank (account.Module holder.NotBonded) bond n backed enough d);
  }

-- the account of each status holds what it held, where hooks alone were called
pool_kept : (N : Type 0) (u u1 : View) (c : Bool) (d : List ℕ) → Keeps N u u1 → balance_of u1.bank (account.Module (cond c holder.Bonded holder.NotBonded)) d ≡ balance_of u.bank (account.Module (cond c holder.Bonded holder.NotBonded)) d
pool_kept N u u1 true d k = k.bonded d
pool_kept N u u1 false d k = k.not_bonded d

-- a validator's account has what it burns
pub has-burned : (v : Validator) (n : ℕ) (N : Type 0) (u u1 : View) → Keeps N u u1 → n ≤ v.tokens → HasTokens v u → n ≤ balance_of u1.bank (account.Module (pool_of v.status)) u1.ctx.params.bond_denom
has-burned v n N u u1 k few has =
    let same : balance_of u1.bank (account.Module (pool_of v.status)) u1.ctx.params.bond_denom ≡ balance_of u.bank (account.Module (pool_of v.status)) u.ctx.params.bond_denom
    = ap (λ (x : Ctx). balance_of u1.bank (account.Module (pool_of v.status)) x.params.bond_denom) k.ctx ∙ pool_kept N u u1 (is_bonded v.status) u.ctx.params.bond_denom k in
    omega (arith, few, has, same)

-- with fewer tokens
abbrev pub less_by : ℕ → Validator → Validator
less_by n v = record v { tokens = v.tokens - n }

-- as much is no longer owed to validators as burned
pub falls-own : (v : Validator) (n : ℕ) (s s2 : Staked) (N : Type 0) (u u1 u2 : View) → IsSoundStake s → validator_at s v.operator ≡ Some v → n ≤ v.tokens → s2 ≡ put_validator (less_by n v) s → Keeps N u u1 → IsBacked u1.bank
    → HasTokens v u → u2 ≡ burnt (pool_of v.status) u1.ctx.params.bond_denom n u1 → StakeFalls u u2 (bonded_tokens s) (other_tokens s) (bonded_tokens s2) (other_tokens s2)
falls-own v n s s2 N u u1 u2 sound f few e k backed has left =
    let ascend = (to_points sound.0 s sound.1).validators_ascend in
    let s3 = put_validator (less_by n v) s in
    let enough = subst (λ (x : Ctx). n ≤ balance_of u1.bank (account.Module (pool_of v.status)) x.params.bond_denom) k.ctx (has-burned v n N u u1 k few has) in
    let one : StakeFalls u (burnt (pool_of v.status) u.ctx.params.bond_denom n u1) (bonded_tokens s) (other_tokens s) (bonded_tokens s3) (other_tokens s3)
    = falls-by n v.tokens few u u1 N k backed (bonded_tokens s) (bonded_tokens s3) (other_tokens s) (other_tokens s3) (is_bonded v.status)
    (tokens-put is_bonded v.operator v (less_by n v) s.validators ascend f) (tokens-put (λ status. cond (is_bonded status) false true) v.operator v (less_by n v) s.validators ascend f) enough in
    let burned : burnt (pool_of v.status) u.ctx.params.bond_denom n u1 ≡ u2 = ap (λ (x : Ctx). burnt (pool_of v.status) x.params.bond_denom n u1) (sym k.ctx) ∙ sym left in
    subst (λ (x : View). StakeFalls u x (bonded_tokens s) (other_tokens s) (bonded_tokens s2) (other_tokens s2)) burned
    (subst (λ (x : Staked). StakeFalls u (burnt (pool_of v.status) u.ctx.params.bond_denom n u1) (bonded_tokens s) (other_tokens s) (bonded_tokens x) (other_tokens x)) (sym e) one)

-- a validator's account has its tokens, where the accounts have what is owed to validators
pub has-tokens : (v : Validator) (s : Staked) (u : View) → validator_at s v.operator ≡ Some v → HoldsStake u (bonded_tokens s) (other_tokens s) → HasTokens v u
has-tokens v s u f h =
    by (is_bonded v.status) (tokens-within is_bonded v.operator v s.validators f) (tokens-within (λ status. cond (is_bonded status) false true) v.operator v s.validators f)
  where
    by : (c : Bool) → cond c v.tokens 0 ≤ bonded_tokens s → cond (cond c false true) v.tokens 0 ≤ other_tokens s → v.tokens ≤ balance_of u.bank (account.Module (cond c holder.Bonded holder.NotBonded)) u.ctx.params.bond_denom
    by true p q = let k = h.in_bonded in omega (arith, p, k)
    by false p q = let k = h.in_not_bonded in omega (arith, q, k)

-- hooks stand as before once a validator's tokens burned
none_lost : (b c : Bool) (x y n : ℕ) → b ≡ false → x + cond (b && c) n 0 ≡ y → x ≡ y
none_lost true c x y n f e = absurd cc
none_lost false c x y n f e = omega (arith, e)

away : (b : Bool) → is_at (account_cmp (account.Module holder.Distribution)) (account.Module (cond b holder.Bonded holder.NotBonded)) ≡ false
away true = refl
away false = refl

pub stand-burnt : {S : Type 0} (t : Tells S) (h : S) (status : BondStatus) (n : ℕ) (u u2 : View) (l : Lists) → u2 ≡ burnt (pool_of status) u.ctx.params.bond_denom n u → n ≤ balance_of u.bank (account.Module (pool_of status)) u.ctx.params.bond_denom
    → IsBacked u2.bank → Stand t h u l → Stand t h u2 l
stand-burnt t h status n u u2 l e enough backed st =
    let i = st.in_order in
    let d = u.ctx.params.bond_denom in
    let from = account.Module (pool_of status) in
    let ctx : u2.ctx ≡ u.ctx = ap (λ (x : View). x.ctx) e in
    Stand-same t h u u2 l ctx
    (λ x. ap (λ (w : View). balance_of w.bank (account.Module holder.Distribution) x) e
    ∙ none_lost (is_at (account_cmp (account.Module holder.Distribution)) from) (is_at (denom_cmp x) d) _ _ n (away (is_bonded status)) (burns_by_amounts u.bank from d n i.bank enough (account.Module holder.Distribution) x))
    (record {
      params = subst (λ (x : Ctx). AreInRange x.params) (sym ctx) i.params;
      time = subst (λ (x : Ctx). x.time < end_of_blocks) (sym ctx) i.time;
      height = subst (λ (x : Ctx). x.height < 2 ^ 63) (sym ctx) i.height;
      bank = backed;
    })
    st

-- what burns is at most the tokens
pub within : (n a t : ℕ) → n ≡ min a t → n ≤ t
within n a t e = omega (arith, e)
