-- What the accounts hold once an amount was delegated from one of them: also what is owed from them besides.
use Rattle.std.proofs.Common.{◌≡◌, ◌∙◌, ℕ, ◌+◌, ◌<◌, ◌≤◌, ◌==◌, Bool, true, false, cond, List, Option, Some, None, refl, sym, ap, subst, arith, Ok, Err, Result, unwrap_or, if◌then◌else◌}
use Rattle.base_types.specs.declared.account.Account.TheVariants as account
use Rattle.base_types.specs.declared.account.Module.TheVariants as holder
use Rattle.base_types.specs.{declared.status.BondStatus.BondStatus, Modules.module_number}
use Rattle.base_roles.specs.declared.{entities.Validator.Validator, params.Ctx.Ctx, refusal.Refusal.Refusal}
use Rattle.base_roles.specs.{declared.refusal.Refusal.TheVariants.Overflow, Answers.{Answers, AnswersAs}}
use Rattle.base_roles.specs.{Holdings.{balance_of, IsBacked}, Hooks.{Tells, Stand, Keeps, Lawful, after}, Log.Log}
use Rattle.base_roles.specs.Staked.{Staked, validator_at, delegation, put_validator, lists_of, is_bonded, bonded_tokens, other_tokens}
use Rattle.base_roles.specs.{StakeChanges.HoldsStake, Flow.{◌>>=◌, stopping}}
use Rattle.base_roles.specs.World.{View, Told, gives, exceeds, World, hooked, over_view, over_mine, sent}
use Rattle.base_roles.specs.declared.calls.Hook.{Hook, TheVariants.{Modified as modified}}
use Rattle.rule_modules.specs.Amounts.{bond_coins}
use Rattle.rule_modules.specs.Delegating.{Origin, pool, shares_given, paid_in, hook_before, delegated}
use Rattle.rule_modules.{specs.Stakes.{put_delegation, pool_of}, proofs.SoundLemmas.IsSoundAt}
use Rattle.mod_staking.specs.Calls.{HasOrigin, PaysAs, over}
use Rattle.mod_staking.proofs.GroundLemmas.{from_bonded, from_other, IsPaid, paid-accounts, holds-kept, moved_backed}
use Rattle.mod_staking.proofs.DelegateLemmas.{grown, shares-given, IsGivenShares, stand-before, keeps-before, origin-before, can_pay, reached, IsReached, ready-delegated, tokens-after, keeps-ok}

-- ---- the steps of a delegation that is answered

-- what each step gave
pub record IsDelegated {H : Type 0} (told : H → Hook → View → Told H) (v : Validator) (delegator : List ℕ) (amount : ℕ) (from : Origin) (s : Staked) (h : H) (u : View) (s2 : Staked) (u2 : View) : Type 0 where
  pub issued : ℕ
  pub given : shares_given v amount ≡ Ok issued
  pub h1 : H
  pub u1 : View
  pub l1 : Log
  pub first : told h (hook_before v delegator (delegation s delegator v.operator)) u ≡ gives h1 u1 l1
  pub paid_view : View
  pub paid : paid_in from delegator v.status amount u1 ≡ Ok paid_view
  pub h2 : H
  pub l2 : Log
  pub second : told h1 (modified (grown v amount (v.shares + issued)) delegator (unwrap_or (delegation s delegator v.operator) 0 + issued)) paid_view ≡ gives h2 u2 l2
  pub staked : s2 ≡ put_delegation delegator v.operator (unwrap_or (delegation s delegator v.operator) 0 + issued) (put_validator (grown v amount (v.shares + issued)) s)

module _ {H : Type 0} (told : H → Hook → View → Told H) (v : Validator) (delegator : List ℕ) (amount : ℕ) (from : Origin) (s : Staked) (h : H) (u : View) (s2 : Staked) (holds : H → Type 0) (u2 : View) (out : ℕ) where
  abbrev Gave : Type 0
  Gave = IsDelegated told v delegator amount from s h u s2 u2

  abbrev total : ℕ → ℕ
  total i = unwrap_or (delegation s delegator v.operator) 0 + i

  abbrev answer_of : ℕ → World Staked H → Result (ℕ × World Staked H) Refusal
  answer_of i w3 = Ok (i, w3)

  abbrev next : ℕ → View → World Staked H → World Staked H
  next i view w1 = over_view (λ x. view) (over_mine (λ x. put_delegation delegator v.operator (total i) (put_validator (grown v amount (v.shares + i)) x)) w1)

  fourth : (i : ℕ) → shares_given v amount ≡ Ok i → (h1 : H) (u1 : View) (l1 : Log) → told h (hook_before v delegator (delegation s delegator v.operator)) u ≡ gives h1 u1 l1 → (view : View) → paid_in from delegator v.status amount u1 ≡ Ok view
      → (t : Told H) → told h1 (modified (grown v amount (v.shares + i)) delegator (total i)) view ≡ t
      → AnswersAs (stopping Overflow (hooked t (next i view (record { mine = s; hooks = h1; view = u1; log = l1 }))) >>= answer_of i) s2 holds u2 (Ok out) → Gave
  fourth i g h1 u1 l1 a view p (exceeds due) b l = absurd l
  fourth i g h1 u1 l1 a view p (gives h3 u3 l3) b l = record {
    issued = i;
    given = g;
    h1 = h1;
    u1 = u1;
    l1 = l1;
    first = a;
    paid_view = view;
    paid = p;
    h2 = h3;
    l2 = l3;
    second = b ∙ ap (λ x. gives h3 x l3) (sym l.3);
    staked = l.1;
  }

  third : (i : ℕ) → shares_given v amount ≡ Ok i → (h1 : H) (u1 : View) (l1 : Log) → told h (hook_before v delegator (delegation s delegator v.operator)) u ≡ gives h1 u1 l1 → (r : Result View Refusal) → paid_in from delegator v.status amount u1 ≡ r
      → AnswersAs (r >>= λ view. (stopping Overflow (hooked (told h1 (modified (grown v amount (v.shares + i)) delegator (total i)) view) (next i view (record { mine = s; hooks = h1; view = u1; log = l1 }))) >>= answer_of i)) s2 holds u2 (Ok out) → Gave
  third i g h1 u1 l1 a (Err due) p l = absurd l
  third i g h1 u1 l1 a (Ok view) p l = fourth i g h1 u1 l1 a view p (told h1 (modified (grown v amount (v.shares + i)) delegator (total i)) view) refl l

  second : (i : ℕ) → shares_given v amount ≡ Ok i → (t : Told H) → told h (hook_before v delegator (delegation s delegator v.operator)) u ≡ t
      → AnswersAs (stopping Overflow (hooked t (over s h u)) >>= λ w1. (paid_in from delegator v.status amount w1.view >>= λ view. (stopping Overflow (hooked (told w1.hooks (modified (grown v amount (v.shares + i)) delegator (total i)) view) (next i view w1)) >>= answer_of i))) s2 holds u2 (Ok out) → Gave
  second i g (exceeds due) a l = absurd l
  second i g (gives h1 u1 l1) a l = third i g h1 u1 l1 a (paid_in from delegator v.status amount u1) refl l

  first : (r : Result ℕ Refusal) → shares_given v amount ≡ r
      → AnswersAs (r >>= λ i. (stopping Overflow (hooked (told h (hook_before v delegator (delegation s delegator v.operator)) u) (over s h u)) >>= λ w1. (paid_in from delegator v.status amount w1.view >>= λ view. (stopping Overflow (hooked (told w1.hooks (modified (grown v amount (v.shares + i)) delegator (total i)) view) (next i view w1)) >>= answer_of i)))) s2 holds u2 (Ok out) → Gave
  first (Err due) g l = absurd l
  first (Ok i) g l = second i g (told h (hook_before v delegator (delegation s delegator v.operator)) u) refl l

  pub delegated-steps : AnswersAs (delegated told v delegator amount from (over s h u)) s2 holds u2 (Ok out) → Gave
  delegated-steps l = first (shares_given v amount) refl l

-- ---- the accounts

answered : {H : Type 0} (t : Told H) (h : H) (u : View) (l : Log) → t ≡ gives h u l → Answers t (λ a. h ≡ a) u (Ok tt)
answered t h u l e = subst (λ x. Answers x (λ a. h ≡ a) u (Ok tt)) (sym e) (refl, refl)

ok_view : (a b : View) → ◌≡◌ {A = Result View Refusal} (Ok a) (Ok b) → a ≡ b
ok_view a b e = cc

-- the coins moved, or did not have to
paid_as : (old : BondStatus) (delegator : List ℕ) (status : BondStatus) (n : ℕ) (v v2 : View) → paid_in (pool old) delegator status n v ≡ Ok v2 → PaysAs (paid_in (pool old) delegator status n v) v2 (Ok tt)
paid_as old delegator status n v v2 e = subst (λ r. PaysAs r v2 (Ok tt)) (sym e) refl

backed_paid : (old : BondStatus) (delegator : List ℕ) (status : BondStatus) (n : ℕ) (v v2 : View) → 0 < n → IsBacked v.bank → n ≤ balance_of v.bank (account.Module (pool_of old)) v.ctx.params.bond_denom
    → paid_in (pool old) delegator status n v ≡ Ok v2 → IsBacked v2.bank
backed_paid old delegator status n v v2 some b h e = by (module_number (pool_of old) == module_number (pool_of status)) e
  where
    by : (x : Bool) → cond {A = Result View Refusal} x (Ok v) (Ok (sent (account.Module (pool_of old)) (account.Module (pool_of status)) (bond_coins v n) v)) ≡ Ok v2 → IsBacked v2.bank
    by true p = subst (λ (x : View). IsBacked x.bank) (ok_view v v2 p) b
    by false p = subst (λ (x : View). IsBacked x.bank) (ok_view _ v2 p) (moved_backed v (account.Module (pool_of old)) (account.Module (pool_of status)) n some b h)

grown_tokens : (x : Bool) (old new t n : ℕ) → new + cond x t 0 ≡ old + cond x (t + n) 0 → new ≡ old + cond x n 0
grown_tokens true old new t n e = omega (arith, e)
grown_tokens false old new t n e = omega (arith, e)

grown_other : (x : Bool) (old new t n : ℕ) → new + cond (if x then false else true) t 0 ≡ old + cond (if x then false else true) (t + n) 0 → new ≡ old + cond x 0 n
grown_other true old new t n e = omega (arith, e)
grown_other false old new t n e = omega (arith, e)

enough : (owed from more had has in_now joined : ℕ) → owed + from + more ≤ had → has + from ≡ had + joined → in_now ≡ owed + joined → in_now + more ≤ has
enough owed from more had has in_now joined p q r = omega (arith, p, q, r)

module _ {H : Type 0} (t : Tells H) (lawful : Lawful t) (height : ℕ) (s : Staked) (sound : IsSoundAt height s) (v : Validator) (f : validator_at s v.operator ≡ Some v) (delegator : List ℕ) (old : BondStatus) (n : ℕ) (some : 0 < n)
    (hs : H) (u : View) (stand : Stand t hs u (lists_of s)) (origin : HasOrigin (pool old) n s u) (holds : HoldsStake u (bonded_tokens s) (other_tokens s)) (s2 : Staked) (u2 : View) (d : IsDelegated t.told v delegator n (pool old) s hs u s2 u2) (a b : ℕ)
    (more : HoldsStake u (bonded_tokens s + from_bonded (pool old) n + a) (other_tokens s + from_other (pool old) n + b)) where
  abbrev held : Option ℕ
  held = delegation s delegator v.operator

  first_told : Answers (t.told hs (hook_before v delegator held) u) (λ x. d.h1 ≡ x) d.u1 (Ok tt)
  first_told = answered (t.told hs (hook_before v delegator held) u) d.h1 d.u1 d.l1 d.first

  then_stand : Stand t d.h1 d.u1 (after (hook_before v delegator held) (lists_of s))
  then_stand = stand-before height s sound v f delegator held refl t lawful hs d.h1 u d.u1 stand first_told

  then_keeps : Keeps (t.owes hs ≡ None) u d.u1
  then_keeps = keeps-before height s sound v f delegator held refl t lawful hs d.h1 u d.u1 stand first_told

  then_origin : HasOrigin (pool old) n s d.u1
  then_origin = origin-before height s sound v f delegator held refl t lawful hs d.h1 u d.u1 stand first_told (pool old) n origin

  backed : IsBacked d.paid_view.bank
  backed = backed_paid old delegator v.status n d.u1 d.paid_view some then_stand.in_order.bank (can_pay (pool old) n s d.u1 then_origin) d.paid

  accounts : IsPaid (pool old) v.status n d.u1 d.paid_view
  accounts = paid-accounts d.u1 d.paid_view n some then_stand.in_order.bank v.status (pool old) delegator (can_pay (pool old) n s d.u1 then_origin) (paid_as old delegator v.status n d.u1 d.paid_view d.paid)

  at_paid : IsReached t d.h1 d.paid_view s v delegator held n
  at_paid = reached height s sound v f delegator held refl t lawful hs d.h1 u d.u1 stand first_told (pool old) n origin some holds d.paid_view (paid_as old delegator v.status n d.u1 d.paid_view d.paid) backed

  given : IsGivenShares v d.issued
  given = shares-given v n d.issued d.given

  last_keeps : Keeps (t.owes d.h1 ≡ None) d.paid_view u2
  last_keeps =
      keeps-ok t lawful d.h1 d.h2 (modified (grown v n (v.shares + d.issued)) delegator (unwrap_or held 0 + d.issued)) d.paid_view u2 (after (hook_before v delegator held) (lists_of s))
      (ready-delegated height s sound v f delegator held refl n d.issued (unwrap_or held 0 + d.issued) (v.shares + d.issued) given refl refl t d.h1 d.paid_view at_paid)
      (answered (t.told d.h1 (modified (grown v n (v.shares + d.issued)) delegator (unwrap_or held 0 + d.issued)) d.paid_view) d.h2 u2 d.l2 d.second)

  some_total : 0 < unwrap_or held 0 + d.issued
  some_total = let i = given.some in omega (arith, i)

  bonded_is : bonded_tokens s2 ≡ bonded_tokens s + cond (is_bonded v.status) n 0
  bonded_is = ap bonded_tokens d.staked ∙ grown_tokens (is_bonded v.status) (bonded_tokens s) _ v.tokens n (tokens-after height s sound v f delegator (grown v n (v.shares + d.issued)) refl held refl (unwrap_or held 0 + d.issued) some_total is_bonded)

  other_is : other_tokens s2 ≡ other_tokens s + cond (is_bonded v.status) 0 n
  other_is = ap other_tokens d.staked ∙ grown_other (is_bonded v.status) (other_tokens s) _ v.tokens n (tokens-after height s sound v f delegator (grown v n (v.shares + d.issued)) refl held refl (unwrap_or held 0 + d.issued) some_total (λ status. if is_bonded status then false else true))

  then_more : HoldsStake d.u1 (bonded_tokens s + from_bonded (pool old) n + a) (other_tokens s + from_other (pool old) n + b)
  then_more = holds-kept (t.owes hs ≡ None) u d.u1 _ _ then_keeps more

  paid_more : HoldsStake d.paid_view (bonded_tokens s2 + a) (other_tokens s2 + b)
  paid_more = record {
    in_bonded = subst (λ (c : Ctx). bonded_tokens s2 + a ≤ balance_of d.paid_view.bank (account.Module holder.Bonded) c.params.bond_denom) (sym accounts.ctx) (enough _ _ _ _ _ _ _ then_more.in_bonded accounts.bonded bonded_is);
    in_not_bonded = subst (λ (c : Ctx). other_tokens s2 + b ≤ balance_of d.paid_view.bank (account.Module holder.NotBonded) c.params.bond_denom) (sym accounts.ctx) (enough _ _ _ _ _ _ _ then_more.in_not_bonded accounts.other other_is);
  }

  -- the accounts hold what is then owed from them to validators, and so much more
  pub holds-back : HoldsStake u2 (bonded_tokens s2 + a) (other_tokens s2 + b)
  holds-back = holds-kept (t.owes d.h1 ≡ None) d.paid_view u2 _ _ last_keeps paid_more
