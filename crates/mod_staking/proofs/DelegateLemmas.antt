-- The steps of delegating: the hook before, the coins, the new stake, and the hook after.
use Rattle.std.proofs.Common.{◌≡◌, ◌∙◌, ℕ, ◌+◌, ◌^◌, ◌<◌, ◌≤◌, ◌==◌, Bool, true, false, cond, List, Option, Some, None, refl, sym, ap, subst, arith, Ok, Err, Result, is_some, unwrap_or, nat_lt, if◌then◌else◌}
use Rattle.std.proofs.lemmas.Bool.Decides.{nat_tests}
use Rattle.base_decimals.specs.Decimals.{add_of, sum_over}
use Rattle.base_types.specs.declared.account.Account.TheVariants as account
use Rattle.base_types.specs.declared.account.Module.TheVariants as holder
use Rattle.base_types.specs.declared.status.BondStatus.{BondStatus}
use Rattle.base_shares.specs.{declared.fault.ShareFault.ShareFault, Shares.issued_shares}
use Rattle.base_roles.specs.declared.entities.Validator.{Validator}
use Rattle.base_roles.specs.{declared.refusal.Refusal.TheVariants.{TinyDelegation, Overflow}, Answers.Answers}
use Rattle.base_roles.specs.{Entries.{with, without, with_number, number_at}, Holdings.{balance_of, IsBacked}}
use Rattle.base_roles.specs.{Hooks.{Tells, Stand, Ready, Keeps, Lawful, after}, Owing.Lists, Orders.pair_cmp}
use Rattle.base_roles.specs.Staked.{Staked, validator_at, delegation, put_validator, lists_of, is_bonded, tokens_where, bonded_tokens, other_tokens}
use Rattle.base_roles.specs.{StakeChanges.HoldsStake, Flow.{◌>>=◌, ◌>>◌, stop_if, stopping}, World.View}
use Rattle.base_roles.specs.declared.calls.Hook.{Hook, TheVariants.{Modified as modified}}
use Rattle.base_roles.proofs.{HookLemmas.{told-of_ok, Stand-after_ok}, HoldingLemmas.balance-most}
use Rattle.rule_modules.specs.Delegating.{Origin, wallet, pool, shares_given, paid_in, hook_before}
use Rattle.rule_modules.specs.{Sound.ValidatorIsSound, Stakes.{put_delegation, refusal_of_shares}}
use Rattle.rule_modules.proofs.SoundLemmas.{IsSoundAt, sound-changed, held_within, put_with}
use Rattle.rule_modules.proofs.TokenLemmas.{tokens-put, tokens-within, counted}
use Rattle.mod_staking.specs.Calls.{HasOrigin, CanPay, PaysAs}
use Rattle.mod_staking.proofs.ListLemmas.{lists-changed, lists-delegated, itself_started}
use Rattle.mod_staking.proofs.GroundLemmas.{IsPaid, from_bonded, from_other, holds-kept, paid-accounts, stand-paid}

-- ---- a hook that answered Ok keeps what no hook changes

pub keeps-ok : {S : Type 0} (t : Tells S) → Lawful t → (s s2 : S) (h : Hook) (v v2 : View) (l : Lists) → Ready t s v h l → Answers (t.told s h v) (λ a. s2 ≡ a) v2 (Ok tt) → Keeps (t.owes s ≡ None) v v2
keeps-ok t lawful s s2 h v v2 l r e = let told = told-of_ok (t.told s h v) s2 v2 e in lawful.keeps s s2 h v v2 told.0 l r told.1

pub ok_is : {A E : Type 0} (a b : A) → ◌≡◌ {A = Result A E} (Ok a) (Ok b) → a ≡ b
ok_is a b e = cc

-- ---- the shares that an amount gives

pub record IsGivenShares (v : Validator) (issued : ℕ) : Type 0 where
  pub some : 0 < issued
  pub sum : add_of v.shares issued ≡ Ok (v.shares + issued)
  pub below : v.shares + issued < 10 ^ 38

given_at : (v : Validator) (n issued : ℕ) (r : Result ℕ ShareFault) → (stopping refusal_of_shares r >>= λ i. stopping Overflow (add_of v.shares i) >> (stop_if (i == 0) TinyDelegation >> Ok i)) ≡ Ok issued → IsGivenShares v issued
given_at v n issued (Err fault) e = absurd cc
given_at v n issued (Ok i) e = by (nat_lt (v.shares + i) (10 ^ 38)) refl e
  where
    by : (b : Bool) → nat_lt (v.shares + i) (10 ^ 38) ≡ b → (stopping Overflow (cond b (Ok (v.shares + i)) (Err (sum_over v.shares i))) >> (stop_if (i == 0) TinyDelegation >> Ok i)) ≡ Ok issued → IsGivenShares v issued
    by true f g = some (i == 0) refl g
      where
        some : (z : Bool) → (i == 0) ≡ z → (stop_if z TinyDelegation >> Ok i) ≡ Ok issued → IsGivenShares v issued
        some true y k = absurd cc
        some false y k = let one : i ≡ issued = cc in subst (IsGivenShares v) one (record { some = grind (arith, nat_tests); sum = ap (λ x. cond x (Ok (v.shares + i)) (Err (sum_over v.shares i))) f; below = grind (arith, nat_tests) })
    by false f g = absurd cc

pub shares-given : (v : Validator) (n issued : ℕ) → shares_given v n ≡ Ok issued → IsGivenShares v issued
shares-given v n issued e = given_at v n issued (issued_shares v.tokens v.shares n) e

-- ---- the hooks may be called

module _ (height : ℕ) (s : Staked) (h : IsSoundAt height s) (v : Validator) (f : validator_at s v.operator ≡ Some v) (delegator : List ℕ) where
  number_is : (held : Option ℕ) → delegation s delegator v.operator ≡ held → number_at pair_cmp s.delegations (v.operator, delegator) ≡ unwrap_or held 0
  number_is held e = ap (λ x. unwrap_or x 0) e

  -- a delegation has no more shares than its validator
  pub held-most : (held : Option ℕ) → delegation s delegator v.operator ≡ held → unwrap_or held 0 ≤ v.shares
  held-most held e =
      let within = held_within s.delegations v.operator delegator in
      let one = number_is held e in
      let own = h.shares v.operator v f in
      omega (arith, within, one, own)

  module _ {S : Type 0} (t : Tells S) (hs : S) where
    pub ready-before : (u : View) (held : Option ℕ) → delegation s delegator v.operator ≡ held → Stand t hs u (lists_of s) → Ready t hs u (hook_before v delegator held) (lists_of s)
    ready-before u None e p = record { stand = p; needs = (ap is_some f, ap is_some e); tokens = (h.validators v.operator v f).tokens }
    ready-before u (Some m) e p = record { stand = p; needs = (ap is_some e, h.positive (v.operator, delegator) m e, held-most (Some m) e); tokens = (h.validators v.operator v f).tokens }

    still_operator : (held : Option ℕ) → (after (hook_before v delegator held) (lists_of s)).operators v.operator ≡ true
    still_operator None = ap is_some f
    still_operator (Some m) = ap is_some f

    not_started : (held : Option ℕ) → delegation s delegator v.operator ≡ held → (after (hook_before v delegator held) (lists_of s)).started delegator v.operator ≡ false
    not_started None e = ap is_some e
    not_started (Some m) e = itself_started delegator v.operator false (lists_of s)

    pub ready-after : (u : View) (held : Option ℕ) (w : Validator) (total : ℕ) → delegation s delegator v.operator ≡ held → w.operator ≡ v.operator → 0 < total → total ≤ w.shares → w.tokens ≤ 10 ^ 18
        → Stand t hs u (after (hook_before v delegator held) (lists_of s)) → Ready t hs u (modified w delegator total) (after (hook_before v delegator held) (lists_of s))
    ready-after u held w total e o some most tokens p = record {
      stand = p;
      needs = (ap (after (hook_before v delegator held) (lists_of s)).operators o ∙ still_operator held, ap ((after (hook_before v delegator held) (lists_of s)).started delegator) o ∙ not_started held e, some, most);
      tokens = tokens;
    }

  -- ---- what stands after

  with_is : (total : ℕ) → 0 < total → (ds : List ((List ℕ × List ℕ) × ℕ)) (k : List ℕ × List ℕ) → with_number pair_cmp ds k total ≡ with pair_cmp ds k total
  with_is total some ds k = by (total == 0) refl
    where
      by : (b : Bool) → (total == 0) ≡ b → cond b (without pair_cmp ds k) (with pair_cmp ds k total) ≡ with pair_cmp ds k total
      by true e = absurd (grind (arith, nat_tests))
      by false e = refl

  not_zero : (total : ℕ) → 0 < total → (total == 0) ≡ false
  not_zero total some = grind (arith, nat_tests)

  module _ (w : Validator) (o : w.operator ≡ v.operator) (held : Option ℕ) (e : delegation s delegator v.operator ≡ held) (total : ℕ) (some : 0 < total) where
    abbrev pub after_delegating : Staked
    after_delegating = put_delegation delegator v.operator total (put_validator w s)

    found_w : validator_at s w.operator ≡ Some v
    found_w = ap (validator_at s) o ∙ f

    is_put : put_with w (with_number pair_cmp s.delegations (w.operator, delegator) total) s ≡ after_delegating
    is_put = (λ i. put_with w (with_is total some s.delegations (o i, delegator) i) s)

    pub lists-after : after (modified w delegator total) (after (hook_before v delegator held) (lists_of s)) ≡ lists_of after_delegating
    lists-after = lists-delegated v w delegator held total (lists_of s) o
        ∙ sym (lists-changed s w v delegator total false h.delegations_ascend found_w (not_zero total some))
        ∙ ap lists_of is_put

    pub sound-after : w.cons ≡ v.cons → ValidatorIsSound height w → w.shares + unwrap_or held 0 ≡ v.shares + total → IsSoundAt height after_delegating
    sound-after c ok sums =
        subst (IsSoundAt height) is_put
        (sound-changed height w v delegator total s h found_w c ok (ap (λ m. w.shares + m) (ap (λ p. number_at pair_cmp s.delegations (p, delegator)) o ∙ number_is held e) ∙ sums))

    pub tokens-after : (test : BondStatus → Bool) → tokens_where test after_delegating.validators + counted test v ≡ tokens_where test s.validators + counted test w
    tokens-after test = tokens-put test w.operator v w s.validators h.validators_ascend found_w

-- ---- the accounts

origin_bonded : (x : Bool) (a b n : ℕ) (v : View) → (if x then a else b) + n ≤ balance_of v.bank (account.Module (if x then holder.Bonded else holder.NotBonded)) v.ctx.params.bond_denom
    → (a ≤ balance_of v.bank (account.Module holder.Bonded) v.ctx.params.bond_denom) → (b ≤ balance_of v.bank (account.Module holder.NotBonded) v.ctx.params.bond_denom)
    → (a + cond x n 0 ≤ balance_of v.bank (account.Module holder.Bonded) v.ctx.params.bond_denom) × (b + cond x 0 n ≤ balance_of v.bank (account.Module holder.NotBonded) v.ctx.params.bond_denom)
origin_bonded true a b n v p q r = (p, omega (arith, r))
origin_bonded false a b n v p q r = (omega (arith, q), p)

-- both accounts have what is owed, and what is to leave them
has_both : (from : Origin) (n : ℕ) (s : Staked) (v : View) → HasOrigin from n s v → HoldsStake v (bonded_tokens s) (other_tokens s)
    → (bonded_tokens s + from_bonded from n ≤ balance_of v.bank (account.Module holder.Bonded) v.ctx.params.bond_denom) × (other_tokens s + from_other from n ≤ balance_of v.bank (account.Module holder.NotBonded) v.ctx.params.bond_denom)
has_both wallet n s v p h = let a = h.in_bonded in let b = h.in_not_bonded in (omega (arith, a), omega (arith, b))
has_both (pool old) n s v p h = origin_bonded (is_bonded old) (bonded_tokens s) (other_tokens s) n v p h.in_bonded h.in_not_bonded

pub can_pay : (from : Origin) (n : ℕ) (s : Staked) (v : View) → HasOrigin from n s v → CanPay from n v
can_pay wallet n s v h = tt
can_pay (pool old) n s v h = omega (arith, h)

origin-same : (x : Bool) (a b n : ℕ) (N : Type 0) (u v : View) → Keeps N u v → (if x then a else b) + n ≤ balance_of u.bank (account.Module (if x then holder.Bonded else holder.NotBonded)) u.ctx.params.bond_denom
    → (if x then a else b) + n ≤ balance_of v.bank (account.Module (if x then holder.Bonded else holder.NotBonded)) v.ctx.params.bond_denom
origin-same true a b n N u v k h = subst (λ m. a + n ≤ m) (sym (ap (λ c. balance_of v.bank (account.Module holder.Bonded) c.params.bond_denom) k.ctx ∙ k.bonded u.ctx.params.bond_denom)) h
origin-same false a b n N u v k h = subst (λ m. b + n ≤ m) (sym (ap (λ c. balance_of v.bank (account.Module holder.NotBonded) c.params.bond_denom) k.ctx ∙ k.not_bonded u.ctx.params.bond_denom)) h

-- no hook changes that an account has the coins
pub origin-kept : (from : Origin) (n : ℕ) (s : Staked) (N : Type 0) (u v : View) → Keeps N u v → HasOrigin from n s u → HasOrigin from n s v
origin-kept wallet n s N u v k h = tt
origin-kept (pool old) n s N u v k h = origin-same (is_bonded old) (bonded_tokens s) (other_tokens s) n N u v k h

-- both accounts have what is owed once the amount was paid in and the validator has it
pub holds-paid : (from : Origin) (status : BondStatus) (n : ℕ) (s : Staked) (v v2 : View) → IsPaid from status n v v2 → HasOrigin from n s v → HoldsStake v (bonded_tokens s) (other_tokens s)
    → HoldsStake v2 (bonded_tokens s + cond (is_bonded status) n 0) (other_tokens s + cond (is_bonded status) 0 n)
holds-paid from status n s v v2 p o h =
    let both = has_both from n s v o h in
    record {
      in_bonded = subst (λ c. bonded_tokens s + cond (is_bonded status) n 0 ≤ balance_of v2.bank (account.Module holder.Bonded) c.params.bond_denom) (sym p.ctx) (more _ _ _ _ _ both.0 p.bonded);
      in_not_bonded = subst (λ c. other_tokens s + cond (is_bonded status) 0 n ≤ balance_of v2.bank (account.Module holder.NotBonded) c.params.bond_denom) (sym p.ctx) (more _ _ _ _ _ both.1 p.other);
    }
  where
    more : (a x y y2 m : ℕ) → a + x ≤ y → y2 + x ≡ y + m → a + m ≤ y2
    more a x y y2 m p q = omega (arith, p, q)

grown_tokens : (x : Bool) (old new t t2 n : ℕ) → t2 ≡ t + n → new + cond x t 0 ≡ old + cond x t2 0 → new ≡ old + cond x n 0
grown_tokens true old new t t2 n e f = omega (arith, e, f)
grown_tokens false old new t t2 n e f = omega (arith, f)

grown_other : (x : Bool) (old new t t2 n : ℕ) → t2 ≡ t + n → new + cond (if x then false else true) t 0 ≡ old + cond (if x then false else true) t2 0 → new ≡ old + cond x 0 n
grown_other true old new t t2 n e f = omega (arith, f)
grown_other false old new t t2 n e f = omega (arith, e, f)

-- one validator's tokens are owed from one of the accounts
tokens-few : (x : Bool) (t a b : ℕ) (v : View) → IsBacked v.bank → cond x t 0 ≤ a → cond (if x then false else true) t 0 ≤ b → HoldsStake v a b → t ≤ 10 ^ 18
tokens-few true t a b v k p q h = let m = balance-most v.bank (account.Module holder.Bonded) v.ctx.params.bond_denom k in let o = h.in_bonded in omega (arith, p, o, m)
tokens-few false t a b v k p q h = let m = balance-most v.bank (account.Module holder.NotBonded) v.ctx.params.bond_denom k in let o = h.in_not_bonded in omega (arith, q, o, m)

few_at : (x : Bool) (t n a b : ℕ) → cond x t 0 ≤ a → cond (if x then false else true) t 0 ≤ b → (cond x (t + n) 0 ≤ a + cond x n 0) × (cond (if x then false else true) (t + n) 0 ≤ b + cond x 0 n)
few_at true t n a b p q = (omega (arith, p), omega arith)
few_at false t n a b p q = (omega arith, omega (arith, q))

-- ---- once the coins are there

abbrev not_bonded : BondStatus → Bool
not_bonded status = if is_bonded status then false else true

-- The hooks stand as the hook before left them, the accounts have what is owed once the validator has the amount, and it
-- will not have too many tokens.
pub record IsReached {S : Type 0} (t : Tells S) (hs : S) (u : View) (s : Staked) (v : Validator) (delegator : List ℕ) (held : Option ℕ) (n : ℕ) : Type 0 where
  pub stand : Stand t hs u (after (hook_before v delegator held) (lists_of s))
  pub holds : HoldsStake u (bonded_tokens s + cond (is_bonded v.status) n 0) (other_tokens s + cond (is_bonded v.status) 0 n)
  pub tokens : v.tokens + n ≤ 10 ^ 18

module _ (height : ℕ) (s : Staked) (h : IsSoundAt height s) (v : Validator) (f : validator_at s v.operator ≡ Some v) (delegator : List ℕ) (held : Option ℕ) (e : delegation s delegator v.operator ≡ held)
    {S : Type 0} (t : Tells S) (lawful : Lawful t) (hs hs1 : S) (u u1 : View) (stand : Stand t hs u (lists_of s)) (told : Answers (t.told hs (hook_before v delegator held) u) (λ a. hs1 ≡ a) u1 (Ok tt)) where
  ready : Ready t hs u (hook_before v delegator held) (lists_of s)
  ready = ready-before height s h v f delegator t hs u held e stand

  pub stand-before : Stand t hs1 u1 (after (hook_before v delegator held) (lists_of s))
  stand-before = Stand-after_ok t lawful hs hs1 (hook_before v delegator held) u u1 (lists_of s) ready told

  pub keeps-before : Keeps (t.owes hs ≡ None) u u1
  keeps-before = keeps-ok t lawful hs hs1 (hook_before v delegator held) u u1 (lists_of s) ready told

  module _ (from : Origin) (n : ℕ) (origin : HasOrigin from n s u) where
    pub origin-before : HasOrigin from n s u1
    origin-before = origin-kept from n s (t.owes hs ≡ None) u u1 keeps-before origin

    module _ (some : 0 < n) (holds : HoldsStake u (bonded_tokens s) (other_tokens s)) (u2 : View) (paid : PaysAs (paid_in from delegator v.status n u1) u2 (Ok tt)) (backed : IsBacked u2.bank) where
      accounts : IsPaid from v.status n u1 u2
      accounts = paid-accounts u1 u2 n some stand-before.in_order.bank v.status from delegator (can_pay from n s u1 origin-before) paid

      then_held : HoldsStake u2 (bonded_tokens s + cond (is_bonded v.status) n 0) (other_tokens s + cond (is_bonded v.status) 0 n)
      then_held = holds-paid from v.status n s u1 u2 accounts origin-before (holds-kept (t.owes hs ≡ None) u u1 (bonded_tokens s) (other_tokens s) keeps-before holds)

      pub reached : IsReached t hs1 u2 s v delegator held n
      reached =
          let both = few_at (is_bonded v.status) v.tokens n (bonded_tokens s) (other_tokens s) (tokens-within is_bonded v.operator v s.validators f) (tokens-within not_bonded v.operator v s.validators f) in
          record {
            stand = stand-paid t hs1 (after (hook_before v delegator held) (lists_of s)) u1 u2 backed from delegator v.status n paid stand-before;
            holds = then_held;
            tokens = tokens-few (is_bonded v.status) (v.tokens + n) _ _ u2 backed both.0 both.1 then_held;
          }

-- ---- the new stake

-- the validator with the amount and with these shares
abbrev pub grown : Validator → ℕ → ℕ → Validator
grown v n shares = record v { tokens = v.tokens + n; shares = shares }

sums_up : (x issued held : ℕ) → (x + issued) + held ≡ x + (held + issued)
sums_up x issued held = omega arith

no_less : (x i : ℕ) → 0 < i → x + i ≡ 0 → ⊥
no_less x i p e = omega (arith, p, e)

module _ (height : ℕ) (s : Staked) (h : IsSoundAt height s) (v : Validator) (f : validator_at s v.operator ≡ Some v) (delegator : List ℕ) (held : Option ℕ) (e : delegation s delegator v.operator ≡ held)
    (n issued total shares : ℕ) (given : IsGivenShares v issued) (shares_is : shares ≡ v.shares + issued) (total_is : total ≡ unwrap_or held 0 + issued)
    {S : Type 0} (t : Tells S) (hs : S) (u : View) (at_u : IsReached t hs u s v delegator held n) where
  some_total : 0 < total
  some_total = let a = given.some in let b = total_is in omega (arith, a, b)

  most_total : total ≤ shares
  most_total = let a = held-most height s h v f delegator held e in let b = total_is in let c = shares_is in omega (arith, a, b, c)

  pub ready-delegated : Ready t hs u (modified (grown v n shares) delegator total) (after (hook_before v delegator held) (lists_of s))
  ready-delegated = ready-after height s h v f delegator t hs u held (grown v n shares) total e refl some_total most_total at_u.tokens at_u.stand

  grown_is_sound : ValidatorIsSound height (grown v n shares)
  grown_is_sound = let old = h.validators v.operator v f in record {
    max_rate = old.max_rate;
    rate = old.rate;
    max_change = old.max_change;
    tokens = at_u.tokens;
    empty = λ z. absurd (no_less v.shares issued given.some (sym shares_is ∙ z));
    unbonding_height = old.unbonding_height;
  }

  pub sound-delegated : IsSoundAt height (put_delegation delegator v.operator total (put_validator (grown v n shares) s))
  sound-delegated = sound-after height s h v f delegator (grown v n shares) refl held e total some_total refl grown_is_sound
      (ap (λ x. x + unwrap_or held 0) shares_is ∙ sums_up v.shares issued (unwrap_or held 0) ∙ ap (λ x. v.shares + x) (sym total_is))

  pub lists-delegated_is : after (modified (grown v n shares) delegator total) (after (hook_before v delegator held) (lists_of s)) ≡ lists_of (put_delegation delegator v.operator total (put_validator (grown v n shares) s))
  lists-delegated_is = lists-after height s h v f delegator (grown v n shares) refl held e total some_total

  bonded_is : bonded_tokens (put_delegation delegator v.operator total (put_validator (grown v n shares) s)) ≡ bonded_tokens s + cond (is_bonded v.status) n 0
  bonded_is = grown_tokens (is_bonded v.status) (bonded_tokens s) _ v.tokens (v.tokens + n) n refl (tokens-after height s h v f delegator (grown v n shares) refl held e total some_total is_bonded)

  other_is : other_tokens (put_delegation delegator v.operator total (put_validator (grown v n shares) s)) ≡ other_tokens s + cond (is_bonded v.status) 0 n
  other_is = grown_other (is_bonded v.status) (other_tokens s) _ v.tokens (v.tokens + n) n refl (tokens-after height s h v f delegator (grown v n shares) refl held e total some_total not_bonded)

  pub holds-delegated : HoldsStake u (bonded_tokens (put_delegation delegator v.operator total (put_validator (grown v n shares) s))) (other_tokens (put_delegation delegator v.operator total (put_validator (grown v n shares) s)))
  holds-delegated = record {
    in_bonded = subst (λ x. x ≤ balance_of u.bank (account.Module holder.Bonded) u.ctx.params.bond_denom) (sym bonded_is) at_u.holds.in_bonded;
    in_not_bonded = subst (λ x. x ≤ balance_of u.bank (account.Module holder.NotBonded) u.ctx.params.bond_denom) (sym other_is) at_u.holds.in_not_bonded;
  }
