-- Creating a validator: it joins without tokens, and its first hook may be called.
use Rattle.std.proofs.Common.{◌≡◌, ◌∙◌, ℕ, ◌+◌, ◌^◌, ◌≤◌, ◌==◌, Bool, true, false, cond, None, refl, sym, ap, subst, arith, Ok, Err, Result, ◌||◌, nat_lt, is_some, if◌then◌else◌}
use Rattle.std.{specs.Prelude.⊤, proofs.lemmas.Bool.Decides.nat_tests}
use Rattle.base_types.specs.declared.account.Account.TheVariants as account
use Rattle.base_types.specs.declared.account.Module.TheVariants as holder
use Rattle.base_roles.specs.declared.{entities.Validator.Validator, messages.CreateValidator.CreateValidator}
use Rattle.base_roles.specs.declared.refusal.Refusal.{Refusal}
use Rattle.base_roles.specs.declared.refusal.Refusal.TheVariants.{NonPositive, CommissionRange, MinSelfNotPositive, SelfBelowMinimum, CommissionBelowMinimum, ValidatorExists, ConsKeyExists, WrongDenom, Overflow}
use Rattle.base_roles.specs.{Holdings.balance_of, Hooks.{Tells, Stand, Ready}}
use Rattle.base_roles.specs.Staked.{Staked, validator_at, validator_by_cons, put_validator, lists_of, is_bonded, bonded_tokens, other_tokens}
use Rattle.base_roles.specs.{StakeChanges.HoldsStake, declared.faults.MessageFault.MessageFault, Answers.AnswersAs}
use Rattle.base_roles.specs.{Log.Log, Flow.{◌>>=◌, ◌>>◌, stop_if, stopping}, World.{View, Told, gives, World, hooked}}
use Rattle.base_roles.specs.declared.calls.Hook.{Hook, TheVariants.{Created as created}}
use Rattle.base_roles.specs.declared.faults.MessageFault.TheVariants as stop
use Rattle.rule_modules.specs.{Delegating.{is_wrong, wallet, delegated}, Sound.ValidatorIsSound}
use Rattle.rule_modules.specs.Validators.{new_validator, are_out_of_range}
use Rattle.rule_modules.proofs.{SoundLemmas.{IsSoundAt, sound-joined}, TokenLemmas.{tokens-joined, counted}}
use Rattle.rule_modules.specs.Validators as rule
use Rattle.mod_staking.{specs.Calls.{HasRates, create_formed, over, behind_log}, proofs.IndexLemmas.nobody_has}

-- none of the conditions of form holds
formed_all : (a b c d e : Bool) → (stop_if a NonPositive >> (stop_if b CommissionRange >> (stop_if c MinSelfNotPositive >> (stop_if d SelfBelowMinimum >> stop_if e CommissionBelowMinimum)))) ≡ Ok tt
    → (a ≡ false) × (b ≡ false) × (c ≡ false) × (d ≡ false) × (e ≡ false)
formed_all true b c d e f = absurd cc
formed_all false true c d e f = absurd cc
formed_all false false true d e f = absurd cc
formed_all false false false true e f = absurd cc
formed_all false false false false true f = absurd cc
formed_all false false false false false f = (refl, refl, refl, refl, refl)

formed : (m : CreateValidator) (minimum : ℕ) → create_formed m minimum ≡ Ok tt
    → ((m.amount.amount == 0) ≡ false) × (are_out_of_range m ≡ false) × ((m.min_self_delegation == 0) ≡ false) × (nat_lt m.amount.amount m.min_self_delegation ≡ false) × (nat_lt m.rate minimum ≡ false)
formed m minimum e = formed_all (m.amount.amount == 0) (are_out_of_range m) (m.min_self_delegation == 0) (nat_lt m.amount.amount m.min_self_delegation) (nat_lt m.rate minimum) e

all_false : (a b c : Bool) → ((a || b) || c) ≡ false → (a ≡ false) × (b ≡ false) × (c ≡ false)
all_false true b c e = absurd cc
all_false false true c e = absurd cc
all_false false false true e = absurd cc
all_false false false false e = (refl, refl, refl)

not_less : (a b : ℕ) → nat_lt a b ≡ false → b ≤ a
not_less a b e = grind (arith, nat_tests)

-- rates that are not out of their range
pub rates_within : (m : CreateValidator) → are_out_of_range m ≡ false → HasRates m
rates_within m e =
    let three = all_false (nat_lt (10 ^ 18) m.max_rate) (nat_lt m.max_rate m.rate) (nat_lt m.max_rate m.max_change_rate) e in
    record { max_rate = not_less (10 ^ 18) m.max_rate three.0; rate = not_less m.max_rate m.rate three.1; max_change = not_less m.max_rate m.max_change_rate three.2 }

pub rates : (m : CreateValidator) (minimum : ℕ) → create_formed m minimum ≡ Ok tt → HasRates m
rates m minimum e = rates_within m (formed m minimum e).1

new_is_sound : (height : ℕ) (m : CreateValidator) (time : ℕ) → HasRates m → ValidatorIsSound height (new_validator m time)
new_is_sound height m time r = record { max_rate = r.max_rate; rate = r.rate; max_change = r.max_change; tokens = omega arith; empty = λ z. refl; unbonding_height = omega arith }

module _ (s : Staked) (m : CreateValidator) (time : ℕ) (v : Validator) (is : v ≡ new_validator m time) (none : validator_at s m.validator ≡ None) where
  none_at : validator_at s v.operator ≡ None
  none_at = ap (λ x. validator_at s x.operator) is ∙ none

  pub ready-created : {S : Type 0} (t : Tells S) (hs : S) (u : View) → Stand t hs u (lists_of s) → Ready t hs u (created v) (lists_of s)
  ready-created t hs u p = record { stand = p; needs = ap is_some none_at; tokens = subst (λ n. n ≤ 10 ^ 18) (sym (ap (λ x. x.tokens) is)) (omega arith) }

  nothing_more : (n x y : ℕ) → y ≡ x + n → n ≡ 0 → y ≡ x
  nothing_more n x y e z = omega (arith, e, z)

  empty : (b : Bool) → cond b v.tokens 0 ≡ 0
  empty true = ap (λ x. x.tokens) is
  empty false = refl

  pub joined_tokens : (u : View) → HoldsStake u (bonded_tokens s) (other_tokens s) → HoldsStake u (bonded_tokens (put_validator v s)) (other_tokens (put_validator v s))
  joined_tokens u h = record {
    in_bonded = subst (λ n. n ≤ balance_of u.bank (account.Module holder.Bonded) u.ctx.params.bond_denom)
        (sym (nothing_more (counted is_bonded v) (bonded_tokens s) _ (tokens-joined is_bonded v.operator v s.validators none_at) (empty (is_bonded v.status)))) h.in_bonded;
    in_not_bonded = subst (λ n. n ≤ balance_of u.bank (account.Module holder.NotBonded) u.ctx.params.bond_denom)
        (sym (nothing_more (counted (λ status. if is_bonded status then false else true) v) (other_tokens s) _ (tokens-joined (λ status. if is_bonded status then false else true) v.operator v s.validators none_at) (empty (if is_bonded v.status then false else true)))) h.in_not_bonded;
  }

pub sound-created : (height : ℕ) (s : Staked) → IsSoundAt height s → (m : CreateValidator) (time : ℕ) (v : Validator) → v ≡ new_validator m time → HasRates m
    → validator_at s m.validator ≡ None → validator_by_cons s m.cons ≡ None → IsSoundAt height (put_validator v s)
sound-created height s h m time v is has none nobody = sound-joined height s v h (none_at s m time v is none)
    (λ p x e c. nobody_has s.validators m.cons p x nobody e (c ∙ ap (λ y. y.cons) is))
    (subst (ValidatorIsSound height) (sym is) (new_is_sound height m time has))
    (ap (λ y. y.shares) is)

-- ---- the rule, once nothing is refused before the operator delegates

-- what delegating leaves, without its answer
abbrev pub ended : {S H : Type 0} → ℕ × World S H → Result (⊤ × World S H) Refusal
ended p = Ok (tt, p.1)

-- a call that hands on what delegating answers
pub answers_ok : {S H : Type 0} (r : Result (ℕ × World S H) Refusal) (s : S) (holds : H → Type 0) (v : View) (n : ℕ) → AnswersAs r s holds v (Ok n) → AnswersAs (r >>= ended) s holds v (Ok tt)
answers_ok (Ok p) s holds v n a = (refl, a.1, a.2, a.3)
answers_ok (Err why) s holds v n a = absurd a

pub answers_err : {S H : Type 0} (r : Result (ℕ × World S H) Refusal) (s : S) (holds : H → Type 0) (v : View) (why : MessageFault) → AnswersAs r s holds v (Err why) → AnswersAs (r >>= ended) s holds v (Err why)
answers_err (Ok p) s holds v (stop.Refused why) a = absurd a
answers_err (Ok p) s holds v stop.NoMemory a = tt
answers_err (Err due) s holds v (stop.Refused why) a = a
answers_err (Err due) s holds v stop.NoMemory a = tt

module _ {H : Type 0} (told : H → Hook → View → Told H) (m : CreateValidator) (s : Staked) (h : H) (u : View) where
  -- the rule, with its tests and what is told of its first hook
  chain : (v : Validator) (a b c d e x y z : Bool) → Told H → Result (⊤ × World Staked H) Refusal
  chain v a b c d e x y z t = do
    stop_if a NonPositive
    stop_if b CommissionRange
    stop_if c MinSelfNotPositive
    stop_if d SelfBelowMinimum
    stop_if e CommissionBelowMinimum
    stop_if x ValidatorExists
    stop_if y ConsKeyExists
    stop_if z WrongDenom
    w1 ← stopping Overflow (hooked t (over (put_validator v s) h u))
    (issued, w2) ← delegated told v m.validator m.amount.amount wallet w1
    Ok (tt, w2)

  pub created_then : (v : Validator) (h1 : H) (u1 : View) (log : Log) → v ≡ new_validator m u.ctx.time → create_formed m u.ctx.params.min_commission_rate ≡ Ok tt
      → validator_at s m.validator ≡ None → validator_by_cons s m.cons ≡ None → is_wrong m.amount u ≡ false → told h (created v) u ≡ gives h1 u1 log
      → rule.created told m (over s h u) ≡ (delegated told v m.validator m.amount.amount wallet (behind_log log (put_validator v s) h1 u1) >>= ended)
  unfolding chain
  created_then v h1 u1 log is well none nobody right t =
      let f = formed m u.ctx.params.min_commission_rate well in
      (λ i. chain (sym is i) (f.0 i) (f.1 i) (f.2 i) (f.3 i) (f.4 i) (ap is_some none i) (ap is_some nobody i) (right i) (told h (created (sym is i)) u))
      ∙ ap (chain v false false false false false false false false) t
