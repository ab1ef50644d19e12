-- Leaving jail by the rule, step by step, and what a call that follows it answers.
use Rattle.std.proofs.Common.{◌≡◌, ◌∙◌, ℕ, ◌^◌, ◌<◌, ◌≤◌, false, List, Some, None, Result, Ok, Err, refl, sym, ap, subst, arith, not, nat_lt, option_map}
use Rattle.std.specs.Prelude.{⊤}
use Rattle.base_decimals.specs.Decimals.{trunc_of}
use Rattle.base_shares.specs.Shares.{value_even_of}
use Rattle.base_roles.specs.declared.{entities.{SigningInfo.SigningInfo, Validator.Validator}, refusal.Refusal.Refusal}
use Rattle.base_roles.specs.declared.refusal.Refusal.TheVariants.{NoValidator, NoSelfDelegation, SelfBelowMinimum, NotJailed, StillJailed, Tombstoned}
use Rattle.base_roles.specs.Staked.{Staked, validator_at, delegation, put_validator}
use Rattle.base_roles.specs.{Flow.{◌>>=◌, ◌>>◌, stop_if, or_stop}, World.{View, noted}}
use Rattle.base_roles.specs.declared.facts.Fact.TheVariants as fact
use Rattle.base_roles.specs.declared.faults.MessageFault.TheVariants as stop
use Rattle.rule_modules.specs.{Answers.AnswersHeld, Window.{Signing, Window, may_leave, signing_of, unjailed}}
use Rattle.rule_modules.proofs.SoundLemmas.{IsSoundAt, to_points}
use Rattle.mod_staking.{specs.Calls.{IsSoundStake, changed_at, with_if}, proofs.DelegateLemmas.held-most}
use Rattle.mod_signing.specs.{Calls.{HasEntry, free_to_leave, over_by}, Kept.{Signed, Kept, signed_of}}
use Rattle.mod_signing.{specs.Stands.{KeepsSignings, KeepsVotes}, proofs.StandLemmas.{none_at, plain_at}}

-- one step behind two is the second step with it behind the first
then_then : {E A B C : Type 0} (a : Result A E) (b : Result B E) (c : Result C E) → ◌>>◌ (◌>>◌ a b) c ≡ ◌>>◌ a (◌>>◌ b c)
then_then (Ok x) b c = refl
then_then (Err e) b c = refl

module _ (operator : List ℕ) (i : Window) (s : Staked) (w : View) where
  -- what is left once a validator was found, and the shares of its own operator
  abbrev pub freed : Validator → Result (⊤ × Staked × View) Refusal
  freed v = ◌>>◌ (may_leave w.ctx.time (signing_of i v.cons)) (Ok (tt, put_validator (record v { jailed = false }) s, noted (fact.Unjailed operator) w))

  abbrev by_shares : Validator → ℕ → Result (⊤ × Staked × View) Refusal
  by_shares v held =
      ◌>>◌ (stop_if (nat_lt (trunc_of (value_even_of v.tokens v.shares held)) v.min_self) SelfBelowMinimum)
      (◌>>◌ (stop_if (not v.jailed) NotJailed) (freed v))

  abbrev by_validator : Validator → Result (⊤ × Staked × View) Refusal
  by_validator v = ◌>>=◌ (or_stop (delegation s operator operator) NoSelfDelegation) (by_shares v)

  pub unjail-nobody : validator_at s operator ≡ None → unjailed operator i s w ≡ Err NoValidator
  unjail-nobody e = ap (λ x. ◌>>=◌ (or_stop x NoValidator) by_validator) e

  pub unjail-nothing : (v : Validator) → validator_at s operator ≡ Some v → delegation s operator operator ≡ None → unjailed operator i s w ≡ Err NoSelfDelegation
  unjail-nothing v e f = ap (λ x. ◌>>=◌ (or_stop x NoValidator) by_validator) e ∙ ap (λ x. ◌>>=◌ (or_stop x NoSelfDelegation) (by_shares v)) f

  pub unjail-found : (v : Validator) (held : ℕ) → validator_at s operator ≡ Some v → delegation s operator operator ≡ Some held → unjailed operator i s w ≡ ◌>>◌ (free_to_leave v held) (freed v)
  unjail-found v held e f =
      ap (λ x. ◌>>=◌ (or_stop x NoValidator) by_validator) e ∙ ap (λ x. ◌>>=◌ (or_stop x NoSelfDelegation) (by_shares v)) f
      ∙ sym (then_then (stop_if (nat_lt (trunc_of (value_even_of v.tokens v.shares held)) v.min_self) SelfBelowMinimum) (stop_if (not v.jailed) NotJailed) (freed v))

  -- what is refused first, what then, and what is left where nothing is
  module _ (v : Validator) (held : ℕ) (e : validator_at s operator ≡ Some v) (f : delegation s operator operator ≡ Some held) where
    pub refused-first : (why : Refusal) → Err why ≡ free_to_leave v held → unjailed operator i s w ≡ Err why
    refused-first why h = unjail-found v held e f ∙ ap (λ r. ◌>>◌ r (freed v)) (sym h)

    after_free : Ok tt ≡ free_to_leave v held → unjailed operator i s w ≡ freed v
    after_free h = unjail-found v held e f ∙ ap (λ r. ◌>>◌ r (freed v)) (sym h)

    pub refused-then : Ok tt ≡ free_to_leave v held → (why : Refusal) → Err why ≡ may_leave w.ctx.time (signing_of i v.cons) → unjailed operator i s w ≡ Err why
    refused-then h why k = after_free h ∙ ap (λ r. ◌>>◌ r (Ok (tt, put_validator (record v { jailed = false }) s, noted (fact.Unjailed operator) w))) (sym k)

    pub leaves : Ok tt ≡ free_to_leave v held → Ok tt ≡ may_leave w.ctx.time (signing_of i v.cons) → unjailed operator i s w ≡ Ok (tt, put_validator (record v { jailed = false }) s, noted (fact.Unjailed operator) w)
    leaves h k = after_free h ∙ ap (λ r. ◌>>◌ r (Ok (tt, put_validator (record v { jailed = false }) s, noted (fact.Unjailed operator) w))) (sym k)

  -- what clearing the jail changes of a validator that is known
  pub cleared : (v : Validator) → validator_at s operator ≡ Some v → changed_at (λ v. record v { jailed = false }) operator s ≡ put_validator (record v { jailed = false }) s
  cleared v e = ap (λ x. with_if (option_map {T = Validator} (λ v. record v { jailed = false }) x) s) e

-- what a call answers that the rule refuses, and one that wants memory
pub refuses : (r : Result (⊤ × Staked × View) Refusal) (s : Staked) (w : View) (why : Refusal) → r ≡ Err why → AnswersHeld r s w (Err (stop.Refused why))
refuses r s w why e = subst (λ x. AnswersHeld x s w (Err (stop.Refused why))) (sym e) refl

pub wants : (r : Result (⊤ × Staked × View) Refusal) (due : ⊤ × Staked × View) (s : Staked) (w : View) → r ≡ Ok due → AnswersHeld r s w (Err stop.NoMemory)
wants r due s w e = subst (λ x. AnswersHeld x s w (Err stop.NoMemory)) (sym e) tt

pub done : (r : Result (⊤ × Staked × View) Refusal) (s : Staked) (w : View) → r ≡ Ok (tt, s, w) → AnswersHeld r s w (Ok tt)
done r s w e = subst (λ x. AnswersHeld x s w (Ok tt)) (sym e) (refl, refl, refl)

-- ---- the signing record

-- what keeps a record from leaving jail is told by its info
pub leave_by : (window now : ℕ) (k : Signed) (s : Signing) → KeepsVotes window k s
    → may_leave now (Some s) ≡ over_by now k.info
leave_by window now k s st =
    let banned : s.tombstoned ≡ k.info.tombstoned = sym (ap (λ x. x.tombstoned) st.info) in
    let until : s.jailed_until ≡ k.info.jailed_until = sym (ap (λ x. x.jailed_until) st.info) in
    λ j. ◌>>◌ (stop_if (banned j) Tombstoned) (stop_if (nat_lt now (until j)) (StillJailed (until j)))

-- of each plain record that an info stands for
pub leaves_at : (window now : ℕ) (kept : Kept) (i : Window) (cons : List ℕ) (info : SigningInfo) (places : ℕ) → KeepsSignings window kept i → HasEntry cons info places kept
    → may_leave now (signing_of i cons) ≡ over_by now info
leaves_at window now kept i cons info places keeps h =
    let p = plain_at window kept i cons h.0 keeps h.1.0 in
    ap (may_leave now) p.1.0 ∙ leave_by window now h.0 p.0 p.1.1
    ∙ ap (over_by now) (sym h.1.1.0)

pub leaves_none : (window now : ℕ) (kept : Kept) (i : Window) (cons : List ℕ) → KeepsSignings window kept i → signed_of kept cons ≡ None → may_leave now (signing_of i cons) ≡ Ok tt
leaves_none window now kept i cons keeps e = ap (may_leave now) (none_at window kept i cons keeps e)

-- ---- the operator's own delegation

module _ (s : Staked) (sound : IsSoundStake s) (operator : List ℕ) (v : Validator) (f : validator_at s operator ≡ Some v) (held : ℕ) (e : delegation s operator operator ≡ Some held) where
  abbrev own_at : IsSoundAt sound.0 s
  own_at = to_points sound.0 s sound.1

  same_operator : v.operator ≡ operator
  same_operator = own_at.operators operator v f

  pub own-tokens : v.tokens ≤ 10 ^ 18
  own-tokens = (own_at.validators operator v f).tokens

  pub own-few : held ≤ v.shares
  own-few = held-most sound.0 s own_at v (subst (λ o. validator_at s o ≡ Some v) (sym same_operator) f) operator (Some held) (subst (λ o. delegation s operator o ≡ Some held) (sym same_operator) e)

  pub own-some : 0 < v.shares
  own-some = let some : 0 < held = own_at.positive (operator, operator) held e in omega (arith, some, own-few)
