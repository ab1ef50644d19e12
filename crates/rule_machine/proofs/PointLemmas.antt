-- Validators and delegations stay sound as a validator is delegated to.
use Rattle.std.proofs.Common.{◌≡◌, ℕ, ◌+◌, ◌<◌, ◌==◌, false, cond, List, Some, ap, subst, arith, unwrap_or}
use Rattle.std.proofs.lemmas.Bool.Decides.{nat_tests}
use Rattle.base_roles.specs.{declared.entities.Validator.Validator, Entries.{with, without, with_number}}
use Rattle.base_roles.specs.{Orders.pair_cmp, Staked.{Staked, validator_at, delegation}}
use Rattle.rule_modules.specs.Sound.{ValidatorIsSound}
use Rattle.rule_modules.proofs.SoundLemmas.{IsSoundAt, Delegations, put_with, sound-changed}

module _ (height : ℕ) (w x : Validator) (s : Staked) (h : IsSoundAt height s) (f : validator_at s w.operator ≡ Some x) (c : w.cons ≡ x.cons) (ok : ValidatorIsSound height w) where
  -- it has more shares, as one delegation
  module _ (delegator : List ℕ) (issued : ℕ) (some : 0 < issued) where
    abbrev held : ℕ
    held = unwrap_or (delegation s delegator w.operator) 0

    abbrev after : Delegations
    after = with pair_cmp s.delegations (w.operator, delegator) (held + issued)

    as_number : with_number pair_cmp s.delegations (w.operator, delegator) (held + issued) ≡ after
    as_number = ap (λ b. cond b (without pair_cmp s.delegations (w.operator, delegator)) after) (not_zero (held + issued) (omega (arith, some)))
      where
        not_zero : (n : ℕ) → 0 < n → (n == 0) ≡ false
        not_zero n p = grind (arith, nat_tests)

    pub sound-more : w.shares ≡ x.shares + issued → IsSoundAt height (put_with w after s)
    sound-more n =
        subst (λ ds. IsSoundAt height (put_with w ds s)) as_number
        (sound-changed height w x delegator (held + issued) s h f c ok (omega (arith, n)))
