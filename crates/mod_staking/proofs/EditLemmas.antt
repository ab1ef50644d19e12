-- Editing a validator: what an edit leaves of it.
use Rattle.std.proofs.Common.{◌≡◌, ◌∙◌, ℕ, ◌+◌, ◌-◌, ◌≤◌, Bool, true, false, Option, Some, None, refl, subst, arith, Ok, Result, nat_lt, nat_le}
use Rattle.std.proofs.lemmas.Bool.Decides.{nat_tests}
use Rattle.base_roles.specs.declared.entities.Validator.{Validator}
use Rattle.base_roles.specs.declared.refusal.Refusal.TheVariants.{CommissionTooSoon, CommissionAboveMax, CommissionStep, CommissionBelowMinimum, MinSelfNotRaised, SelfBelowMinimum}
use Rattle.base_roles.specs.Flow.{◌>>◌, stop_if}
use Rattle.rule_modules.specs.{Amounts.seconds, Validators.{rate_edited, minimum_edited}}

-- an edit leaves all of a validator but its rate, which is still no more than its highest, and its least self-delegation
pub record IsEdited (v w : Validator) : Type 0 where
  pub operator : w.operator ≡ v.operator
  pub cons : w.cons ≡ v.cons
  pub tokens : w.tokens ≡ v.tokens
  pub shares : w.shares ≡ v.shares
  pub max_rate : w.commission.max_rate ≡ v.commission.max_rate
  pub max_change : w.commission.max_change ≡ v.commission.max_change
  pub rate : v.commission.rate ≤ v.commission.max_rate → w.commission.rate ≤ w.commission.max_rate

same_validator : (v w : Validator) → v ≡ w → IsEdited v w
same_validator v w e = subst (IsEdited v) e (record { operator = refl; cons = refl; tokens = refl; shares = refl; max_rate = refl; max_change = refl; rate = λ r. r })

ok_same : {E : Type 0} (v w : Validator) → ◌≡◌ {A = Result Validator E} (Ok v) (Ok w) → v ≡ w
ok_same v w e = cc

new_rate : (a b c d : Bool) (v u w : Validator) → (b ≡ false → IsEdited v u) → (stop_if a CommissionTooSoon >> (stop_if b CommissionAboveMax >> (stop_if c CommissionStep >> (stop_if d CommissionBelowMinimum >> Ok u)))) ≡ Ok w → IsEdited v w
new_rate true b c d v u w h e = absurd cc
new_rate false true c d v u w h e = absurd cc
new_rate false false true d v u w h e = absurd cc
new_rate false false false true v u w h e = absurd cc
new_rate false false false false v u w h e = subst (IsEdited v) (ok_same u w e) (h refl)

not_less : (a b : ℕ) → nat_lt a b ≡ false → b ≤ a
not_less a b e = grind (arith, nat_tests)

pub edited-rate : (rate : Option ℕ) (time minimum : ℕ) (v w : Validator) → rate_edited rate time minimum v ≡ Ok w → IsEdited v w
edited-rate None time minimum v w e = same_validator v w (ok_same v w e)
edited-rate (Some n) time minimum v w e =
    new_rate (nat_lt (time - v.commission.updated) (seconds 86400)) (nat_lt v.commission.max_rate n) (nat_lt (v.commission.rate + v.commission.max_change) n) (nat_lt n minimum)
    v (record v { commission = record v.commission { rate = n; updated = time } }) w
    (λ b. record { operator = refl; cons = refl; tokens = refl; shares = refl; max_rate = refl; max_change = refl; rate = λ r. not_less v.commission.max_rate n b }) e

new_least : (a b : Bool) (v u w : Validator) → IsEdited v u → (stop_if a MinSelfNotRaised >> (stop_if b SelfBelowMinimum >> Ok u)) ≡ Ok w → IsEdited v w
new_least true b v u w h e = absurd cc
new_least false true v u w h e = absurd cc
new_least false false v u w h e = subst (IsEdited v) (ok_same u w e) h

pub edited-least : (least : Option ℕ) (v w : Validator) → minimum_edited least v ≡ Ok w → IsEdited v w
edited-least None v w e = same_validator v w (ok_same v w e)
edited-least (Some n) v w e = new_least (nat_le n v.min_self) (nat_lt v.tokens n) v (record v { min_self = n }) w
    (record { operator = refl; cons = refl; tokens = refl; shares = refl; max_rate = refl; max_change = refl; rate = λ r. r }) e

pub edited-both : (u v w : Validator) → IsEdited u v → IsEdited v w → IsEdited u w
edited-both u v w p q = record {
  operator = q.operator ∙ p.operator;
  cons = q.cons ∙ p.cons;
  tokens = q.tokens ∙ p.tokens;
  shares = q.shares ∙ p.shares;
  max_rate = q.max_rate ∙ p.max_rate;
  max_change = q.max_change ∙ p.max_change;
  rate = λ r. q.rate (p.rate r);
}
