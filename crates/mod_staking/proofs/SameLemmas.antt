-- Whether two validators are one, field by field.
use Rattle.std.proofs.Common.{◌≡◌, ℕ, ◌==◌, ◌&&◌, Bool, true, false, List, refl, bytes_eq, sym, ◌∙◌, ap, arith}
use Rattle.std.proofs.lemmas.{Bool.Decides.nat_tests, Map.{Text.is_eq-slice_cmp, Lookups.exact_bytes}}
use Rattle.base_types.specs.declared.status.BondStatus.{BondStatus, TheVariants.{Bonded, Unbonding, Unbonded}}
use Rattle.base_roles.specs.declared.entities.{Commission.Commission, Validator.Validator}
use Rattle.base_records.proofs.SameLemmas.{both, number, number_itself, four, four_itself, bytes, bytes_itself}
use Rattle.mod_staking.specs.Items.{same_flag, same_status, same_commission, same_validator, same_shares}
use Rattle.rule_modules.proofs.OrderLemmas.{equal, same_itself}

flag : (a b : Bool) → same_flag a b ≡ true → a ≡ b
flag true true h = refl
flag true false h = cc
flag false true h = cc
flag false false h = refl

flag_itself : (a : Bool) → same_flag a a ≡ true
flag_itself true = refl
flag_itself false = refl

status : (a b : BondStatus) → same_status a b ≡ true → a ≡ b
status Bonded Bonded h = refl
status Bonded Unbonding h = cc
status Bonded Unbonded h = cc
status Unbonding Bonded h = cc
status Unbonding Unbonding h = refl
status Unbonding Unbonded h = cc
status Unbonded Bonded h = cc
status Unbonded Unbonding h = cc
status Unbonded Unbonded h = refl

status_itself : (a : BondStatus) → same_status a a ≡ true
status_itself Bonded = refl
status_itself Unbonding = refl
status_itself Unbonded = refl

commission : (a b : Commission) → same_commission a b ≡ true → a ≡ b
commission a b h =
    let parts = four a.rate a.max_rate a.max_change a.updated b.rate b.max_rate b.max_change b.updated h in
    λ i. record { rate = parts.0 i; max_rate = parts.1 i; max_change = parts.2 i; updated = parts.3 i }

commission_itself : (a : Commission) → same_commission a a ≡ true
commission_itself a = four_itself a.rate a.max_rate a.max_change a.updated

true_false : true ≡ false → ⊥
true_false h = cc

module _ (v w : Validator) where
  abbrev first : Bool
  first = bytes_eq v.operator w.operator && bytes_eq v.cons w.cons

  abbrev second : Bool
  second = (first && same_status v.status w.status) && same_flag v.jailed w.jailed

  abbrev third : Bool
  third = (second && (v.tokens == w.tokens)) && (v.shares == w.shares)

  abbrev fourth : Bool
  fourth = (third && same_commission v.commission w.commission) && (v.min_self == w.min_self)

  abbrev fifth : Bool
  fifth = fourth && (v.unbonding_height == w.unbonding_height)

  pub validator-yes : same_validator v w ≡ true → v ≡ w
  validator-yes h =
      let a = both fifth (v.unbonding_time == w.unbonding_time) h in
      let b = both fourth (v.unbonding_height == w.unbonding_height) a.0 in
      let c = both (third && same_commission v.commission w.commission) (v.min_self == w.min_self) b.0 in
      let d = both third (same_commission v.commission w.commission) c.0 in
      let e = both (second && (v.tokens == w.tokens)) (v.shares == w.shares) d.0 in
      let f = both second (v.tokens == w.tokens) e.0 in
      let g = both (first && same_status v.status w.status) (same_flag v.jailed w.jailed) f.0 in
      let k = both first (same_status v.status w.status) g.0 in
      let m = both (bytes_eq v.operator w.operator) (bytes_eq v.cons w.cons) k.0 in
      let is_operator = bytes v.operator w.operator m.0 in
      let is_cons = bytes v.cons w.cons m.1 in
      let is_status = status v.status w.status k.1 in
      let is_jailed = flag v.jailed w.jailed g.1 in
      let is_tokens = number v.tokens w.tokens f.1 in
      let is_shares = number v.shares w.shares e.1 in
      let is_commission = commission v.commission w.commission d.1 in
      let is_min_self = number v.min_self w.min_self c.1 in
      let is_height = number v.unbonding_height w.unbonding_height b.1 in
      let is_time = number v.unbonding_time w.unbonding_time a.1 in
      λ i. record {
        operator = is_operator i;
        cons = is_cons i;
        status = is_status i;
        jailed = is_jailed i;
        tokens = is_tokens i;
        shares = is_shares i;
        commission = is_commission i;
        min_self = is_min_self i;
        unbonding_height = is_height i;
        unbonding_time = is_time i;
      }

validator_itself : (v : Validator) → same_validator v v ≡ true
validator_itself v = λ i.
    ((((((((bytes_itself v.operator i && bytes_itself v.cons i) && status_itself v.status i) && flag_itself v.jailed i) && number_itself v.tokens i) && number_itself v.shares i)
    && commission_itself v.commission i) && number_itself v.min_self i) && number_itself v.unbonding_height i) && number_itself v.unbonding_time i

pub validator-no : (v w : Validator) → same_validator v w ≡ false → v ≡ w → ⊥
validator-no v w h e = true_false (sym (validator_itself v) ∙ ap (λ x. same_validator v x) e ∙ h)

pub shares-yes : (a b : ℕ) → same_shares a b ≡ true → a ≡ b
shares-yes a b h = number a b h

pub shares-no : (a b : ℕ) → same_shares a b ≡ false → a ≡ b → ⊥
shares-no a b h e = true_false (sym (number_itself a) ∙ ap (λ x. same_shares a x) e ∙ h)
