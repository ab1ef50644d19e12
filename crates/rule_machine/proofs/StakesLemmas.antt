-- What a new validator has: nobody else its consensus address, and rates that are rates.
use Rattle.std.proofs.Common.{◌≡◌, ◌∙◌, ℕ, ◌^◌, ◌≤◌, Bool, true, false, cond, nat_lt, List, [], ◌∷◌, Some, None, refl, sym, ap, arith, ◌||◌, find, is_eq}
use Rattle.std.{specs.{Cmp.eq_by_cmp_equiv, Map.values_of}, proofs.lemmas.Bool.Decides.nat_tests}
use Rattle.base_types.specs.Orders.{addr_cmp, cons_cmp}
use Rattle.base_roles.specs.declared.{entities.Validator.Validator, messages.CreateValidator.CreateValidator}
use Rattle.base_roles.specs.{Entries.at, Orders.same_addr}
use Rattle.rule_modules.specs.{Sound.ValidatorIsSound, Validators.{new_validator, are_out_of_range}}
use Rattle.rule_modules.proofs.{SoundLemmas.later, OrderLemmas.addr_total}
use Rattle.rule_machine.proofs.StakeLemmas.{Validators, some_is}

-- ---- consensus addresses

-- nobody has a consensus address where nobody is found by it
pub nobody_has : (cons : List ℕ) (es : Validators) (p : List ℕ) (x : Validator) → find (λ v. is_eq (cons_cmp v.cons cons)) (values_of es) ≡ None → at addr_cmp es p ≡ Some x → x.cons ≡ cons → ⊥
nobody_has cons [] p x n f c = absurd cc
nobody_has cons (e ∷ es) p x n f c = by (is_eq (cons_cmp e.1.cons cons)) refl n (same_addr p e.0) f (λ m g. nobody_has cons es p x m g c)
  where
    by : (b : Bool) → is_eq (cons_cmp e.1.cons cons) ≡ b → cond b (Some e.1) (find (λ v. is_eq (cons_cmp v.cons cons)) (values_of es)) ≡ None
        → (d : Bool) → cond d (Some e.1) (at addr_cmp es p) ≡ Some x → (find (λ v. is_eq (cons_cmp v.cons cons)) (values_of es) ≡ None → at addr_cmp es p ≡ Some x → ⊥) → ⊥
    by true h m d g later = absurd cc
    by false h m false g later = later m g
    by false h m true g later =
        let same : e.1 ≡ x = some_is e.1 x g in
        let is : e.1.cons ≡ cons = ap (λ (v : Validator). v.cons) same ∙ c in
        let itself : is_eq (cons_cmp cons cons) ≡ true = (eq_by_cmp_equiv addr_total).refl cons in
        let both : true ≡ false = sym itself ∙ ap (λ k. is_eq (cons_cmp k cons)) (sym is) ∙ h in
        absurd cc

-- ---- rates

first_false : (a b : Bool) → (a || b) ≡ false → (a ≡ false) × (b ≡ false)
first_false true b e = absurd cc
first_false false b e = (refl, e)

at_most : (a b : ℕ) → nat_lt a b ≡ false → b ≤ a
at_most a b e = grind (arith, nat_tests)

-- a new validator, of rates that are rates
pub new_is_sound : (height : ℕ) (m : CreateValidator) (time : ℕ) → are_out_of_range m ≡ false → ValidatorIsSound height (new_validator m time)
new_is_sound height m time e =
    let first = first_false (nat_lt (10 ^ 18) m.max_rate || nat_lt m.max_rate m.rate) (nat_lt m.max_rate m.max_change_rate) e in
    let two = first_false (nat_lt (10 ^ 18) m.max_rate) (nat_lt m.max_rate m.rate) first.0 in
    record {
      max_rate = at_most (10 ^ 18) m.max_rate two.0;
      rate = at_most m.max_rate m.rate two.1;
      max_change = at_most m.max_rate m.max_change_rate first.1;
      tokens = omega arith;
      empty = λ z. refl;
      unbonding_height = omega arith;
    }
