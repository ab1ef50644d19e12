-- The target's validator, where shares are to be unbonded there, and what the rule does with it.
use Rattle.std.proofs.Common.{◌≡◌, ℕ, ◌<◌, Bool, true, false, cond, List, Option, Some, None, refl, sym, ap, subst, arith, ◌==◌, Ok, IfSome}
use Rattle.std.proofs.lemmas.Bool.Decides.{nat_tests}
use Rattle.base_roles.specs.{declared.entities.Validator.Validator, Lent.Unbonds, World.World}
use Rattle.rule_modules.specs.EntrySlashes.{burned_at_target}
use Rattle.mod_redelegation.specs.Slashed.{unbonded_burnt}

pub none_either : (b : Bool) (o : Option Validator) → o ≡ None → None ≡ cond b None o
none_either true o e = refl
none_either false o e = sym e

-- what is handed on is under its own operator still
pub own_unless_none : (b : Bool) (t : Validator) (x : List ℕ) → t.operator ≡ x → IfSome (cond b None (Some t)) (λ t. t.operator ≡ x)
own_unless_none true t x e = tt
own_unless_none false t x e = e

pub own_target : (o : Option Validator) (t : Validator) (x : List ℕ) → IfSome o (λ t. t.operator ≡ x) → o ≡ Some t → t.operator ≡ x
own_target o t x h e = subst (λ o. IfSome o (λ t. t.operator ≡ x)) e h

-- where it is one, there are shares, and it stands
pub some_target : (part : ℕ) (o : Option Validator) (t : Validator) → cond (part == 0) None o ≡ Some t → (0 < part) × (o ≡ Some t)
some_target part o t = by (part == 0) refl
  where
    by : (b : Bool) → (part == 0) ≡ b → cond b None o ≡ Some t → (0 < part) × (o ≡ Some t)
    by true e f = absurd cc
    by false e f = (grind (arith, nat_tests, e), f)

pub cond_true : {A : Type 0} (b : Bool) (x y : A) → b ≡ true → cond b x y ≡ x
cond_true true x y e = refl
cond_true false x y e = absurd cc

pub cond_false : {A : Type 0} (b : Bool) (x y : A) → b ≡ false → cond b x y ≡ y
cond_false true x y e = absurd cc
cond_false false x y e = refl

module _ {D H : Type 0} (lent : Unbonds D H) (delegator : List ℕ) (part : ℕ) (w : World D H) where
  -- nothing is done without one
  pub none_burned : (o : Option Validator) → cond (part == 0) None o ≡ None → burned_at_target lent o delegator part w ≡ Ok w
  none_burned None e = refl
  none_burned (Some t) e = by (part == 0) e
    where
      by : (b : Bool) → cond b None (Some t) ≡ None → cond b (Ok w) (unbonded_burnt lent t delegator part w) ≡ Ok w
      by true f = refl
      by false f = absurd cc

  -- and what goes out is burned where it is one
  pub some_burned : (o : Option Validator) (t : Validator) → cond (part == 0) None o ≡ Some t → burned_at_target lent o delegator part w ≡ unbonded_burnt lent t delegator part w
  some_burned None t e = by (part == 0) e
    where
      by : (b : Bool) → cond {A = Option Validator} b None None ≡ Some t → burned_at_target lent None delegator part w ≡ unbonded_burnt lent t delegator part w
      by true f = absurd cc
      by false f = absurd cc
  some_burned (Some u) t e = by (part == 0) e
    where
      by : (b : Bool) → cond b None (Some u) ≡ Some t → cond b (Ok w) (unbonded_burnt lent u delegator part w) ≡ unbonded_burnt lent t delegator part w
      by true f = absurd cc
      by false f = let same : u ≡ t = cc in ap (λ x. unbonded_burnt lent x delegator part w) same
