-- Who joins and who leaves the bonded set stands, once, and is bonded or not.
use Rattle.std.proofs.Common.{◌≡◌, ◌∙◌, ℕ, Bool, true, false, List, [], ◌∷◌, Some, refl, sym, ap, ◌&&◌, not, filter}
use Rattle.std.specs.{List.AllByRecursion, Map.values_of}
use Rattle.base_types.specs.declared.status.BondStatus.TheVariants.{Bonded}
use Rattle.base_roles.specs.{declared.entities.Validator.Validator, Orders.same_addr}
use Rattle.base_roles.specs.Staked.{Staked, validator_at, put_validator, is_bonded}
use Rattle.rule_modules.specs.BondedSet.{HaveOwnOperators, is_in_bonded_set, joining_of, leaving_of}
use Rattle.rule_modules.proofs.OperatorLemmas.{filtered_all, filtered_own, ordered_all, ordered_own, values_own}
use Rattle.rule_modules.proofs.OrderLemmas.{same_is}
use Rattle.mod_staking.{specs.Calls.IsSoundStake, proofs.IndexLemmas.keyed_found}
use Rattle.mod_bonded_set.{specs.Sets.{AllStand, all_joined}, proofs.PassedLemmas.standing_all}
use Rattle.mod_bonded_set.proofs.{StakeLemmas.{sound_ascend, sound_keyed}, TokenLemmas.still_stand}

-- ---- what passes a test

each_one : (P Q : Validator → Type 0) → ((v : Validator) → P v → Q v) → (vs : List Validator) → AllByRecursion P vs → AllByRecursion Q vs
each_one P Q f [] h = tt
each_one P Q f (v ∷ vs) h = (f v h.0, each_one P Q f vs h.1)

-- ---- all validators

both_of : (a b : Bool) → (a && b) ≡ true → (a ≡ true) × (b ≡ true)
both_of true b e = (refl, e)
both_of false b e = absurd cc

not_true : (b : Bool) → not b ≡ true → b ≡ false
not_true true e = absurd cc
not_true false e = refl

module _ (s : Staked) (sound : IsSoundStake s) (reduction most : ℕ) where
  abbrev vs : List Validator
  vs = values_of s.validators

  abbrev joins : Validator → Bool
  joins v = is_in_bonded_set reduction most vs v && not (is_bonded v.status)

  abbrev leaves : Validator → Bool
  leaves v = is_bonded v.status && not (is_in_bonded_set reduction most vs v)

  pub all_stand : AllStand s vs
  all_stand = standing_all reduction s.validators (sound_ascend s sound) (sound_keyed s sound) (λ v. validator_at s v.operator ≡ Some v)
      (λ o v f. ap (validator_at s) (keyed_found s.validators o v (sound_keyed s sound) f) ∙ f)

  pub joining-all : (Q : Validator → Type 0) → ((v : Validator) → validator_at s v.operator ≡ Some v → joins v ≡ true → Q v) → AllByRecursion Q (joining_of reduction most vs)
  joining-all Q f = ordered_all reduction Q (filter joins vs) (filtered_all joins Q vs (each_one (λ v. validator_at s v.operator ≡ Some v) (λ v. joins v ≡ true → Q v) f vs all_stand))

  pub leaving-all : (Q : Validator → Type 0) → ((v : Validator) → validator_at s v.operator ≡ Some v → leaves v ≡ true → Q v) → AllByRecursion Q (leaving_of reduction most vs)
  leaving-all Q f = filtered_all leaves Q vs (each_one (λ v. validator_at s v.operator ≡ Some v) (λ v. leaves v ≡ true → Q v) f vs all_stand)

  pub joining-stand : AllStand s (joining_of reduction most vs)
  joining-stand = joining-all (λ v. validator_at s v.operator ≡ Some v) (λ v f e. f)

  pub leaving-stand : AllStand s (leaving_of reduction most vs)
  leaving-stand = leaving-all (λ v. validator_at s v.operator ≡ Some v) (λ v f e. f)

  pub joining-new : AllByRecursion (λ v. is_bonded v.status ≡ false) (joining_of reduction most vs)
  joining-new = joining-all (λ v. is_bonded v.status ≡ false) (λ v f e. not_true (is_bonded v.status) (both_of (is_in_bonded_set reduction most vs v) (not (is_bonded v.status)) e).1)

  pub leaving-bonded : AllByRecursion (λ v. is_bonded v.status ≡ true) (leaving_of reduction most vs)
  leaving-bonded = leaving-all (λ v. is_bonded v.status ≡ true) (λ v f e. (both_of (is_bonded v.status) (not (is_in_bonded_set reduction most vs v)) e).0)

  pub joining-apart : HaveOwnOperators (joining_of reduction most vs)
  joining-apart = ordered_own reduction (filter joins vs) (filtered_own joins vs (values_own s.validators (sound_ascend s sound) (sound_keyed s sound)))

  pub leaving-apart : HaveOwnOperators (leaving_of reduction most vs)
  leaving-apart = filtered_own leaves vs (values_own s.validators (sound_ascend s sound) (sound_keyed s sound))

-- ---- who leaves is none of those that joined

some_same : (u v : Validator) → Some u ≡ Some v → u ≡ v
some_same u v e = cc

module _ (s : Staked) where
  differ : (u v : Validator) → validator_at s u.operator ≡ Some u → validator_at s v.operator ≡ Some v → is_bonded u.status ≡ false → is_bonded v.status ≡ true → same_addr u.operator v.operator ≡ false
  differ u v f g a c = by (same_addr u.operator v.operator) refl
    where
      by : (b : Bool) → same_addr u.operator v.operator ≡ b → b ≡ false
      by false e = refl
      by true e =
          let one : u ≡ v = some_same u v (sym f ∙ ap (validator_at s) (same_is u.operator v.operator e) ∙ g) in
          let both : false ≡ true = sym a ∙ ap (λ (x : Validator). is_bonded x.status) one ∙ c in
          absurd cc

  all_differ : (u : Validator) (vs : List Validator) → validator_at s u.operator ≡ Some u → is_bonded u.status ≡ false → AllStand s vs → AllByRecursion (λ v. is_bonded v.status ≡ true) vs → AllByRecursion (λ v. same_addr u.operator v.operator ≡ false) vs
  all_differ u [] f a g c = tt
  all_differ u (v ∷ vs) f a g c = (differ u v f g.0 a c.0, all_differ u vs f a g.1 c.1)

-- these are all apart from those
abbrev AreAway : List Validator → List Validator → Type 0
AreAway [] vs = Unit {0}
AreAway (u ∷ us) vs = AllByRecursion (λ v. same_addr u.operator v.operator ≡ false) vs × AreAway us vs

away : (s : Staked) (us vs : List Validator) → AllStand s us → AllByRecursion (λ u. is_bonded u.status ≡ false) us → AllStand s vs → AllByRecursion (λ v. is_bonded v.status ≡ true) vs → AreAway us vs
away s [] vs f a g c = tt
away s (u ∷ us) vs f a g c = (all_differ s u vs f.0 a.0 g c, away s us vs f.1 a.1 g c)

stand-away : (us vs : List Validator) (s : Staked) → AreAway us vs → AllStand s vs → AllStand (all_joined us s) vs
stand-away [] vs s d h = h
stand-away (u ∷ us) vs s d h = stand-away us vs (put_validator (record u { status = Bonded }) s) d.1 (still_stand (record u { status = Bonded }) s vs d.0 h)

pub leaving-stand-still : (s : Staked) (us vs : List Validator) → AllStand s us → AllByRecursion (λ u. is_bonded u.status ≡ false) us → AllStand s vs → AllByRecursion (λ v. is_bonded v.status ≡ true) vs → AllStand (all_joined us s) vs
leaving-stand-still s us vs f a g c = stand-away us vs s (away s us vs f a g c) g
