-- A validator joins the bonded set: its hook may be called, and exceeds nothing where hooks are sure.
use Rattle.std.proofs.Common.{◌≡◌, ◌∙◌, true, List, [], ◌∷◌, ◌++◌, Some, refl, ap, Err, is_some, option_map}
use Rattle.base_types.specs.declared.status.BondStatus.TheVariants.{Bonded}
use Rattle.base_roles.specs.{declared.{entities.Validator.Validator, faults.HookFault.HookFault}, Answers.Answers}
use Rattle.base_roles.specs.{declared.facts.Fact.Fact, Hooks.{Tells, Stand, Ready, Lawful, Keeps}, Owing.Lists}
use Rattle.base_roles.specs.{Staked.{Staked, validator_at, put_validator, lists_of}, World.View}
use Rattle.base_roles.specs.declared.calls.Hook.TheVariants.{Bonded as bonded}
use Rattle.base_roles.specs.declared.faults.HookFault.TheVariants as hook
use Rattle.rule_modules.proofs.SoundLemmas.{to_points, found_itself}
use Rattle.mod_staking.{specs.Calls.{IsSoundStake, with_if, changed_at}, proofs.ListLemmas.lists-put}
use Rattle.mod_staking.proofs.RemoveLemmas.{given_fault}

abbrev pub in_set : Validator → Validator
in_set v = record v { status = Bonded }

-- a changed validator, where it stands
pub changed_is : (f : Validator → Validator) (s s2 : Staked) (v : Validator) → validator_at s v.operator ≡ Some v → s2 ≡ changed_at f v.operator s → s2 ≡ put_validator (f v) s
changed_is f s s2 v found e = e ∙ ap (λ o. with_if (option_map f o) s) found

-- the lists for which hooks stand are the same once it is in the set
pub lists-joined_set : (s s2 : Staked) (v : Validator) → validator_at s v.operator ≡ Some v → s2 ≡ put_validator (in_set v) s → lists_of s2 ≡ lists_of s
lists-joined_set s s2 v found e = ap lists_of e ∙ lists-put s (in_set v) v found

pub ready-bonded : (s2 s : Staked) (v : Validator) → IsSoundStake s2 → s2 ≡ put_validator (in_set v) s → {S : Type 0} (t : Tells S) (hs : S) (u : View) → Stand t hs u (lists_of s2) → Ready t hs u (bonded (in_set v)) (lists_of s2)
ready-bonded s2 s v sound e t hs u p =
    let found : validator_at s2 v.operator ≡ Some (in_set v) = ap (λ x. validator_at x v.operator) e ∙ found_itself s (in_set v) in
    record { stand = p; needs = ap is_some found; tokens = ((to_points sound.0 s2 sound.1).validators v.operator (in_set v) found).tokens }

pub sure_bonded_fault : {S : Type 0} (t : Tells S) → Lawful t → (s : S) (holds : S → Type 0) (x : Validator) (v v2 : View) (l : Lists) (fault : HookFault) → t.sure s ≡ true → Ready t s v (bonded x) l → Answers (t.told s (bonded x) v) holds v2 (Err fault)
    → fault ≡ hook.NoMemory
sure_bonded_fault t lawful s holds x v v2 l fault q r a = given_fault (t.told s (bonded x) v) holds v2 fault (lawful.sure_bonded s x v l q r) a

-- nothing changed
pub nothing_kept : (N : Type 0) (v : View) → Keeps N v v
nothing_kept N v = record {
  ctx = refl;
  supplies = refl;
  bonded = λ d. refl;
  not_bonded = λ d. refl;
  fee_collector = λ d. refl;
  distribution = λ n d. refl;
  facts = ([], none v.facts);
}
  where
    none : (fs : List Fact) → fs ≡ fs ++ []
    none [] = refl
    none (f ∷ fs) = ap (λ l. f ∷ l) (none fs)
