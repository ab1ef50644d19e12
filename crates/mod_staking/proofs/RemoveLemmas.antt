-- Removing a validator: its last hook may be called, and exceeds nothing where hooks are sure.
use Rattle.std.proofs.Common.{◌≡◌, ℕ, true, Some, refl, ap, Err, is_some}
use Rattle.base_decimals.specs.declared.over.Over.{Over}
use Rattle.base_roles.specs.{declared.{entities.Validator.Validator, faults.HookFault.HookFault}, Answers.Answers}
use Rattle.base_roles.specs.{Hooks.{Tells, Stand, Ready, Lawful, IsGiven}, Owing.Lists}
use Rattle.base_roles.specs.{Staked.{Staked, validator_at, lists_of}, World.{View, Told, gives, exceeds}}
use Rattle.base_roles.specs.declared.calls.Hook.TheVariants.{Removed as removed}
use Rattle.base_roles.specs.declared.faults.HookFault.TheVariants as hook
use Rattle.rule_modules.proofs.SoundLemmas.{IsSoundAt}
use Rattle.mod_staking.proofs.SoundLemmas.{no_shares}

pub ready-removed : (height : ℕ) (s : Staked) (v : Validator) → IsSoundAt height s → validator_at s v.operator ≡ Some v → v.shares ≡ 0 → {S : Type 0} (t : Tells S) (hs : S) (u : View) → Stand t hs u (lists_of s)
    → Ready t hs u (removed v) (lists_of s)
ready-removed height s v h f z t hs u p = record { stand = p; needs = (ap is_some f, λ delegator. ap is_some (no_shares height s v h f z delegator)); tokens = (h.validators v.operator v f).tokens }

not_given : {S : Type 0} (over : Over) → IsGiven {S = S} (exceeds over) → ⊥
not_given over i = let e = i.1.1.1 in cc

-- a hook of which something is given has no fault but want of memory
pub given_fault : {S : Type 0} (t : Told S) (holds : S → Type 0) (v : View) (fault : HookFault) → IsGiven t → Answers t holds v (Err fault) → fault ≡ hook.NoMemory
given_fault (gives s2 v2 log) holds v (hook.Over over) i a = absurd a
given_fault (gives s2 v2 log) holds v hook.NoMemory i a = refl
given_fault {S = S} (exceeds over) holds v fault i a = absurd (not_given over i)

pub sure_fault : {S : Type 0} (t : Tells S) → Lawful t → (s : S) (holds : S → Type 0) (x : Validator) (v v2 : View) (l : Lists) (fault : HookFault) → t.sure s ≡ true → Ready t s v (removed x) l → Answers (t.told s (removed x) v) holds v2 (Err fault)
    → fault ≡ hook.NoMemory
sure_fault t lawful s holds x v v2 l fault q r a = given_fault (t.told s (removed x) v) holds v2 fault (lawful.sure_removed s x v l q r) a
