-- What sound records of staking say of validators.
use Rattle.std.proofs.Common.{◌≡◌, ℕ, ◌^◌, ◌≤◌, List, [], ◌∷◌, Some}
use Rattle.std.specs.{List.{AllByRecursion, Sorted.IsStrictlySortedBy}, Map.keys_of}
use Rattle.std.proofs.lemmas.List.Elements.{recursion_from_All}
use Rattle.base_types.specs.Orders.{addr_cmp}
use Rattle.base_roles.specs.{declared.entities.Validator.Validator, Staked.{Staked, validator_at}}
use Rattle.rule_modules.proofs.SoundLemmas.{to_points}
use Rattle.mod_staking.specs.{Calls.IsSoundStake, Listed.Validators, Registered.AreKeyed}

pub sound_ascend : (s : Staked) → IsSoundStake s → IsStrictlySortedBy addr_cmp (keys_of s.validators)
sound_ascend s h = h.1.validators_ascend

keyed : (es : Validators) → AllByRecursion (λ e. e.1.operator ≡ e.0) es → AreKeyed es
keyed [] h = tt
keyed (e ∷ es) h = (h.0, keyed es h.1)

pub sound_keyed : (s : Staked) → IsSoundStake s → AreKeyed s.validators
sound_keyed s h = keyed s.validators (recursion_from_All (λ e. e.1.operator ≡ e.0) s.validators h.1.operators)

pub sound_tokens : (s : Staked) (o : List ℕ) (v : Validator) → IsSoundStake s → validator_at s o ≡ Some v → v.tokens ≤ 10 ^ 18
sound_tokens s o v h f = ((to_points h.0 s h.1).validators o v f).tokens
