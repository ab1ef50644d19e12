-- What the trial values hold and tell.
use Rattle.std.specs.Prelude.{ℕ, true, List, [], ◌∷◌, Option, Some, None, ⊤}
use Rattle.base_types.specs.Orders.{cons_cmp}
use Rattle.base_roles.specs.declared.entities.SigningInfo.{SigningInfo}
use Rattle.base_roles.specs.declared.entities.Validator.{Validator}
use Rattle.base_roles.specs.Entries.{at, with}
use Rattle.base_roles.specs.Staked.{Staked, validator_by_cons, put_validator}

-- a validator, where there is one, under its operator
abbrev pub under_own : Option Validator → List (List ℕ × Validator)
under_own None = []
under_own (Some v) = (v.operator, v) ∷ []

-- one validator, maybe another, and one delegation to the first
abbrev pub staked_once : Validator → Option Validator → List ℕ → ℕ → Staked
staked_once v spare delegator shares = record { validators = (v.operator, v) ∷ under_own spare; delegations = ((v.operator, delegator), shares) ∷ [] }

-- there is exactly one validator
abbrev pub HasOne : List (List ℕ × Validator) → Type 0
HasOne [] = ⊥
HasOne (v ∷ []) = ⊤
HasOne (v ∷ w ∷ vs) = ⊥

-- with this validator jailed, where there is one
abbrev pub jailed : Option Validator → Staked → Staked
jailed None s = s
jailed (Some v) s = put_validator (record v { jailed = true }) s

-- with the validator of a consensus address jailed
abbrev pub jailed_by_cons : List ℕ → Staked → Staked
jailed_by_cons cons s = jailed (validator_by_cons s cons) s

-- with this info banned until a moment, where there is one
abbrev pub banned : Option SigningInfo → List ℕ → ℕ → List (List ℕ × SigningInfo) → List (List ℕ × SigningInfo)
banned None cons until infos = infos
banned (Some i) cons until infos = with cons_cmp infos cons (record i { jailed_until = until; tombstoned = true })

-- with the info of a consensus address banned until a moment
abbrev pub banned_by_cons : List ℕ → ℕ → List (List ℕ × SigningInfo) → List (List ℕ × SigningInfo)
banned_by_cons cons until infos = banned (at cons_cmp infos cons) cons until infos
