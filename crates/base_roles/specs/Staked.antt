-- Validators and delegations, and what calls leave of them.
use Rattle.std.specs.Prelude.{ℕ, ◌+◌, Bool, true, false, if◌then◌else◌, List, [], ◌∷◌, Option, is_some, find}
use Rattle.std.specs.Ordering.{is_eq}
use Rattle.std.specs.Map.{values_of}
use Rattle.base_types.specs.declared.status.BondStatus.{BondStatus}
use Rattle.base_types.specs.declared.status.BondStatus.TheVariants.{Bonded, Unbonding, Unbonded}
use Rattle.base_types.specs.Orders.{addr_cmp, cons_cmp}
use Rattle.base_roles.specs.declared.entities.Validator.{Validator}
use Rattle.base_roles.specs.Entries.{at, with}
use Rattle.base_roles.specs.Owing.{Lists}
use Rattle.base_roles.specs.Orders.{pair_cmp}

-- validators by operator, and shares by operator and delegator
pub record Staked : Type 0 where
  pub validators : List (List ℕ × Validator)
  pub delegations : List ((List ℕ × List ℕ) × ℕ)

-- the validator of an operator
abbrev pub validator_at : Staked → List ℕ → Option Validator
validator_at s operator = at addr_cmp s.validators operator

-- the validator of a consensus address
abbrev pub validator_by_cons : Staked → List ℕ → Option Validator
validator_by_cons s cons = find (λ v. is_eq (cons_cmp v.cons cons)) (values_of s.validators)

-- the shares of a delegation
abbrev pub delegation : Staked → List ℕ → List ℕ → Option ℕ
delegation s delegator operator = at pair_cmp s.delegations (operator, delegator)

-- the validators with this one
abbrev pub put_validator : Validator → Staked → Staked
put_validator v s = record s { validators = with addr_cmp s.validators v.operator v }

-- the operators and the started pairs for which hooks are to stand
abbrev pub lists_of : Staked → Lists
lists_of s = record { operators = λ o. is_some (validator_at s o); started = λ w o. is_some (delegation s w o) }

abbrev pub is_bonded : BondStatus → Bool
is_bonded Bonded = true
is_bonded Unbonding = false
is_bonded Unbonded = false

abbrev pub is_unbonded : BondStatus → Bool
is_unbonded Bonded = false
is_unbonded Unbonding = false
is_unbonded Unbonded = true

-- the tokens of the validators whose status passes the test
abbrev pub tokens_where : (BondStatus → Bool) → List (List ℕ × Validator) → ℕ
tokens_where test [] = 0
tokens_where test (e ∷ es) = (if test e.1.status then e.1.tokens else 0) + tokens_where test es

-- what is owed to validators from the bonded account
abbrev pub bonded_tokens : Staked → ℕ
bonded_tokens s = tokens_where is_bonded s.validators

-- what is owed to validators from the not-bonded account
abbrev pub other_tokens : Staked → ℕ
other_tokens s = tokens_where (λ status. if is_bonded status then false else true) s.validators
