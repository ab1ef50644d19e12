-- Unbonding shares, and removing a validator (`x/staking/keeper`: `Unbond`, `RemoveValidator`).
use Rattle.std.specs.Prelude.{◌≡◌, ◌<◌, false, ℕ, ◌-◌, ◌==◌, ◌&&◌, ◌||◌, not, Bool, true, nat_lt, if◌then◌else◌, List, Option, Some, None, Result, Ok}
use Rattle.base_decimals.specs.declared.over.Over.{Over}
use Rattle.base_decimals.specs.Decimals.{trunc_of}
use Rattle.base_shares.specs.Shares.{value_even_of, amount_out}
use Rattle.base_roles.specs.declared.entities.Validator.{Validator}
use Rattle.base_roles.specs.declared.facts.Fact.TheVariants as fact
use Rattle.base_roles.specs.declared.refusal.Refusal.{Refusal}
use Rattle.base_roles.specs.declared.refusal.Refusal.TheVariants.{NoDelegation, TooManyShares, NoTokens}
use Rattle.base_shares.specs.Shares.{shares_for_amount}
use Rattle.base_roles.specs.Log as log
use Rattle.base_roles.specs.Orders.{same_addr}
use Rattle.base_roles.specs.Staked.{Staked, validator_at, delegation, put_validator, is_unbonded}
use Rattle.base_roles.specs.Flow.{◌>>=◌, ◌>>◌, stop_if, or_stop, stopping}
use Rattle.base_roles.specs.World.{View, Told, World, call, noted, over_view, over_mine, logged}
use Rattle.base_roles.specs.declared.calls.Hook.{Hook}
use Rattle.base_roles.specs.declared.calls.Hook.TheVariants.{Modifying as modifying, Modified as modified}
use Rattle.base_roles.specs.declared.calls.Hook.TheVariants as hook
use Rattle.rule_modules.specs.Stakes.{without_validator, put_delegation, without_shares}

-- The shares that an amount stands for, behind all shares of the delegation (`ValidateUnbondAmount`). Refused without a
-- delegation, without tokens, and where these are more shares than the delegation has.
abbrev pub shares_to_unbond : Option ℕ → Validator → ℕ → Result (ℕ × ℕ) Refusal
shares_to_unbond held v amount = do
  all ← or_stop held NoDelegation
  stop_if (v.tokens == 0) NoTokens
  part ← stopping (λ fault. TooManyShares) (shares_for_amount v.tokens v.shares amount)
  stop_if (nat_lt all part) TooManyShares
  Ok (all, part)

-- The delegator is the validator's operator, which is not jailed, and the shares left are worth less than its least
-- self-delegation (`Unbond`: `isValidatorOperator && !validator.Jailed`).
abbrev pub FallsBelowMinimum : Validator → List ℕ → ℕ → Type 0
FallsBelowMinimum v delegator left = (delegator ≡ v.operator) × (v.jailed ≡ false) × (trunc_of (value_even_of v.tokens v.shares left) < v.min_self)

-- the same as a test
abbrev pub falls_below_minimum : Validator → List ℕ → ℕ → Bool
falls_below_minimum v delegator left = same_addr delegator v.operator && not v.jailed && nat_lt (trunc_of (value_even_of v.tokens v.shares left)) v.min_self

-- a validator that is jailed, told by a fact (`jailValidator`)
abbrev pub put_in_jail : {H : Type 0} → Validator → World Staked H → World Staked H
put_in_jail v w = over_view (noted (fact.Jailed v.operator)) (over_mine (put_validator (record v { jailed = true })) w)

module _ {H : Type 0} (told : H → Hook → View → Told H) where
  -- The validator goes, then its last hook is called (`RemoveValidator`: `AfterValidatorRemoved`).
  abbrev pub validator_removed : Validator → World Staked H → Result (World Staked H) Over
  validator_removed v w = do
    w1 ← call told (hook.Removed v) (over_mine (without_validator v.operator) w)
    Ok (over_view (noted (fact.Removed v.operator)) w1)

  -- a validator that is unbonded and has no shares goes (`Unbond`: `validator.DelegatorShares.IsZero() && validator.IsUnbonded()`)
  abbrev pub removed_if_empty : Validator → World Staked H → Result (World Staked H) Over
  removed_if_empty v w = if is_unbonded v.status && (v.shares == 0) then validator_removed v w else Ok w

  -- What is left of a delegation stands, with the hook after, at the validator's old tokens and shares; where nothing is
  -- left, the delegation goes (`Unbond`: `RemoveDelegation`, or `SetDelegation` and `AfterDelegationModified`).
  abbrev pub left_standing : Validator → List ℕ → ℕ → World Staked H → Result (World Staked H) Over
  left_standing v delegator left w = if left == 0 then Ok (over_mine (without_shares delegator v.operator) w)
      else call told (modified v delegator left) (over_mine (put_delegation delegator v.operator left) w)

  -- Unbonding a part of the shares that a delegator holds, in this order: the hook before; jailing; what is left; the
  -- tokens and shares leave the validator, which may go (`Unbond`). Answers the amount that goes out.
  abbrev pub unbonded_shares : Validator → List ℕ → ℕ → ℕ → World Staked H → Result (ℕ × World Staked H) Over
  unbonded_shares v delegator held part w = do
    w1 ← call told (modifying v delegator held) w
    let falls = falls_below_minimum v delegator (held - part)
    let now = record v { jailed = v.jailed || falls }
    w2 ← left_standing now delegator (held - part) (if falls then put_in_jail v w1 else w1)
    let out = amount_out v.tokens v.shares part
    let less = record now { tokens = v.tokens - out; shares = v.shares - part }
    w3 ← removed_if_empty less (logged v.operator log.left (over_mine (put_validator less) w2))
    Ok (out, w3)

  -- The same for a call that is lent the delegations; without a validator or a delegation nothing goes out.
  abbrev pub unbonded_of : Option Validator → Option ℕ → List ℕ → ℕ → World Staked H → Result (ℕ × World Staked H) Over
  unbonded_of None held delegator part w = Ok (0, w)
  unbonded_of (Some v) None delegator part w = Ok (0, w)
  unbonded_of (Some v) (Some held) delegator part w = unbonded_shares v delegator held part w

  -- The same of the delegation of a delegator to an operator (`Unbond`).
  abbrev pub shares_unbonded : List ℕ → List ℕ → ℕ → World Staked H → Result (ℕ × World Staked H) Over
  shares_unbonded delegator operator part w = unbonded_of (validator_at w.mine operator) (delegation w.mine delegator operator) delegator part w
