-- What items and pending rewards tell of what is asked for.
use Rattle.std.specs.Prelude.{ℕ, List, Bool, true, false, bytes_eq, Option, Some, None}
use Rattle.base_types.specs.declared.account.Account.{Account}
use Rattle.base_types.specs.Accounts.{account_bytes}
use Rattle.base_coins.specs.Coins.{Money}
use Rattle.base_roles.specs.declared.entities.Purse.{Purse}
use Rattle.base_roles.specs.declared.entities.RedelegationEntry.{RedelegationEntry}
use Rattle.base_roles.specs.declared.entities.SigningInfo.{SigningInfo}
use Rattle.base_roles.specs.declared.entities.UnbondingEntry.{UnbondingEntry}
use Rattle.base_roles.specs.declared.entities.Validator.{Validator}
use Rattle.base_roles.specs.declared.items.Item.{Item}
use Rattle.base_roles.specs.declared.items.Item.TheVariants as item
use Rattle.base_messages.specs.declared.report.Pending.{Pending}

-- Whose lines are asked for: those of the address of these bytes, or everybody's.
abbrev pub Asked : Type 0
Asked = Option (List ℕ)

-- an address is asked for
abbrev pub is_asked : Asked → List ℕ → Bool
is_asked None bytes = true
is_asked (Some asked) bytes = bytes_eq asked bytes

-- this, where it is asked for
abbrev pub told_if : {X : Type 0} → Bool → X → Option X
told_if true x = Some x
told_if false x = None

-- the supply of a denomination
abbrev pub supply_in : Item → Option (List ℕ × ℕ)
supply_in (item.Supply denom amount) = Some (denom, amount)
supply_in _ = None

-- what an account holds of a denomination
abbrev pub balance_in : Asked → Item → Option ((Account × List ℕ) × ℕ)
balance_in asked (item.Balance account denom amount) = told_if (is_asked asked (account_bytes account)) ((account, denom), amount)
balance_in asked _ = None

-- a validator, under its operator
abbrev pub validator_in : Asked → Item → Option (List ℕ × Validator)
validator_in asked (item.Validator validator) = told_if (is_asked asked validator.operator) (validator.operator, validator)
validator_in asked _ = None

-- the purse of an operator
abbrev pub purse_in : Asked → Item → Option (List ℕ × Purse)
purse_in asked (item.Purse operator purse) = told_if (is_asked asked operator) (operator, purse)
purse_in asked _ = None

-- the shares of a delegator at an operator
abbrev pub delegation_in : Asked → Item → Option ((List ℕ × List ℕ) × ℕ)
delegation_in asked (item.Delegation operator delegator shares) = told_if (is_asked asked delegator) ((delegator, operator), shares)
delegation_in asked _ = None

-- the pending reward of a delegator at an operator
abbrev pub pending_in : Asked → Pending → Option ((List ℕ × List ℕ) × Pending)
pending_in asked p = told_if (is_asked asked p.delegator) ((p.delegator, p.operator), p)

-- the unbonding entries of a delegator and an operator
abbrev pub unbonding_in : Asked → Item → Option ((List ℕ × List ℕ) × List UnbondingEntry)
unbonding_in asked (item.Unbonding delegator operator entries) = told_if (is_asked asked delegator) ((delegator, operator), entries)
unbonding_in asked _ = None

-- the redelegation entries of a delegator, a source and a target
abbrev pub redelegation_in : Asked → Item → Option ((List ℕ × List ℕ × List ℕ) × List RedelegationEntry)
redelegation_in asked (item.Redelegation delegator source target entries) =
    told_if (is_asked asked delegator) ((delegator, source, target), entries)
redelegation_in asked _ = None

-- the signing record of a consensus address
abbrev pub signing_in : Asked → Item → Option (List ℕ × SigningInfo)
signing_in asked (item.Signing cons info ring) = told_if (is_asked asked cons) (cons, info)
signing_in asked _ = None

-- the coins of the community pool
abbrev pub pool_in : Item → Option Money
pool_in (item.Pool coins) = Some coins
pool_in _ = None
