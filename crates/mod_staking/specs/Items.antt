-- Validators and delegations as items of the state.
use Rattle.std.specs.Prelude.{◌≡◌, ℕ, ◌==◌, ◌&&◌, Bool, true, false, List, ◌++◌, Option, Some, None}
use Rattle.std.specs.Str.{bytes_eq}
use Rattle.base_types.specs.declared.status.BondStatus.{BondStatus}
use Rattle.base_types.specs.declared.status.BondStatus.TheVariants.{Bonded, Unbonding, Unbonded}
use Rattle.base_roles.specs.declared.entities.Commission.{Commission}
use Rattle.base_roles.specs.declared.entities.Validator.{Validator}
use Rattle.base_roles.specs.declared.items.Item.{Item}
use Rattle.base_roles.specs.declared.items.Item.TheVariants as item
use Rattle.base_roles.specs.Items.{no_validator}
use Rattle.base_roles.specs.Staked.{Staked}
use Rattle.base_records.specs.Items.{rows_of}

-- the item of a validator, which has its operator itself
abbrev pub validator_item : List ℕ → Validator → Item
validator_item operator v = item.Validator v

-- the item of a delegation
abbrev pub delegation_item : List ℕ × List ℕ → ℕ → Item
delegation_item key shares = item.Delegation key.0 key.1 shares

-- the same items with their keys alone
abbrev pub validator_gone : List ℕ → Item
validator_gone operator = item.Validator (no_validator operator)

abbrev pub delegation_gone : List ℕ × List ℕ → Item
delegation_gone key = delegation_item key 0

-- whether two values are one
abbrev pub same_flag : Bool → Bool → Bool
same_flag true b = b
same_flag false true = false
same_flag false false = true

abbrev pub same_status : BondStatus → BondStatus → Bool
same_status Bonded Bonded = true
same_status Unbonding Unbonding = true
same_status Unbonded Unbonded = true
same_status _ _ = false

abbrev pub same_commission : Commission → Commission → Bool
same_commission a b = (((a.rate == b.rate) && (a.max_rate == b.max_rate)) && (a.max_change == b.max_change)) && (a.updated == b.updated)

abbrev pub same_validator : Validator → Validator → Bool
same_validator a b =
    ((((((((bytes_eq a.operator b.operator && bytes_eq a.cons b.cons) && same_status a.status b.status) && same_flag a.jailed b.jailed) && (a.tokens == b.tokens)) && (a.shares == b.shares))
    && same_commission a.commission b.commission) && (a.min_self == b.min_self)) && (a.unbonding_height == b.unbonding_height)) && (a.unbonding_time == b.unbonding_time)

abbrev pub same_shares : ℕ → ℕ → Bool
same_shares a b = a == b

-- the key and the value of an item, where it is a validator, which stands under its operator
abbrev pub validator_entry : Item → Option (List ℕ × Validator)
validator_entry (item.Validator validator) = Some (validator.operator, validator)
validator_entry _ = None

-- where it is a delegation
abbrev pub delegation_entry : Item → Option ((List ℕ × List ℕ) × ℕ)
delegation_entry (item.Delegation operator delegator shares) = Some ((operator, delegator), shares)
delegation_entry _ = None

-- a validator stands under its operator
abbrev pub FitsOperator : List ℕ → Validator → Type 0
FitsOperator operator v = v.operator ≡ operator

-- the items of validators and delegations
abbrev pub items_of : Staked → List Item
items_of s = rows_of validator_item s.validators ++ rows_of delegation_item s.delegations

-- whether an item is one of these
abbrev pub is_stake : Item → Bool
is_stake (item.Validator validator) = true
is_stake (item.Delegation operator delegator shares) = true
is_stake _ = false
