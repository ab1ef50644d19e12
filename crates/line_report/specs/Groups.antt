-- The groups of the report, from the items of a state and the pending rewards.
use Rattle.std.specs.Prelude.{ℕ, List, [], ◌∷◌, map, Option, Some, None, unwrap_or}
use Rattle.std.specs.List.{filter_map}
use Rattle.std.specs.Map.{values_of}
use Rattle.base_types.specs.declared.account.Account.{Account}
use Rattle.base_types.specs.Orders.{addr_cmp, cons_cmp, denom_cmp}
use Rattle.base_coins.specs.Coins.{Money}
use Rattle.base_roles.specs.declared.entities.Purse.{Purse}
use Rattle.base_roles.specs.declared.entities.SigningInfo.{SigningInfo}
use Rattle.base_roles.specs.declared.entities.Validator.{Validator}
use Rattle.base_roles.specs.declared.items.Item.{Item}
use Rattle.base_roles.specs.Entries.{at}
use Rattle.base_roles.specs.Items.{no_purse}
use Rattle.base_roles.specs.Orders.{pair_cmp, place_cmp, triple_cmp}
use Rattle.base_messages.specs.declared.report.Pending.{Pending}
use Rattle.rule_modules.specs.Redelegations.{RedelegationLists}
use Rattle.rule_modules.specs.Unbondings.{UnbondingLists}
use Rattle.rule_machine.specs.Report.{Delegations, Report, accounts_in, joined}
use Rattle.rule_machine.specs.Orders.{in_order}
use Rattle.line_report.specs.Telling.{Asked, balance_in, delegation_in, pending_in, pool_in, purse_in, redelegation_in, signing_in, supply_in, unbonding_in, validator_in}

-- the supply of each denomination
abbrev pub supply_of : List Item → Money
supply_of items = in_order denom_cmp (filter_map supply_in items)

-- ---- accounts

-- what accounts hold: users first, by address, then the modules; each in ascending order of denominations
abbrev pub accounts_of : Asked → List Item → List (Account × Money)
accounts_of asked items = accounts_in (in_order place_cmp (filter_map (balance_in asked) items))

-- ---- validators

-- the purses of operators
abbrev pub purses_of : Asked → List Item → List (List ℕ × Purse)
purses_of asked items = in_order addr_cmp (filter_map (purse_in asked) items)

-- the purse of an operator; an empty one where there is none
abbrev pub purse_at : List (List ℕ × Purse) → List ℕ → Purse
purse_at purses operator = unwrap_or (at addr_cmp purses operator) no_purse

-- validators with their purses, by operator
abbrev pub with_purses : List (List ℕ × Purse) → List (List ℕ × Validator) → List (Validator × Purse)
with_purses purses validators = map (λ v. (v.1, purse_at purses v.0)) validators

abbrev pub validators_of : Asked → List Item → List (Validator × Purse)
validators_of asked items = with_purses (purses_of asked items) (in_order addr_cmp (filter_map (validator_in asked) items))

-- ---- delegations

-- delegations, by delegator and operator
abbrev pub delegations_of : Asked → List Item → Delegations
delegations_of asked items = in_order pair_cmp (filter_map (delegation_in asked) items)

-- pending rewards, in the same order
abbrev pub pending_of : Asked → List Pending → List Pending
pending_of asked pending = values_of (in_order pair_cmp (filter_map (pending_in asked) pending))

-- unbonding entries, by delegator and operator
abbrev pub unbondings_of : Asked → List Item → UnbondingLists
unbondings_of asked items = in_order pair_cmp (filter_map (unbonding_in asked) items)

-- redelegation entries, by delegator, source and target
abbrev pub redelegations_of : Asked → List Item → RedelegationLists
redelegations_of asked items = in_order triple_cmp (filter_map (redelegation_in asked) items)

-- ---- votes and the pool

-- signing records, by consensus address
abbrev pub signing_of : Asked → List Item → List (List ℕ × SigningInfo)
signing_of asked items = in_order cons_cmp (filter_map (signing_in asked) items)

-- this, or else the other
abbrev pub or_else : Option Money → Money → Money
or_else None coins = coins
or_else (Some coins) other = coins

-- the community pool; nothing where the items do not have it
abbrev pub pool_of : List Item → Money
pool_of [] = []
pool_of (item ∷ items) = or_else (pool_in item) (pool_of items)

-- ---- all of them

abbrev pub report_from : List Item → List Pending → Report
report_from items pending = record {
  supply = supply_of items;
  accounts = accounts_of None items;
  validators = validators_of None items;
  delegations = delegations_of None items;
  pending = pending_of None pending;
  unbondings = unbondings_of None items;
  redelegations = redelegations_of None items;
  signing = signing_of None items;
  pool = pool_of items;
}

-- the accounts with an account in front that is still gathered, where there is one
abbrev pub opened : Option (Account × Money) → List (Account × Money) → List (Account × Money)
opened None accounts = accounts
opened (Some a) accounts = joined a.0 a.1 accounts
