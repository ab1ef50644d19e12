-- Changes of validators and delegations, and the account that holds a validator's tokens.
use Rattle.std.specs.Prelude.{ℕ, Bool, true, false, if◌then◌else◌, List}
use Rattle.base_types.specs.declared.account.Module.{Module}
use Rattle.base_types.specs.declared.account.Module.TheVariants as holder
use Rattle.base_types.specs.declared.status.BondStatus.{BondStatus}
use Rattle.base_types.specs.declared.status.BondStatus.TheVariants.{Bonded, Unbonding, Unbonded}
use Rattle.base_types.specs.Orders.{addr_cmp}
use Rattle.base_shares.specs.declared.fault.ShareFault.{ShareFault}
use Rattle.base_shares.specs.declared.fault.ShareFault.TheVariants as share
use Rattle.base_roles.specs.declared.entities.Validator.{Validator}
use Rattle.base_roles.specs.declared.facts.Fact.TheVariants as fact
use Rattle.base_roles.specs.declared.refusal.Refusal.{Refusal}
use Rattle.base_roles.specs.declared.refusal.Refusal.TheVariants as refused
use Rattle.base_roles.specs.Entries.{with, without}
use Rattle.base_roles.specs.Orders.{pair_cmp}
use Rattle.base_roles.specs.Staked.{Staked, put_validator, is_bonded}
use Rattle.base_roles.specs.World.{World, noted, over_view, over_mine}

-- the validators without this operator's
abbrev pub without_validator : List ℕ → Staked → Staked
without_validator operator s = record s { validators = without addr_cmp s.validators operator }

-- the delegations with these shares of a delegator at an operator
abbrev pub put_delegation : List ℕ → List ℕ → ℕ → Staked → Staked
put_delegation delegator operator n s = record s { delegations = with pair_cmp s.delegations (operator, delegator) n }

-- the delegations without that of a delegator at an operator
abbrev pub without_shares : List ℕ → List ℕ → Staked → Staked
without_shares delegator operator s = record s { delegations = without pair_cmp s.delegations (operator, delegator) }

-- a validator of this status waits to be unbonded
abbrev pub is_unbonding : BondStatus → Bool
is_unbonding Bonded = false
is_unbonding Unbonding = true
is_unbonding Unbonded = false

-- the account that holds the tokens of a validator of this status (`x/staking/keeper`: `bondedTokensToNotBonded`)
abbrev pub pool_of : BondStatus → Module
pool_of status = if is_bonded status then holder.Bonded else holder.NotBonded

-- a validator with another status, told by a fact
abbrev pub changed : {H : Type 0} → Validator → BondStatus → World Staked H → World Staked H
changed v status w = over_view (noted (fact.Changed v.operator status)) (over_mine (put_validator (record v { status = status })) w)

-- why a message is refused whose shares are not given
abbrev pub refusal_of_shares : ShareFault → Refusal
refusal_of_shares share.RateInvalid = refused.RateInvalid
refusal_of_shares share.NoTokens = refused.NoTokens
refusal_of_shares (share.Over over) = refused.Overflow over
