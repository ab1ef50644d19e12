-- How staking's records change: what falls, what still stands, what is jailed.
use Rattle.std.specs.Prelude.{◌≡◌, ℕ, ◌+◌, ◌-◌, ◌≤◌, ◌==◌, Bool, true, false, ◌&&◌, ◌||◌, if◌then◌else◌, List, Option, Some, None, option_map}
use Rattle.std.specs.BTreeMap.{is_at}
use Rattle.base_types.specs.declared.account.Account.TheVariants as account
use Rattle.base_types.specs.declared.account.Module.TheVariants as holder
use Rattle.base_types.specs.declared.status.BondStatus.TheVariants.{Bonded}
use Rattle.base_types.specs.Orders.{denom_cmp}
use Rattle.base_roles.specs.declared.entities.Validator.{Validator}
use Rattle.base_roles.specs.Holdings.{balance_of, supply_of}
use Rattle.base_roles.specs.Orders.{same_addr}
use Rattle.base_roles.specs.World.{View}
use Rattle.base_roles.specs.Staked.{Staked, validator_at, validator_by_cons, delegation, put_validator, is_bonded, is_unbonded, bonded_tokens, other_tokens}

-- the two staking accounts hold at least this much of the bond denomination
pub record HoldsStake (v : View) (bonded other : ℕ) : Type 0 where
  pub in_bonded : bonded ≤ balance_of v.bank (account.Module holder.Bonded) v.ctx.params.bond_denom
  pub in_not_bonded : other ≤ balance_of v.bank (account.Module holder.NotBonded) v.ctx.params.bond_denom

-- so much of the bond denomination, and nothing of any other
abbrev pub of_bond : View → List ℕ → ℕ → ℕ
of_bond v d n = if is_at (denom_cmp v.ctx.params.bond_denom) d then n else 0

-- Each staking account lost as much as what is owed from it fell, and the supply both together.
pub record StakeFalls (old new : View) (bonded other bonded2 other2 : ℕ) : Type 0 where
  pub from_bonded : (d : List ℕ) → balance_of new.bank (account.Module holder.Bonded) d + of_bond old d bonded ≡ balance_of old.bank (account.Module holder.Bonded) d + of_bond old d bonded2
  pub from_not_bonded : (d : List ℕ) → balance_of new.bank (account.Module holder.NotBonded) d + of_bond old d other ≡ balance_of old.bank (account.Module holder.NotBonded) d + of_bond old d other2
  pub supply : (d : List ℕ) → supply_of new.bank d + of_bond old d (bonded + other) ≡ supply_of old.bank d + of_bond old d (bonded2 + other2)

-- Every validator that was not unbonded still stands, with its consensus address and status.
abbrev pub StillStand : Staked → Staked → Type 0
StillStand old new = (operator : List ℕ) (v : Validator) → validator_at old operator ≡ Some v → is_unbonded v.status ≡ false
    → (v2 : Validator) × ((validator_at new operator ≡ Some v2) × (v2.cons ≡ v.cons) × (v2.status ≡ v.status))

-- The same of those that are looked up by consensus address.
abbrev pub StillStandByCons : Staked → Staked → Type 0
StillStandByCons old new = (cons : List ℕ) (v : Validator) → validator_by_cons old cons ≡ Some v → is_unbonded v.status ≡ false
    → (v2 : Validator) × ((validator_by_cons new cons ≡ Some v2) × (v2.operator ≡ v.operator) × (v2.status ≡ v.status))

-- a validator in all but whether it is jailed
abbrev pub but_jailed : Validator → Validator
but_jailed v = record v { jailed = false }

-- Under each operator stands who stood there, in all but whether it is jailed.
abbrev pub SameButJailed : Staked → Staked → Type 0
SameButJailed old new = (operator : List ℕ) → option_map but_jailed (validator_at new operator) ≡ option_map but_jailed (validator_at old operator)

-- The same of those that are looked up by consensus address.
abbrev pub SameButJailedByCons : Staked → Staked → Type 0
SameButJailedByCons old new = (cons : List ℕ) → option_map but_jailed (validator_by_cons new cons) ≡ option_map but_jailed (validator_by_cons old cons)

-- the delegation exists and has the shares
abbrev pub HasShares : Staked → List ℕ → List ℕ → ℕ → Type 0
HasShares s delegator operator shares = (held : ℕ) × ((delegation s delegator operator ≡ Some held) × (shares ≤ held))

-- what is left of a delegation
abbrev pub shares_left : ℕ → ℕ → Option ℕ
shares_left held part = if held == part then None else Some (held - part)

-- what is left of a validator: it is gone where it is unbonded and has no shares
abbrev pub validator_left : Validator → ℕ → ℕ → Bool → Option Validator
validator_left v part out falls =
    if is_unbonded v.status && (v.shares == part) then None
    else Some (record v { tokens = v.tokens - out; shares = v.shares - part; jailed = v.jailed || falls })

-- Shares were unbonded: they left the delegation and its validator, and with them so many tokens left the validator. It is
-- jailed where it falls below its least self-delegation, which only its own operator can bring about. No other
-- delegation and no other validator changes.
pub record IsUnbonded (delegator operator : List ℕ) (part out : ℕ) (old new : Staked) : Type 0 where
  pub v : Validator
  pub held : ℕ
  pub falls : Bool
  pub validator : validator_at old operator ≡ Some v
  pub shares : delegation old delegator operator ≡ Some held
  pub own : falls ≡ true → same_addr delegator operator ≡ true
  pub within : out ≤ v.tokens
  pub validators : (o : List ℕ) → validator_at new o ≡ (if same_addr operator o then validator_left v part out falls else validator_at old o)
  pub delegations : (w o : List ℕ) → delegation new w o ≡ (if same_addr operator o && same_addr delegator w then shares_left held part else delegation old w o)
  pub bonded : bonded_tokens new + (if is_bonded v.status then out else 0) ≡ bonded_tokens old
  pub other : other_tokens new + (if is_bonded v.status then 0 else out) ≡ other_tokens old

-- The validator of a consensus address was jailed, and nothing else changed.
abbrev pub IsJailed : List ℕ → Staked → Staked → Type 0
IsJailed cons old new = (v : Validator) × ((validator_by_cons old cons ≡ Some v) × (new ≡ put_validator (record v { jailed = true }) old))
