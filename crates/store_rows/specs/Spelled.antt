-- Which items have a row: those of which each value is in the range of its type, no list has 2^32 elements or more, and a
-- balance or a supply is not 0.
use Rattle.std.specs.Prelude.{◌≡◌, ℕ, ◌^◌, ◌<◌, true, None, List, length}
use Rattle.std.specs.List.{AllByRecursion}
use Rattle.base_types.specs.declared.account.Account.{Account}
use Rattle.base_types.specs.declared.account.Account.TheVariants as account
use Rattle.base_types.specs.Address.{IsAddress}
use Rattle.base_types.specs.Calendar.{end_of_time}
use Rattle.base_types.specs.Denom.{is_denom}
use Rattle.base_types.specs.Modules.{module_of}
use Rattle.base_coins.specs.Coins.{IsMoney, Money}
use Rattle.base_roles.specs.declared.entities.Commission.{Commission}
use Rattle.base_roles.specs.declared.entities.Historical.{Historical}
use Rattle.base_roles.specs.declared.entities.Purse.{Purse}
use Rattle.base_roles.specs.declared.entities.RedelegationEntry.{RedelegationEntry}
use Rattle.base_roles.specs.declared.entities.SigningInfo.{SigningInfo}
use Rattle.base_roles.specs.declared.entities.SlashEvent.{SlashEvent}
use Rattle.base_roles.specs.declared.entities.StartingInfo.{StartingInfo}
use Rattle.base_roles.specs.declared.entities.UnbondingEntry.{UnbondingEntry}
use Rattle.base_roles.specs.declared.entities.Validator.{Validator}
use Rattle.base_roles.specs.declared.items.Item.{Item}
use Rattle.base_roles.specs.declared.items.Item.TheVariants as item
use Rattle.base_roles.specs.declared.params.Params.{Params}

-- ---- what the writer of a row has to see to

-- so many elements have their number in four bytes
abbrev pub IsCountable : {A : Type 0} → List A → Type 0
IsCountable xs = length xs < 2 ^ 32

-- no list is too long, and no balance or supply is 0
abbrev pub IsWritable : Item → Type 0
IsWritable (item.Head height time) = Unit {0}
IsWritable (item.Parameters params) = Unit {0}
IsWritable (item.Balance account denom amount) = 0 < amount
IsWritable (item.Supply denom amount) = 0 < amount
IsWritable (item.Validator validator) = Unit {0}
IsWritable (item.Delegation operator delegator shares) = Unit {0}
IsWritable (item.Unbonding delegator operator entries) = IsCountable entries
IsWritable (item.Redelegation delegator source target entries) = IsCountable entries
IsWritable (item.Signing cons info ring) = IsCountable ring
IsWritable (item.Purse operator purse) = IsCountable purse.outstanding × IsCountable purse.commission × IsCountable purse.current
IsWritable (item.Pool coins) = IsCountable coins
IsWritable (item.Withdraw delegator to) = Unit {0}
IsWritable (item.CurrentPeriod operator period) = Unit {0}
IsWritable (item.Historical operator period history) = IsCountable history.ratio
IsWritable (item.Start operator delegator info) = Unit {0}
IsWritable (item.Event operator event) = Unit {0}

-- ---- the ranges of the types

-- a height, a period, or a number that is counted
abbrev pub IsShort : ℕ → Type 0
IsShort n = n < 2 ^ 64

-- an amount, or a count of references
abbrev pub IsLong : ℕ → Type 0
IsLong n = n < 2 ^ 128

-- the units of a decimal
abbrev pub IsDecimal : ℕ → Type 0
IsDecimal n = n < 10 ^ 38

-- the nanoseconds of a moment
abbrev pub IsMoment : ℕ → Type 0
IsMoment n = n < end_of_time

-- the address of a user: no module's
abbrev pub IsUser : List ℕ → Type 0
IsUser bytes = IsAddress bytes × (module_of bytes ≡ None)

abbrev pub IsAccount : Account → Type 0
IsAccount (account.User bytes) = IsUser bytes
IsAccount (account.Module m) = Unit {0}

abbrev pub IsName : List ℕ → Type 0
IsName bytes = is_denom bytes ≡ true

abbrev pub AreCoins : Money → Type 0
AreCoins coins = IsMoney coins × AllByRecursion (λ coin. IsName coin.0) coins

pub record AreParams (p : Params) : Type 0 where
  pub bond_denom : IsName p.bond_denom
  pub power_reduction : IsShort p.power_reduction
  pub unbonding_time : IsShort p.unbonding_time
  pub max_validators : IsShort p.max_validators
  pub max_entries : IsShort p.max_entries
  pub min_commission_rate : IsDecimal p.min_commission_rate
  pub community_tax : IsDecimal p.community_tax
  pub signed_blocks_window : IsShort p.signed_blocks_window
  pub min_signed_per_window : IsDecimal p.min_signed_per_window
  pub downtime_jail_duration : IsShort p.downtime_jail_duration
  pub slash_fraction_double_sign : IsDecimal p.slash_fraction_double_sign
  pub slash_fraction_downtime : IsDecimal p.slash_fraction_downtime
  pub max_age_duration : IsShort p.max_age_duration
  pub max_age_num_blocks : IsShort p.max_age_num_blocks
  pub authority : IsUser p.authority

-- the same of the parameters of signing, of evidence and of authority alone
abbrev pub AreLaterParams : Params → Type 0
AreLaterParams p =
    IsShort p.signed_blocks_window
    × IsDecimal p.min_signed_per_window
    × IsShort p.downtime_jail_duration
    × IsDecimal p.slash_fraction_double_sign
    × IsDecimal p.slash_fraction_downtime
    × IsShort p.max_age_duration
    × IsShort p.max_age_num_blocks
    × IsUser p.authority

pub record IsCommission (c : Commission) : Type 0 where
  pub rate : IsDecimal c.rate
  pub max_rate : IsDecimal c.max_rate
  pub max_change : IsDecimal c.max_change
  pub updated : IsMoment c.updated

pub record IsValidator (v : Validator) : Type 0 where
  pub operator : IsUser v.operator
  pub cons : IsAddress v.cons
  pub tokens : IsLong v.tokens
  pub shares : IsDecimal v.shares
  pub commission : IsCommission v.commission
  pub min_self : IsLong v.min_self
  pub unbonding_height : IsShort v.unbonding_height
  pub unbonding_time : IsMoment v.unbonding_time

abbrev pub IsUnbonding : UnbondingEntry → Type 0
IsUnbonding e = IsShort e.created × IsMoment e.completes × IsLong e.initial × IsLong e.balance

abbrev pub IsRedelegation : RedelegationEntry → Type 0
IsRedelegation e = IsShort e.created × IsMoment e.completes × IsLong e.initial × IsDecimal e.shares_dst

abbrev pub IsInfo : SigningInfo → Type 0
IsInfo i = IsShort i.start × IsShort i.counted × IsShort i.missed × IsMoment i.jailed_until

abbrev pub IsPurse : Purse → Type 0
IsPurse p = AreCoins p.outstanding × AreCoins p.commission × AreCoins p.current

abbrev pub IsHistory : Historical → Type 0
IsHistory h = AreCoins h.ratio × IsLong h.count

abbrev pub IsStart : StartingInfo → Type 0
IsStart s = IsShort s.period × IsDecimal s.stake × IsShort s.height

abbrev pub IsEvent : SlashEvent → Type 0
IsEvent e = IsShort e.height × IsShort e.period × IsDecimal e.fraction

-- each value of the key is in the range of its type
abbrev pub IsKeyInRange : Item → Type 0
IsKeyInRange (item.Head height time) = Unit {0}
IsKeyInRange (item.Parameters params) = Unit {0}
IsKeyInRange (item.Balance account denom amount) = IsAccount account × IsName denom
IsKeyInRange (item.Supply denom amount) = IsName denom
IsKeyInRange (item.Validator validator) = IsUser validator.operator
IsKeyInRange (item.Delegation operator delegator shares) = IsUser operator × IsUser delegator
IsKeyInRange (item.Unbonding delegator operator entries) = IsUser delegator × IsUser operator
IsKeyInRange (item.Redelegation delegator source target entries) = IsUser delegator × IsUser source × IsUser target
IsKeyInRange (item.Signing cons info ring) = IsAddress cons
IsKeyInRange (item.Purse operator purse) = IsUser operator
IsKeyInRange (item.Pool coins) = Unit {0}
IsKeyInRange (item.Withdraw delegator to) = IsUser delegator
IsKeyInRange (item.CurrentPeriod operator period) = IsUser operator
IsKeyInRange (item.Historical operator period history) = IsUser operator × IsShort period
IsKeyInRange (item.Start operator delegator info) = IsUser operator × IsUser delegator
IsKeyInRange (item.Event operator event) = IsUser operator × IsShort event.height × IsShort event.period

-- each value is in the range of its type
abbrev pub IsInRange : Item → Type 0
IsInRange (item.Head height time) = IsShort height × IsMoment time
IsInRange (item.Parameters params) = AreParams params
IsInRange (item.Balance account denom amount) = IsAccount account × IsName denom × IsLong amount
IsInRange (item.Supply denom amount) = IsName denom × IsLong amount
IsInRange (item.Validator validator) = IsValidator validator
IsInRange (item.Delegation operator delegator shares) = IsUser operator × IsUser delegator × IsDecimal shares
IsInRange (item.Unbonding delegator operator entries) = IsUser delegator × IsUser operator × AllByRecursion IsUnbonding entries
IsInRange (item.Redelegation delegator source target entries) = IsUser delegator × IsUser source × IsUser target × AllByRecursion IsRedelegation entries
IsInRange (item.Signing cons info ring) = IsAddress cons × IsInfo info
IsInRange (item.Purse operator purse) = IsUser operator × IsPurse purse
IsInRange (item.Pool coins) = AreCoins coins
IsInRange (item.Withdraw delegator to) = IsUser delegator × IsUser to
IsInRange (item.CurrentPeriod operator period) = IsUser operator × IsShort period
IsInRange (item.Historical operator period history) = IsUser operator × IsShort period × IsHistory history
IsInRange (item.Start operator delegator info) = IsUser operator × IsUser delegator × IsStart info
IsInRange (item.Event operator event) = IsUser operator × IsEvent event

abbrev pub HasRow : Item → Type 0
HasRow i = IsWritable i × IsInRange i
