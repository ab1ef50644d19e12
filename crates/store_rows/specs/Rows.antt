-- The row of each item: a key of the kind's byte and the fields of the key, and a value of the other fields.
use Rattle.std.specs.Prelude.{ℕ, List, [], ◌∷◌, ◌++◌}
use Rattle.base_types.specs.Accounts.{account_bytes}
use Rattle.base_roles.specs.declared.entities.Commission.{Commission}
use Rattle.base_roles.specs.declared.entities.Historical.{Historical}
use Rattle.base_roles.specs.declared.entities.Purse.{Purse}
use Rattle.base_roles.specs.declared.entities.RedelegationEntry.{RedelegationEntry}
use Rattle.base_roles.specs.declared.entities.SigningInfo.{SigningInfo}
use Rattle.base_roles.specs.declared.entities.StartingInfo.{StartingInfo}
use Rattle.base_roles.specs.declared.entities.UnbondingEntry.{UnbondingEntry}
use Rattle.base_roles.specs.declared.entities.Validator.{Validator}
use Rattle.base_roles.specs.declared.items.Item.{Item}
use Rattle.base_roles.specs.declared.items.Item.TheVariants as item
use Rattle.base_roles.specs.declared.params.Params.{Params}
use Rattle.base_io.specs.Rows.{Pair}
use Rattle.store_rows.specs.declared.format.Format.{Format}
use Rattle.store_rows.specs.declared.kind.Kind.{Kind}
use Rattle.store_rows.specs.declared.kind.Kind.TheVariants as kind
use Rattle.store_rows.specs.Fields.{coins_bytes, denom_bytes, eight_bytes, list_bytes, ring_bytes, sixteen_bytes, status_byte, truth_byte}
use Rattle.store_rows.specs.Formats.{number_of, written}
use Rattle.store_rows.specs.Kinds.{prefix_of}

-- ---- the values of the larger items, field by field

-- the parameters of signing, of evidence and of authority
abbrev pub later_params_bytes : Params → List ℕ
later_params_bytes p = eight_bytes p.signed_blocks_window ++ (sixteen_bytes p.min_signed_per_window ++ (eight_bytes p.downtime_jail_duration ++ (sixteen_bytes p.slash_fraction_double_sign ++ (sixteen_bytes p.slash_fraction_downtime ++ (eight_bytes p.max_age_duration ++ (eight_bytes p.max_age_num_blocks ++ p.authority))))))

-- those of staking and of distribution, and then these
abbrev pub params_bytes : Params → List ℕ
params_bytes p = denom_bytes p.bond_denom ++ (eight_bytes p.power_reduction ++ (eight_bytes p.unbonding_time ++ (eight_bytes p.max_validators ++ (eight_bytes p.max_entries ++ (sixteen_bytes p.min_commission_rate ++ (sixteen_bytes p.community_tax ++ (truth_byte p.withdraw_addr_enabled ∷ later_params_bytes p)))))))

abbrev pub commission_bytes : Commission → List ℕ
commission_bytes c = sixteen_bytes c.rate ++ (sixteen_bytes c.max_rate ++ (sixteen_bytes c.max_change ++ sixteen_bytes c.updated))

abbrev pub validator_bytes : Validator → List ℕ
validator_bytes v = v.cons ++ (status_byte v.status ∷ (truth_byte v.jailed ∷ (sixteen_bytes v.tokens ++ (sixteen_bytes v.shares ++ (commission_bytes v.commission ++ (sixteen_bytes v.min_self ++ (eight_bytes v.unbonding_height ++ sixteen_bytes v.unbonding_time)))))))

abbrev pub unbonding_bytes : UnbondingEntry → List ℕ
unbonding_bytes e = eight_bytes e.created ++ (sixteen_bytes e.completes ++ (sixteen_bytes e.initial ++ sixteen_bytes e.balance))

abbrev pub redelegation_bytes : RedelegationEntry → List ℕ
redelegation_bytes e = eight_bytes e.created ++ (sixteen_bytes e.completes ++ (sixteen_bytes e.initial ++ sixteen_bytes e.shares_dst))

abbrev pub info_bytes : SigningInfo → List ℕ
info_bytes i = eight_bytes i.start ++ (eight_bytes i.counted ++ (eight_bytes i.missed ++ (sixteen_bytes i.jailed_until ++ (truth_byte i.tombstoned ∷ []))))

abbrev pub purse_bytes : Purse → List ℕ
purse_bytes p = coins_bytes p.outstanding ++ (coins_bytes p.commission ++ coins_bytes p.current)

abbrev pub history_bytes : Historical → List ℕ
history_bytes h = coins_bytes h.ratio ++ sixteen_bytes h.count

abbrev pub starting_bytes : StartingInfo → List ℕ
starting_bytes s = eight_bytes s.period ++ (sixteen_bytes s.stake ++ eight_bytes s.height)

-- ---- keys and values

abbrev pub kind_in : Item → Kind
kind_in (item.Head height time) = kind.Head
kind_in (item.Parameters params) = kind.Parameters
kind_in (item.Balance account denom amount) = kind.Balance
kind_in (item.Supply denom amount) = kind.Supply
kind_in (item.Validator validator) = kind.Validator
kind_in (item.Delegation operator delegator shares) = kind.Delegation
kind_in (item.Unbonding delegator operator entries) = kind.Unbonding
kind_in (item.Redelegation delegator source target entries) = kind.Redelegation
kind_in (item.Signing cons info ring) = kind.Signing
kind_in (item.Purse operator purse) = kind.Purse
kind_in (item.Pool coins) = kind.Pool
kind_in (item.Withdraw delegator to) = kind.Withdraw
kind_in (item.CurrentPeriod operator period) = kind.CurrentPeriod
kind_in (item.Historical operator period history) = kind.Historical
kind_in (item.Start operator delegator info) = kind.Start
kind_in (item.Event operator event) = kind.Event

abbrev pub key_fields : Item → List ℕ
key_fields (item.Head height time) = []
key_fields (item.Parameters params) = []
key_fields (item.Balance account denom amount) = account_bytes account ++ denom_bytes denom
key_fields (item.Supply denom amount) = denom_bytes denom
key_fields (item.Validator validator) = validator.operator
key_fields (item.Delegation operator delegator shares) = operator ++ delegator
key_fields (item.Unbonding delegator operator entries) = delegator ++ operator
key_fields (item.Redelegation delegator source target entries) = delegator ++ (source ++ target)
key_fields (item.Signing cons info ring) = cons
key_fields (item.Purse operator purse) = operator
key_fields (item.Pool coins) = []
key_fields (item.Withdraw delegator to) = delegator
key_fields (item.CurrentPeriod operator period) = operator
key_fields (item.Historical operator period history) = operator ++ eight_bytes period
key_fields (item.Start operator delegator info) = operator ++ delegator
key_fields (item.Event operator event) = operator ++ (eight_bytes event.height ++ eight_bytes event.period)

-- the byte of the kind, and the fields of the key
abbrev pub key_bytes : Item → List ℕ
key_bytes i = prefix_of (kind_in i) ∷ key_fields i

-- the other fields, in a format
abbrev pub value_in : Format → Item → List ℕ
value_in f (item.Head height time) = number_of f ∷ (eight_bytes height ++ sixteen_bytes time)
value_in f (item.Parameters params) = params_bytes params
value_in f (item.Balance account denom amount) = sixteen_bytes amount
value_in f (item.Supply denom amount) = sixteen_bytes amount
value_in f (item.Validator validator) = validator_bytes validator
value_in f (item.Delegation operator delegator shares) = sixteen_bytes shares
value_in f (item.Unbonding delegator operator entries) = list_bytes unbonding_bytes entries
value_in f (item.Redelegation delegator source target entries) = list_bytes redelegation_bytes entries
value_in f (item.Signing cons info ring) = info_bytes info ++ ring_bytes f ring
value_in f (item.Purse operator purse) = purse_bytes purse
value_in f (item.Pool coins) = coins_bytes coins
value_in f (item.Withdraw delegator to) = to
value_in f (item.CurrentPeriod operator period) = eight_bytes period
value_in f (item.Historical operator period history) = history_bytes history
value_in f (item.Start operator delegator info) = starting_bytes info
value_in f (item.Event operator event) = sixteen_bytes event.fraction

-- the row of an item in a format
abbrev pub row_in : Format → Item → Pair
row_in f i = (key_bytes i, value_in f i)

-- the same in the format that is written
abbrev pub value_bytes : Item → List ℕ
value_bytes i = value_in written i

abbrev pub row_of : Item → Pair
row_of i = row_in written i
