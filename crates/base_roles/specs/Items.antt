-- Items of the state: their keys, and how the items of records differ from earlier ones.
use Rattle.std.specs.Prelude.{◌≡◌, ◌≢◌, ℕ, ◌<◌, ◌↔◌, ◌⊎◌, Bool, true, false, List, [], replicate, length, slice_get, Contains}
use Rattle.base_types.specs.declared.status.BondStatus.TheVariants.{Bonded}
use Rattle.base_roles.specs.declared.entities.Validator.{Validator}
use Rattle.base_roles.specs.declared.entities.Purse.{Purse}
use Rattle.base_roles.specs.declared.entities.SigningInfo.{SigningInfo}
use Rattle.base_roles.specs.declared.items.Item.{Item}
use Rattle.base_roles.specs.declared.items.Item.TheVariants as item
use Rattle.base_roles.specs.declared.params.Params.{Params}

-- an address of zero bytes alone
abbrev pub no_address : List ℕ
no_address = replicate 20 0

abbrev pub no_info : SigningInfo
no_info = record { start = 0; counted = 0; missed = 0; jailed_until = 0; tombstoned = false }

abbrev pub no_purse : Purse
no_purse = record { outstanding = []; commission = []; current = [] }

-- a validator with its operator alone
abbrev pub no_validator : List ℕ → Validator
no_validator operator = record {
  operator = operator;
  cons = no_address;
  status = Bonded;
  jailed = false;
  tokens = 0;
  shares = 0;
  commission = record { rate = 0; max_rate = 0; max_change = 0; updated = 0 };
  min_self = 0;
  unbonding_height = 0;
  unbonding_time = 0;
}

-- parameters that are all 0, empty or false
abbrev pub no_params : Params
no_params = record {
  bond_denom = [];
  power_reduction = 0;
  unbonding_time = 0;
  max_validators = 0;
  max_entries = 0;
  min_commission_rate = 0;
  community_tax = 0;
  withdraw_addr_enabled = false;
  signed_blocks_window = 0;
  min_signed_per_window = 0;
  downtime_jail_duration = 0;
  slash_fraction_double_sign = 0;
  slash_fraction_downtime = 0;
  max_age_duration = 0;
  max_age_num_blocks = 0;
  authority = no_address;
}

-- An item with its key alone: all other fields are 0, empty or false, a status is Bonded, and an address has zero bytes.
-- Two items have one key where these are equal.
abbrev pub key_of : Item → Item
key_of (item.Head height time) = item.Head 0 0
key_of (item.Parameters params) = item.Parameters no_params
key_of (item.Balance account denom amount) = item.Balance account denom 0
key_of (item.Supply denom amount) = item.Supply denom 0
key_of (item.Validator validator) = item.Validator (no_validator validator.operator)
key_of (item.Delegation operator delegator shares) = item.Delegation operator delegator 0
key_of (item.Unbonding delegator operator entries) = item.Unbonding delegator operator []
key_of (item.Redelegation delegator source target entries) = item.Redelegation delegator source target []
key_of (item.Signing cons info ring) = item.Signing cons no_info []
key_of (item.Purse operator purse) = item.Purse operator no_purse
key_of (item.Pool coins) = item.Pool []
key_of (item.Withdraw delegator to) = item.Withdraw delegator no_address
key_of (item.CurrentPeriod operator period) = item.CurrentPeriod operator 0
key_of (item.Historical operator period history) = item.Historical operator period (record { ratio = []; count = 0 })
key_of (item.Start operator delegator info) = item.Start operator delegator (record { period = 0; stake = 0; height = 0 })
key_of (item.Event operator event) = item.Event operator (record { height = event.height; period = event.period; fraction = 0 })

-- a community pool of nothing, which always stands
abbrev pub IsEmptyPool : Item → Type 0
IsEmptyPool (item.Pool []) = Unit {0}
IsEmptyPool _ = ⊥

-- no element stands twice
abbrev pub IsOnce : {A : Type 0} → List A → Type 0
IsOnce xs = (i j : ℕ) → i < length xs → j < length xs → slice_get xs i ≡ slice_get xs j → i ≡ j

-- no item of this key stands, but for an empty pool
abbrev pub HasRoom : List Item → Item → Type 0
HasRoom items new = (i : Item) → Contains items i → key_of i ≡ key_of new → IsEmptyPool i

-- the items with this one in the place of what had its key
abbrev pub IsAdded : List Item → Item → List Item → Type 0
IsAdded old new items = (i : Item) → Contains items i ↔ ((i ≡ new) ⊎ (Contains old i × (key_of i ≢ key_of new)))

-- The changes from old items to new ones, each once: with true what is new or has another value, and with false, by its
-- key alone, what is gone.
pub record AreChanges (old new : List Item) (changes : List (Item × Bool)) : Type 0 where
  pub once : IsOnce changes
  pub stands : (i : Item) → Contains changes (i, true) ↔ (Contains new i × ¬ Contains old i)
  pub gone : (i : Item) → Contains changes (i, false) ↔ ((was : Item) × (Contains old was × (i ≡ key_of was) × ((now : Item) → Contains new now → key_of now ≢ key_of was)))
