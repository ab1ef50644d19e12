-- The item of a row, read from left to right. Each field is a value and the bytes behind it.
use Rattle.std.specs.Prelude.{◌≡◌, ℕ, ◌+◌, ◌-◌, ◌/◌, ◌%◌, ◌^◌, zero, suc, Bool, true, false, not, ◌&&◌, ◌==◌, nat_le, nat_lt, min, if◌then◌else◌, List, [], ◌∷◌, ◌++◌, length, take, drop, replicate, Option, Some, None, Result, Ok, Err, ⊤}
use Rattle.std.specs.Int.{Width, w32, w64, w128, byte_len, from_be_bytes}
use Rattle.std.specs.Ordering.{is_lt}
use Rattle.base_types.specs.declared.account.Account.{Account}
use Rattle.base_types.specs.declared.status.BondStatus.{BondStatus}
use Rattle.base_types.specs.declared.status.BondStatus.TheVariants.{Bonded, Unbonding, Unbonded}
use Rattle.base_types.specs.Accounts.{account_from}
use Rattle.base_types.specs.Denom.{denom_of}
use Rattle.base_types.specs.Modules.{user_from}
use Rattle.base_types.specs.Moment.{moment_from}
use Rattle.base_types.specs.Orders.{denom_cmp}
use Rattle.base_coins.specs.Coins.{Money}
use Rattle.base_coins.specs.Steps.{◌>>=◌}
use Rattle.base_roles.specs.declared.entities.Commission.{Commission}
use Rattle.base_roles.specs.declared.entities.RedelegationEntry.{RedelegationEntry}
use Rattle.base_roles.specs.declared.entities.SigningInfo.{SigningInfo}
use Rattle.base_roles.specs.declared.entities.UnbondingEntry.{UnbondingEntry}
use Rattle.base_roles.specs.declared.entities.Validator.{Validator}
use Rattle.base_roles.specs.declared.items.Item.{Item}
use Rattle.base_roles.specs.declared.items.Item.TheVariants as item
use Rattle.base_roles.specs.declared.params.Params.{Params}
use Rattle.store_rows.specs.declared.fault.RowFault.{RowFault}
use Rattle.store_rows.specs.declared.fault.RowFault.TheVariants.{BadRow, NoMemory}
use Rattle.store_rows.specs.declared.format.Format.{Format}
use Rattle.store_rows.specs.declared.format.Format.TheVariants.{First, Second}
use Rattle.store_rows.specs.declared.kind.Kind.{Kind}
use Rattle.store_rows.specs.declared.kind.Kind.TheVariants as kind
use Rattle.store_rows.specs.Fields.{packed_len}
use Rattle.store_rows.specs.Formats.{number_of}
use Rattle.store_rows.specs.Kinds.{kind_of}

-- A call's fault is that of the reading, unless memory was wanting.
abbrev pub Fails : {Y : Type 0} → RowFault → Result Y RowFault → Type 0
Fails NoMemory reading = Unit {0}
Fails BadRow reading = reading ≡ Err BadRow

-- A call's answer, each value seen by `seen`, is what reading gives, unless memory was wanting.
abbrev pub Gives : {X Y : Type 0} → (X → Y) → Result X RowFault → Result Y RowFault → Type 0
Gives seen (Ok x) reading = reading ≡ Ok (seen x)
Gives seen (Err fault) reading = Fails fault reading

-- What takes no memory answers just what reading gives, each value seen by `seen`.
abbrev pub IsRead : {X Y : Type 0} → (X → Y) → Result X RowFault → Result Y RowFault → Type 0
IsRead seen (Ok x) reading = reading ≡ Ok (seen x)
IsRead seen (Err fault) reading = reading ≡ Err fault

-- the value, which has to be there
abbrev pub or_bad : {A : Type 0} → Option A → Result A RowFault
or_bad None = Err BadRow
or_bad (Some x) = Ok x

-- ---- fields

abbrev pub byte_at : List ℕ → Result (ℕ × List ℕ) RowFault
byte_at [] = Err BadRow
byte_at (first ∷ rest) = Ok (first, rest)

-- so many bytes
abbrev pub bytes_at : ℕ → List ℕ → Result (List ℕ × List ℕ) RowFault
bytes_at n bytes = if nat_lt (length bytes) n then Err BadRow else Ok (take n bytes, drop n bytes)

abbrev pub number_at : Width → List ℕ → Result (ℕ × List ℕ) RowFault
number_at w bytes =
    if nat_lt (length bytes) (byte_len w) then Err BadRow
    else Ok (from_be_bytes w (take (byte_len w) bytes), drop (byte_len w) bytes)

unfoldable pub decimal_at : List ℕ → Result (ℕ × List ℕ) RowFault
decimal_at bytes = do
  n ← number_at w128 bytes
  if nat_lt n.0 (10 ^ 38) then Ok n else Err BadRow

unfoldable pub moment_at : List ℕ → Result (ℕ × List ℕ) RowFault
moment_at bytes = do
  n ← number_at w128 bytes
  moment ← or_bad (moment_from n.0)
  Ok (moment, n.1)

-- the address of a user
unfoldable pub user_at : List ℕ → Result (List ℕ × List ℕ) RowFault
user_at bytes = do
  address ← bytes_at 20 bytes
  user ← or_bad (user_from address.0)
  Ok (user, address.1)

unfoldable pub account_at : List ℕ → Result (Account × List ℕ) RowFault
account_at bytes = do
  address ← bytes_at 20 bytes
  Ok (account_from address.0, address.1)

unfoldable pub denom_at : List ℕ → Result (List ℕ × List ℕ) RowFault
denom_at bytes = do
  len ← byte_at bytes
  name ← bytes_at len.0 len.1
  denom ← or_bad (denom_of name.0)
  Ok (denom, name.1)

unfoldable pub truth_at : List ℕ → Result (Bool × List ℕ) RowFault
truth_at [] = Err BadRow
truth_at (zero ∷ rest) = Ok (false, rest)
truth_at (suc zero ∷ rest) = Ok (true, rest)
truth_at (suc (suc b) ∷ rest) = Err BadRow

unfoldable pub status_at : List ℕ → Result (BondStatus × List ℕ) RowFault
status_at [] = Err BadRow
status_at (zero ∷ rest) = Ok (Bonded, rest)
status_at (suc zero ∷ rest) = Ok (Unbonding, rest)
status_at (suc (suc zero) ∷ rest) = Ok (Unbonded, rest)
status_at (suc (suc (suc b)) ∷ rest) = Err BadRow

-- nothing follows
abbrev pub ends : List ℕ → Result ⊤ RowFault
ends rest = if length rest == 0 then Ok tt else Err BadRow

-- ---- lists

-- these values, and behind them those that reading gives
abbrev pub with_front : {A : Type 0} → List A → Result (List A × List ℕ) RowFault → Result (List A × List ℕ) RowFault
with_front front reading = reading >>= λ x. Ok (front ++ x.0, x.1)

-- so many elements, each of a form
unfoldable pub each_at : {A : Type 0} → (List ℕ → Result (A × List ℕ) RowFault) → ℕ → List ℕ → Result (List A × List ℕ) RowFault
each_at form zero bytes = Ok ([], bytes)
each_at form (suc n) bytes = do
  first ← form bytes
  with_front (first.0 ∷ []) (each_at form n first.1)

-- a length, and so many elements
abbrev pub list_at : {A : Type 0} → (List ℕ → Result (A × List ℕ) RowFault) → List ℕ → Result (List A × List ℕ) RowFault
list_at form bytes = number_at w32 bytes >>= λ n. each_at form n.0 n.1

unfoldable pub coin_at : List ℕ → Result ((List ℕ × ℕ) × List ℕ) RowFault
coin_at bytes = do
  denom ← denom_at bytes
  amount ← decimal_at denom.1
  Ok ((denom.0, amount.0), amount.1)

-- a coin that is not 0 comes before these
abbrev pub comes_before : List ℕ × ℕ → Money → Bool
comes_before coin [] = nat_lt 0 coin.1
comes_before coin (next ∷ others) = nat_lt 0 coin.1 && is_lt (denom_cmp coin.0 next.0)

-- the denominations ascend, and no amount is 0
abbrev pub is_in_order : Money → Bool
is_in_order [] = true
is_in_order (coin ∷ coins) = comes_before coin coins && is_in_order coins

-- these coins, where they stand so in a list
abbrev pub listed : Money → Result Money RowFault
listed coins = if is_in_order coins then Ok coins else Err BadRow

unfoldable pub coins_at : List ℕ → Result (Money × List ℕ) RowFault
coins_at bytes = do
  coins ← list_at coin_at bytes
  if is_in_order coins.0 then Ok coins else Err BadRow

unfoldable pub unbonding_at : List ℕ → Result (UnbondingEntry × List ℕ) RowFault
unbonding_at bytes = do
  created ← number_at w64 bytes
  completes ← moment_at created.1
  initial ← number_at w128 completes.1
  balance ← number_at w128 initial.1
  Ok (record { created = created.0; completes = completes.0; initial = initial.0; balance = balance.0 }, balance.1)

unfoldable pub redelegation_at : List ℕ → Result (RedelegationEntry × List ℕ) RowFault
redelegation_at bytes = do
  created ← number_at w64 bytes
  completes ← moment_at created.1
  initial ← number_at w128 completes.1
  shares_dst ← decimal_at initial.1
  Ok (record { created = created.0; completes = completes.0; initial = initial.0; shares_dst = shares_dst.0 }, shares_dst.1)

-- ---- the places of a window

-- the lowest bits of a byte, the lowest first
abbrev pub places_in : ℕ → ℕ → List Bool
places_in zero byte = []
places_in (suc n) byte = not ((byte % 2) == 0) ∷ places_in n (byte / 2)

-- these places, and behind them those that reading gives
abbrev pub with_places : List Bool → Result (List Bool) RowFault → Result (List Bool) RowFault
with_places front reading = reading >>= λ places. Ok (front ++ places)

-- So many places in bytes of eight each. The bits behind the last place are 0.
unfoldable pub places_of : ℕ → List ℕ → Result (List Bool) RowFault
places_of n [] = Ok []
places_of n (byte ∷ bytes) =
    if (byte / 2 ^ min n 8) == 0 then with_places (places_in (min n 8) byte) (places_of (n - min n 8) bytes) else Err BadRow

unfoldable pub packed_ring_at : List ℕ → Result (List Bool × List ℕ) RowFault
packed_ring_at bytes = do
  n ← number_at w32 bytes
  packed ← bytes_at (packed_len n.0) n.1
  places ← places_of n.0 packed.0
  Ok (places, packed.1)

-- ---- the missed places alone

-- the place is none before the least, and is below the end
abbrev pub comes_next : ℕ → ℕ → ℕ → Bool
comes_next least end place = nat_le least place && nat_lt place end

-- the places ascend from the least on, each above the one before it, and are below the end
abbrev pub are_places : ℕ → ℕ → List ℕ → Bool
are_places least end [] = true
are_places least end (place ∷ places) = comes_next least end place && are_places (place + 1) end places

-- the places from this one on up to the end, of which these were missed
abbrev pub places_with : ℕ → ℕ → List ℕ → List Bool
places_with at end [] = replicate (end - at) false
places_with at end (place ∷ missed) = replicate (place - at) false ++ true ∷ places_with (place + 1) end missed

unfoldable pub missed_ring_at : List ℕ → Result (List Bool × List ℕ) RowFault
missed_ring_at bytes = do
  n ← number_at w32 bytes
  missed ← list_at (number_at w32) n.1
  if are_places 0 n.0 missed.0 then Ok (places_with 0 n.0 missed.0, missed.1) else Err BadRow

-- a ring in a format
abbrev pub ring_at : Format → List ℕ → Result (List Bool × List ℕ) RowFault
ring_at First = packed_ring_at
ring_at Second = missed_ring_at

-- ---- the larger values

unfoldable pub params_at : List ℕ → Result (Params × List ℕ) RowFault
params_at bytes = do
  bond_denom ← denom_at bytes
  power_reduction ← number_at w64 bond_denom.1
  unbonding_time ← number_at w64 power_reduction.1
  max_validators ← number_at w64 unbonding_time.1
  max_entries ← number_at w64 max_validators.1
  min_commission_rate ← decimal_at max_entries.1
  community_tax ← decimal_at min_commission_rate.1
  withdraw_addr_enabled ← truth_at community_tax.1
  signed_blocks_window ← number_at w64 withdraw_addr_enabled.1
  min_signed_per_window ← decimal_at signed_blocks_window.1
  downtime_jail_duration ← number_at w64 min_signed_per_window.1
  slash_fraction_double_sign ← decimal_at downtime_jail_duration.1
  slash_fraction_downtime ← decimal_at slash_fraction_double_sign.1
  max_age_duration ← number_at w64 slash_fraction_downtime.1
  max_age_num_blocks ← number_at w64 max_age_duration.1
  authority ← user_at max_age_num_blocks.1
  Ok (
    record {
      bond_denom = bond_denom.0;
      power_reduction = power_reduction.0;
      unbonding_time = unbonding_time.0;
      max_validators = max_validators.0;
      max_entries = max_entries.0;
      min_commission_rate = min_commission_rate.0;
      community_tax = community_tax.0;
      withdraw_addr_enabled = withdraw_addr_enabled.0;
      signed_blocks_window = signed_blocks_window.0;
      min_signed_per_window = min_signed_per_window.0;
      downtime_jail_duration = downtime_jail_duration.0;
      slash_fraction_double_sign = slash_fraction_double_sign.0;
      slash_fraction_downtime = slash_fraction_downtime.0;
      max_age_duration = max_age_duration.0;
      max_age_num_blocks = max_age_num_blocks.0;
      authority = authority.0;
    },
    authority.1,
  )

unfoldable pub commission_at : List ℕ → Result (Commission × List ℕ) RowFault
commission_at bytes = do
  rate ← decimal_at bytes
  max_rate ← decimal_at rate.1
  max_change ← decimal_at max_rate.1
  updated ← moment_at max_change.1
  Ok (record { rate = rate.0; max_rate = max_rate.0; max_change = max_change.0; updated = updated.0 }, updated.1)

-- the value of the validator of this operator
unfoldable pub validator_at : List ℕ → List ℕ → Result (Validator × List ℕ) RowFault
validator_at operator bytes = do
  cons ← bytes_at 20 bytes
  status ← status_at cons.1
  jailed ← truth_at status.1
  tokens ← number_at w128 jailed.1
  shares ← decimal_at tokens.1
  commission ← commission_at shares.1
  min_self ← number_at w128 commission.1
  unbonding_height ← number_at w64 min_self.1
  unbonding_time ← moment_at unbonding_height.1
  Ok (
    record {
      operator = operator;
      cons = cons.0;
      status = status.0;
      jailed = jailed.0;
      tokens = tokens.0;
      shares = shares.0;
      commission = commission.0;
      min_self = min_self.0;
      unbonding_height = unbonding_height.0;
      unbonding_time = unbonding_time.0;
    },
    unbonding_time.1,
  )

unfoldable pub info_at : List ℕ → Result (SigningInfo × List ℕ) RowFault
info_at bytes = do
  start ← number_at w64 bytes
  counted ← number_at w64 start.1
  missed ← number_at w64 counted.1
  jailed_until ← moment_at missed.1
  tombstoned ← truth_at jailed_until.1
  Ok (record { start = start.0; counted = counted.0; missed = missed.0; jailed_until = jailed_until.0; tombstoned = tombstoned.0 }, tombstoned.1)

-- ---- items: the fields of the key behind the kind's byte, then those of the value

-- the number of a format, in one byte
abbrev pub format_at : Format → List ℕ → Result (List ℕ) RowFault
format_at f [] = Err BadRow
format_at f (first ∷ rest) = if first == number_of f then Ok rest else Err BadRow

unfoldable pub head_of : Format → List ℕ → List ℕ → Result Item RowFault
head_of f key value = do
  key_end ← ends key
  fields ← format_at f value
  height ← number_at w64 fields
  time ← moment_at height.1
  value_end ← ends time.1
  Ok (item.Head height.0 time.0)

unfoldable pub parameters_of : List ℕ → List ℕ → Result Item RowFault
parameters_of key value = do
  key_end ← ends key
  params ← params_at value
  value_end ← ends params.1
  Ok (item.Parameters params.0)

-- an amount alone, not 0
unfoldable pub amount_of : List ℕ → Result ℕ RowFault
amount_of value = do
  amount ← number_at w128 value
  value_end ← ends amount.1
  if amount.0 == 0 then Err BadRow else Ok amount.0

unfoldable pub balance_of : List ℕ → List ℕ → Result Item RowFault
balance_of key value = do
  account ← account_at key
  denom ← denom_at account.1
  key_end ← ends denom.1
  amount ← amount_of value
  Ok (item.Balance account.0 denom.0 amount)

unfoldable pub supply_of : List ℕ → List ℕ → Result Item RowFault
supply_of key value = do
  denom ← denom_at key
  key_end ← ends denom.1
  amount ← amount_of value
  Ok (item.Supply denom.0 amount)

-- one user alone
unfoldable pub user_of : List ℕ → Result (List ℕ) RowFault
user_of bytes = do
  user ← user_at bytes
  end ← ends user.1
  Ok user.0

-- two users alone
unfoldable pub users_of : List ℕ → Result (List ℕ × List ℕ) RowFault
users_of bytes = do
  first ← user_at bytes
  second ← user_at first.1
  end ← ends second.1
  Ok (first.0, second.0)

unfoldable pub validator_of : List ℕ → List ℕ → Result Item RowFault
validator_of key value = do
  operator ← user_of key
  validator ← validator_at operator value
  value_end ← ends validator.1
  Ok (item.Validator validator.0)

unfoldable pub delegation_of : List ℕ → List ℕ → Result Item RowFault
delegation_of key value = do
  pair ← users_of key
  shares ← decimal_at value
  value_end ← ends shares.1
  Ok (item.Delegation pair.0 pair.1 shares.0)

unfoldable pub unbonding_of : List ℕ → List ℕ → Result Item RowFault
unbonding_of key value = do
  pair ← users_of key
  entries ← list_at unbonding_at value
  value_end ← ends entries.1
  Ok (item.Unbonding pair.0 pair.1 entries.0)

unfoldable pub redelegation_of : List ℕ → List ℕ → Result Item RowFault
redelegation_of key value = do
  delegator ← user_at key
  pair ← users_of delegator.1
  entries ← list_at redelegation_at value
  value_end ← ends entries.1
  Ok (item.Redelegation delegator.0 pair.0 pair.1 entries.0)

unfoldable pub signing_of : Format → List ℕ → List ℕ → Result Item RowFault
signing_of f key value = do
  cons ← bytes_at 20 key
  key_end ← ends cons.1
  info ← info_at value
  ring ← ring_at f info.1
  value_end ← ends ring.1
  Ok (item.Signing cons.0 info.0 ring.0)

unfoldable pub purse_of : List ℕ → List ℕ → Result Item RowFault
purse_of key value = do
  operator ← user_of key
  outstanding ← coins_at value
  commission ← coins_at outstanding.1
  current ← coins_at commission.1
  value_end ← ends current.1
  Ok (item.Purse operator (record { outstanding = outstanding.0; commission = commission.0; current = current.0 }))

unfoldable pub pool_of : List ℕ → List ℕ → Result Item RowFault
pool_of key value = do
  key_end ← ends key
  coins ← coins_at value
  value_end ← ends coins.1
  Ok (item.Pool coins.0)

unfoldable pub withdraw_of : List ℕ → List ℕ → Result Item RowFault
withdraw_of key value = do
  delegator ← user_of key
  to ← user_of value
  Ok (item.Withdraw delegator to)

unfoldable pub current_of : List ℕ → List ℕ → Result Item RowFault
current_of key value = do
  operator ← user_of key
  period ← number_at w64 value
  value_end ← ends period.1
  Ok (item.CurrentPeriod operator period.0)

unfoldable pub historical_of : List ℕ → List ℕ → Result Item RowFault
historical_of key value = do
  operator ← user_at key
  period ← number_at w64 operator.1
  key_end ← ends period.1
  ratio ← coins_at value
  count ← number_at w128 ratio.1
  value_end ← ends count.1
  Ok (item.Historical operator.0 period.0 (record { ratio = ratio.0; count = count.0 }))

unfoldable pub start_of : List ℕ → List ℕ → Result Item RowFault
start_of key value = do
  pair ← users_of key
  period ← number_at w64 value
  stake ← decimal_at period.1
  height ← number_at w64 stake.1
  value_end ← ends height.1
  Ok (item.Start pair.0 pair.1 (record { period = period.0; stake = stake.0; height = height.0 }))

unfoldable pub event_of : List ℕ → List ℕ → Result Item RowFault
event_of key value = do
  operator ← user_at key
  height ← number_at w64 operator.1
  period ← number_at w64 height.1
  key_end ← ends period.1
  fraction ← decimal_at value
  value_end ← ends fraction.1
  Ok (item.Event operator.0 (record { height = height.0; period = period.0; fraction = fraction.0 }))

-- the item of a kind, from the fields of its key and those of its value
abbrev pub item_in : Format → Kind → List ℕ → List ℕ → Result Item RowFault
item_in f kind.Head = head_of f
item_in f kind.Parameters = parameters_of
item_in f kind.Balance = balance_of
item_in f kind.Supply = supply_of
item_in f kind.Validator = validator_of
item_in f kind.Delegation = delegation_of
item_in f kind.Unbonding = unbonding_of
item_in f kind.Redelegation = redelegation_of
item_in f kind.Signing = signing_of f
item_in f kind.Purse = purse_of
item_in f kind.Pool = pool_of
item_in f kind.Withdraw = withdraw_of
item_in f kind.CurrentPeriod = current_of
item_in f kind.Historical = historical_of
item_in f kind.Start = start_of
item_in f kind.Event = event_of

-- the item of a row in a format
unfoldable pub item_of : Format → List ℕ → List ℕ → Result Item RowFault
item_of f key value = do
  prefix ← byte_at key
  which ← or_bad (kind_of prefix.0)
  item_in f which prefix.1 value

-- the length of a signing record's ring, which stands behind the other fields in each format
unfoldable pub length_at : List ℕ → List ℕ → Result ℕ RowFault
length_at key value = do
  prefix ← byte_at key
  if prefix.0 == 48 then (info_at value >>= λ info. number_at w32 info.1 >>= λ n. Ok n.0) else Err BadRow
