-- Holdings as items of the state.
use Rattle.std.specs.Prelude.{ℕ, ◌==◌, Bool, true, false, List, ◌++◌, Option, Some, None}
use Rattle.std.specs.BTreeMap.{is_at}
use Rattle.base_types.specs.declared.account.Account.{Account}
use Rattle.base_types.specs.Orders.{account_cmp}
use Rattle.base_roles.specs.declared.items.Item.{Item}
use Rattle.base_roles.specs.declared.items.Item.TheVariants as item
use Rattle.base_roles.specs.Holdings.{Holdings, coin_if}
use Rattle.base_records.specs.Items.{rows_of}

-- the item of a balance
abbrev pub balance_item : Account × List ℕ → ℕ → Item
balance_item place n = item.Balance place.0 place.1 n

-- the item of a supply
abbrev pub supply_item : List ℕ → ℕ → Item
supply_item d n = item.Supply d n

-- the coin of an entry, where there is one and it is the account's
abbrev pub own_coin : Account → Option ((Account × List ℕ) × ℕ) → Option (List ℕ × ℕ)
own_coin who None = None
own_coin who (Some e) = coin_if (is_at (account_cmp who) e.0.0) (e.0.1, e.1)

-- the same items with their keys alone
abbrev pub balance_gone : Account × List ℕ → Item
balance_gone place = balance_item place 0

abbrev pub supply_gone : List ℕ → Item
supply_gone d = supply_item d 0

-- the key and the amount of an item, where it is a balance
abbrev pub balance_entry : Item → Option ((Account × List ℕ) × ℕ)
balance_entry (item.Balance account denom amount) = Some ((account, denom), amount)
balance_entry _ = None

-- where it is a supply
abbrev pub supply_entry : Item → Option (List ℕ × ℕ)
supply_entry (item.Supply denom amount) = Some (denom, amount)
supply_entry _ = None

-- whether two amounts are one
abbrev pub same_amount : ℕ → ℕ → Bool
same_amount a b = a == b

-- the items of holdings: each balance, then each supply
abbrev pub items_of : Holdings → List Item
items_of h = rows_of balance_item h.balances ++ rows_of supply_item h.supplies

-- whether an item is a balance or a supply
abbrev pub is_holding : Item → Bool
is_holding (item.Balance account denom amount) = true
is_holding (item.Supply denom amount) = true
is_holding _ = false
