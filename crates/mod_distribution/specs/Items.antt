-- Records as items of the state.
use Rattle.std.specs.Prelude.{ℕ, Bool, true, false, List, ◌++◌, Option, Some, None}
use Rattle.std.specs.Str.{bytes_eq}
use Rattle.std.specs.List.Sorted.{IsStrictlySortedBy}
use Rattle.std.specs.Map.{keys_of}
use Rattle.base_types.specs.Orders.{addr_cmp}
use Rattle.base_roles.specs.declared.items.Item.{Item}
use Rattle.base_roles.specs.declared.items.Item.TheVariants as item
use Rattle.base_roles.specs.Items.{no_address}
use Rattle.base_records.specs.Kinds.{either}
use Rattle.base_records.specs.Items.{rows_of}
use Rattle.mod_allocation.specs.Items.{is_shared}
use Rattle.mod_allocation.specs.Items as alloc
use Rattle.mod_periods.specs.Items.{is_record}
use Rattle.mod_periods.specs.Items as f1
use Rattle.mod_periods.specs.Kept as f1_kept
use Rattle.rule_modules.specs.Sound.{PursesAreSound}
use Rattle.mod_distribution.specs.Kept.{KeptShared}

-- the item of an address to which payments go
abbrev pub payee_item : List ℕ → List ℕ → Item
payee_item delegator to = item.Withdraw delegator to

-- the same with its key alone
abbrev pub payee_gone : List ℕ → Item
payee_gone delegator = payee_item delegator no_address

-- whether two addresses are one
abbrev pub same_payee : List ℕ → List ℕ → Bool
same_payee a b = bytes_eq a b

-- the key and the address of an item, where it is one
abbrev pub payee_entry : Item → Option (List ℕ × List ℕ)
payee_entry (item.Withdraw delegator to) = Some (delegator, to)
payee_entry _ = None

-- whether an item is one
abbrev pub is_payee : Item → Bool
is_payee (item.Withdraw delegator to) = true
is_payee _ = false

-- the keys ascend in each list, and purses and pool are lists of coins
pub record AreInOrder (k : KeptShared) : Type 0 where
  pub rewards : f1_kept.AreInOrder k.rewards
  pub purses : PursesAreSound k.purses
  pub payees : IsStrictlySortedBy addr_cmp (keys_of k.withdraw)

-- the items: purses and the pool, then to whom payments go, then periods, starts and slash events
abbrev pub items_of : KeptShared → List Item
items_of k = alloc.items_of k.purses ++ (rows_of payee_item k.withdraw ++ f1.items_of k.rewards)

-- whether an item is one of these
abbrev pub is_distributed : Item → Bool
is_distributed = either is_shared (either is_payee is_record)
