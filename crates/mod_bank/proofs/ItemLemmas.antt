-- The items of holdings: one more, and as two tables tell them.
use Rattle.std.proofs.Common.{◌≡◌, ◌∙◌, ℕ, Bool, true, false, List, ◌++◌, refl, sym, ap, subst, is_some, Result, Ok, Err, OnOk}
use Rattle.std.specs.{Prelude.⊤, List.Sorted.IsStrictlySortedBy, Map.keys_of, BTreeMap.insert_entry}
use Rattle.base_types.specs.{declared.account.Account.Account, Orders.denom_cmp}
use Rattle.base_roles.specs.{declared.items.Item.Item, Holdings.Holdings, Items.{IsOnce, IsAdded, AreChanges}}
use Rattle.base_roles.specs.Orders.{place_cmp}
use Rattle.base_roles.proofs.HoldingLemmas.{place_total, denom_total, place_order, place_order_is}
use Rattle.base_roles.specs.declared.items.Item.TheVariants as item
use Rattle.base_records.specs.{Kinds.AreApart, Items.{rows_of, AnyValue, IsRowed}}
use Rattle.base_records.proofs.{KindLemmas.{added-first, added-second}, RowLemmas.{row-added, rows-of-kind}}
use Rattle.mod_bank.specs.Items.{balance_item, supply_item, balance_gone, supply_gone, balance_entry, supply_entry, same_amount, items_of, is_holding}
use Rattle.mod_bank.proofs.KindLemmas.{balances_are_rowed, supplies_are_rowed}

-- a balance is no supply
pub kinds-apart : AreApart (λ i. is_some (balance_entry i)) (λ i. is_some (supply_entry i))
kinds-apart (item.Balance a d n) e = refl
kinds-apart (item.Supply d n) e = absurd cc
kinds-apart _ e = refl

-- an item that is neither
pub no_holding : (i : Item) → ((k : Account) (d : List ℕ) (n : ℕ) → i ≡ item.Balance k d n → ⊥) → ((d : List ℕ) (n : ℕ) → i ≡ item.Supply d n → ⊥) → is_holding i ≡ false
no_holding (item.Balance k d n) b s = absurd (b k d n refl)
no_holding (item.Supply d n) b s = absurd (s d n refl)
no_holding _ b s = refl

balances_by_place : IsRowed place_cmp AnyValue balance_item balance_gone same_amount balance_entry
balances_by_place = subst (λ order. IsRowed order AnyValue balance_item balance_gone same_amount balance_entry) place_order_is balances_are_rowed

-- ---- one more

module _ (h : Holdings) where
  pub balance-added : (k : Account × List ℕ) (n : ℕ) → IsStrictlySortedBy place_cmp (keys_of h.balances)
      → IsAdded (items_of h) (balance_item k n) (items_of (record { balances = insert_entry place_cmp h.balances k n; supplies = h.supplies }))
  balance-added k n s = added-first balances_by_place.kind supplies_are_rowed.kind kinds-apart (rows_of balance_item h.balances) (rows_of balance_item (insert_entry place_cmp h.balances k n)) (rows_of supply_item h.supplies) (balance_item k n) refl
      (rows-of-kind denom_cmp denom_total AnyValue supply_item supply_gone same_amount supply_entry supplies_are_rowed h.supplies (λ q m c. tt))
      (row-added place_cmp place_total AnyValue balance_item balance_gone same_amount balance_entry balances_by_place h.balances (λ q m c. tt) s k n tt)

  pub supply-added : (k : List ℕ) (n : ℕ) → IsStrictlySortedBy denom_cmp (keys_of h.supplies)
      → IsAdded (items_of h) (supply_item k n) (items_of (record { balances = h.balances; supplies = insert_entry denom_cmp h.supplies k n }))
  supply-added k n s = added-second balances_by_place.kind supplies_are_rowed.kind kinds-apart (rows_of supply_item h.supplies) (rows_of supply_item (insert_entry denom_cmp h.supplies k n)) (rows_of balance_item h.balances) (supply_item k n) refl
      (rows-of-kind place_cmp place_total AnyValue balance_item balance_gone same_amount balance_entry balances_by_place h.balances (λ q m c. tt))
      (row-added denom_cmp denom_total AnyValue supply_item supply_gone same_amount supply_entry supplies_are_rowed h.supplies (λ q m c. tt) s k n tt)
