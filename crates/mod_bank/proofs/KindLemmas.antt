-- The two kinds of records of a bank: how their keys are told apart, and their items.
use Rattle.std.proofs.Common.{◌∙◌, sym, arith, inl, inr, ◌≡◌, ◌⊎◌, ℕ, true, false, List, refl}
use Rattle.std.proofs.lemmas.{Bool.Decides.nat_tests, Map.Lookups.exact_bytes}
use Rattle.base_types.specs.{declared.account.Account.Account, Orders.denom_cmp}
use Rattle.base_roles.{specs.declared.items.Item.Item, proofs.HoldingLemmas.{place_exact, place_order, place_order_is}}
use Rattle.base_roles.specs.declared.items.Item.TheVariants as item
use Rattle.base_records.{specs.Items.{AnyValue, IsRowed}, proofs.RowedLemmas.{IsOfKind, IsOfOther, rowed}}
use Rattle.mod_bank.specs.Items.{balance_item, supply_item, balance_gone, supply_gone, balance_entry, supply_entry, same_amount}

is_amount : (v w : ℕ) → same_amount v w ≡ true → v ≡ w
is_amount v w h = grind (arith, nat_tests)

no_amount : (v w : ℕ) → same_amount v w ≡ false → v ≡ w → ⊥
no_amount v w h e = grind (arith, nat_tests)

balance_or_not : (i : Item) → IsOfKind AnyValue balance_item i ⊎ IsOfOther balance_entry i
balance_or_not (item.Balance a d n) = inl (record { key = (a, d); value = n; made = refl; fits = tt })
balance_or_not _ = inr (refl, refl)

pub balances_are_rowed : IsRowed place_order AnyValue balance_item balance_gone same_amount balance_entry
balances_are_rowed = rowed place_order AnyValue balance_item balance_gone same_amount balance_entry
    balance_or_not (λ k v f. refl) (λ k. refl) (λ k v f. refl) (λ k. refl)
    (λ k q e. let a : k.0 ≡ q.0 = cc in let d : k.1 ≡ q.1 = cc in (λ i. (a i, d i)))
    (λ a b e. place_exact a b (sym (λ i. place_order_is i a b) ∙ e)) is_amount no_amount

supply_or_not : (i : Item) → IsOfKind AnyValue supply_item i ⊎ IsOfOther supply_entry i
supply_or_not (item.Supply d n) = inl (record { key = d; value = n; made = refl; fits = tt })
supply_or_not _ = inr (refl, refl)

pub supplies_are_rowed : IsRowed denom_cmp AnyValue supply_item supply_gone same_amount supply_entry
supplies_are_rowed = rowed denom_cmp AnyValue supply_item supply_gone same_amount supply_entry
    supply_or_not (λ k v f. refl) (λ k. refl) (λ k v f. refl) (λ k. refl) (λ k q e. cc) exact_bytes is_amount no_amount
