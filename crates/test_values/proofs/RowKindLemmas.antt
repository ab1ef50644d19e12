-- How items belong to the two kinds of records of the tests.
use Rattle.std.proofs.Common.{◌≡◌, ℕ, true, false, refl, arith, inl, inr, is_some, ◌⊎◌}
use Rattle.std.proofs.lemmas.{Bool.Decides.nat_tests, Map.Lookups.exact_bytes}
use Rattle.base_types.specs.Orders.{addr_cmp, denom_cmp}
use Rattle.base_roles.specs.declared.items.Item.{Item}
use Rattle.base_roles.specs.declared.items.Item.TheVariants as item
use Rattle.base_records.specs.{Kinds.AreApart, Items.{AnyValue, IsRowed}}
use Rattle.base_records.proofs.RowedLemmas.{IsOfKind, IsOfOther, rowed}
use Rattle.test_values.specs.RowKinds.{period_item, period_gone, period_entry, supply_item, supply_gone, supply_entry, same_number}

is_number : (v w : ℕ) → same_number v w ≡ true → v ≡ w
is_number v w h = grind (arith, nat_tests)

no_number : (v w : ℕ) → same_number v w ≡ false → v ≡ w → ⊥
no_number v w h e = grind (arith, nat_tests)

period_or_not : (i : Item) → IsOfKind AnyValue period_item i ⊎ IsOfOther period_entry i
period_or_not (item.CurrentPeriod o p) = inl (record { key = o; value = p; made = refl; fits = tt })
period_or_not _ = inr (refl, refl)

pub periods-rowed : IsRowed addr_cmp AnyValue period_item period_gone same_number period_entry
periods-rowed = rowed addr_cmp AnyValue period_item period_gone same_number period_entry
    period_or_not (λ k v f. refl) (λ k. refl) (λ k v f. refl) (λ k. refl) (λ k q e. cc) exact_bytes is_number no_number

supply_or_not : (i : Item) → IsOfKind AnyValue supply_item i ⊎ IsOfOther supply_entry i
supply_or_not (item.Supply d n) = inl (record { key = d; value = n; made = refl; fits = tt })
supply_or_not _ = inr (refl, refl)

pub supplies-rowed : IsRowed denom_cmp AnyValue supply_item supply_gone same_number supply_entry
supplies-rowed = rowed denom_cmp AnyValue supply_item supply_gone same_number supply_entry
    supply_or_not (λ k v f. refl) (λ k. refl) (λ k v f. refl) (λ k. refl) (λ k q e. cc) exact_bytes is_number no_number

-- a period is no supply
pub kinds-apart : AreApart (λ i. is_some (period_entry i)) (λ i. is_some (supply_entry i))
kinds-apart (item.CurrentPeriod o p) e = refl
kinds-apart _ e = absurd cc
