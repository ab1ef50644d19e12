-- The items of entries: told by their keys, and with one more.
use Rattle.std.proofs.Common.{◌≡◌, ℕ, List, refl, inl, inr, ◌⊎◌}
use Rattle.std.specs.{List.Sorted.IsStrictlySortedBy, Map.keys_of}
use Rattle.base_roles.specs.{declared.{entities.RedelegationEntry.RedelegationEntry, items.Item.Item}, Entries.with}
use Rattle.base_roles.specs.{Items.IsAdded, Orders.triple_cmp}
use Rattle.base_roles.specs.declared.items.Item.TheVariants as item
use Rattle.rule_modules.specs.Redelegations.{RedelegationLists}
use Rattle.base_records.{specs.Items.{AnyValue, IsRowed}, proofs.RowLemmas.row-added}
use Rattle.base_records.proofs.RowedLemmas.{IsOfKind, IsOfOther, rowed}
use Rattle.mod_redelegation.specs.Items.{items_of, redelegation_item, redelegation_gone, redelegation_entry, same_entries}
use Rattle.mod_redelegation.proofs.{OrderLemmas.{triple_total, exact_key}, SameLemmas.{entries-yes, entries-no}}

of_kind_or_not : (i : Item) → IsOfKind AnyValue redelegation_item i ⊎ IsOfOther redelegation_entry i
of_kind_or_not (item.Redelegation d s t es) = inl (record { key = (d, s, t); value = es; made = refl; fits = tt })
of_kind_or_not _ = inr (refl, refl)

pub redelegation-rowed : IsRowed triple_cmp AnyValue redelegation_item redelegation_gone same_entries redelegation_entry
redelegation-rowed = rowed triple_cmp AnyValue redelegation_item redelegation_gone same_entries redelegation_entry
    of_kind_or_not (λ k v f. refl) (λ k. refl) (λ k v f. refl) (λ k. refl)
    (λ k q e. let a : k.0 ≡ q.0 = cc in let b : k.1 ≡ q.1 = cc in let c : k.2 ≡ q.2 = cc in (λ i. (a i, b i, c i))) exact_key entries-yes entries-no

-- one more
pub redelegation-added : (r : RedelegationLists) (key : List ℕ × List ℕ × List ℕ) (es : List RedelegationEntry) → IsStrictlySortedBy triple_cmp (keys_of r) → IsAdded (items_of r) (redelegation_item key es) (items_of (with triple_cmp r key es))
redelegation-added r key es in_order =
    row-added triple_cmp triple_total AnyValue redelegation_item redelegation_gone same_entries redelegation_entry redelegation-rowed r (λ k n c. tt) in_order key es tt
