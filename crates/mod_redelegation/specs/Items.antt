-- Redelegation entries as items of the state.
use Rattle.std.specs.Prelude.{ℕ, ◌==◌, ◌&&◌, Bool, true, false, List, [], ◌∷◌, Option, Some, None}
use Rattle.base_roles.specs.declared.entities.RedelegationEntry.{RedelegationEntry}
use Rattle.base_roles.specs.declared.items.Item.{Item}
use Rattle.base_roles.specs.declared.items.Item.TheVariants as item
use Rattle.base_records.specs.Items.{rows_of}
use Rattle.rule_modules.specs.Redelegations.{RedelegationLists}

-- the item of the entries of a delegator, a source and a target
abbrev pub redelegation_item : List ℕ × List ℕ × List ℕ → List RedelegationEntry → Item
redelegation_item key es = item.Redelegation key.0 key.1 key.2 es

-- the same item with its key alone
abbrev pub redelegation_gone : List ℕ × List ℕ × List ℕ → Item
redelegation_gone key = redelegation_item key []

-- whether two values are one
abbrev pub same_entry : RedelegationEntry → RedelegationEntry → Bool
same_entry a b = (((a.created == b.created) && (a.completes == b.completes)) && (a.initial == b.initial)) && (a.shares_dst == b.shares_dst)

abbrev pub same_entries : List RedelegationEntry → List RedelegationEntry → Bool
same_entries [] [] = true
same_entries [] (f ∷ fs) = false
same_entries (e ∷ es) [] = false
same_entries (e ∷ es) (f ∷ fs) = same_entry e f && same_entries es fs

-- the key and the value of an item, where it is one of entries
abbrev pub redelegation_entry : Item → Option ((List ℕ × List ℕ × List ℕ) × List RedelegationEntry)
redelegation_entry (item.Redelegation delegator source target es) = Some ((delegator, source, target), es)
redelegation_entry _ = None

-- the items of all entries
abbrev pub items_of : RedelegationLists → List Item
items_of r = rows_of redelegation_item r

-- whether an item is one of these
abbrev pub is_redelegation : Item → Bool
is_redelegation (item.Redelegation delegator source target es) = true
is_redelegation _ = false
