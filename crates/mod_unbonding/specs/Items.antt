-- Unbonding entries as items of the state.
use Rattle.std.specs.Prelude.{ℕ, ◌==◌, ◌&&◌, Bool, true, false, List, [], ◌∷◌, Option, Some, None}
use Rattle.base_roles.specs.declared.entities.UnbondingEntry.{UnbondingEntry}
use Rattle.base_roles.specs.declared.items.Item.{Item}
use Rattle.base_roles.specs.declared.items.Item.TheVariants as item
use Rattle.base_records.specs.Items.{rows_of}
use Rattle.rule_modules.specs.Unbondings.{UnbondingLists}

-- the item of the entries of a delegator and an operator
abbrev pub unbonding_item : List ℕ × List ℕ → List UnbondingEntry → Item
unbonding_item key es = item.Unbonding key.0 key.1 es

-- the same item with its key alone
abbrev pub unbonding_gone : List ℕ × List ℕ → Item
unbonding_gone key = unbonding_item key []

-- whether two values are one
abbrev pub same_entry : UnbondingEntry → UnbondingEntry → Bool
same_entry a b = (((a.created == b.created) && (a.completes == b.completes)) && (a.initial == b.initial)) && (a.balance == b.balance)

abbrev pub same_entries : List UnbondingEntry → List UnbondingEntry → Bool
same_entries [] [] = true
same_entries [] (f ∷ fs) = false
same_entries (e ∷ es) [] = false
same_entries (e ∷ es) (f ∷ fs) = same_entry e f && same_entries es fs

-- the key and the value of an item, where it is one of entries
abbrev pub unbonding_entry : Item → Option ((List ℕ × List ℕ) × List UnbondingEntry)
unbonding_entry (item.Unbonding delegator operator es) = Some ((delegator, operator), es)
unbonding_entry _ = None

-- the items of all entries
abbrev pub items_of : UnbondingLists → List Item
items_of u = rows_of unbonding_item u

-- whether an item is one of these
abbrev pub is_unbonding : Item → Bool
is_unbonding (item.Unbonding delegator operator es) = true
is_unbonding _ = false
