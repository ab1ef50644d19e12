-- Two kinds of records of the tests: the periods that run by operator, and supplies by denomination.
use Rattle.std.specs.Prelude.{ℕ, ◌==◌, Bool, List, Option, Some, None}
use Rattle.base_roles.specs.declared.items.Item.{Item}
use Rattle.base_roles.specs.declared.items.Item.TheVariants as item

abbrev pub period_item : List ℕ → ℕ → Item
period_item operator period = item.CurrentPeriod operator period

abbrev pub period_gone : List ℕ → Item
period_gone operator = period_item operator 0

abbrev pub period_entry : Item → Option (List ℕ × ℕ)
period_entry (item.CurrentPeriod operator period) = Some (operator, period)
period_entry _ = None

abbrev pub supply_item : List ℕ → ℕ → Item
supply_item denom amount = item.Supply denom amount

abbrev pub supply_gone : List ℕ → Item
supply_gone denom = supply_item denom 0

abbrev pub supply_entry : Item → Option (List ℕ × ℕ)
supply_entry (item.Supply denom amount) = Some (denom, amount)
supply_entry _ = None

abbrev pub same_number : ℕ → ℕ → Bool
same_number a b = a == b
