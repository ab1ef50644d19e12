-- The items of which the row is the same in both formats.
use Rattle.std.specs.Prelude.{◌≡◌, ◌≤◌, [], length}
use Rattle.base_roles.specs.declared.items.Item.{Item}
use Rattle.base_roles.specs.declared.items.Item.TheVariants as item
use Rattle.store_rows.specs.Fields.{missed_of}

-- It is not the last height and time; and where it is a signing record, its window has 25 to 32
-- places, of which none was missed.
abbrev pub IsAlike : Item → Type 0
IsAlike (item.Head height time) = ⊥
IsAlike (item.Parameters params) = Unit {0}
IsAlike (item.Balance account denom amount) = Unit {0}
IsAlike (item.Supply denom amount) = Unit {0}
IsAlike (item.Validator validator) = Unit {0}
IsAlike (item.Delegation operator delegator shares) = Unit {0}
IsAlike (item.Unbonding delegator operator entries) = Unit {0}
IsAlike (item.Redelegation delegator source target entries) = Unit {0}
IsAlike (item.Signing cons info ring) = (missed_of ring ≡ []) × (25 ≤ length ring) × (length ring ≤ 32)
IsAlike (item.Purse operator purse) = Unit {0}
IsAlike (item.Pool coins) = Unit {0}
IsAlike (item.Withdraw delegator to) = Unit {0}
IsAlike (item.CurrentPeriod operator period) = Unit {0}
IsAlike (item.Historical operator period history) = Unit {0}
IsAlike (item.Start operator delegator info) = Unit {0}
IsAlike (item.Event operator event) = Unit {0}
