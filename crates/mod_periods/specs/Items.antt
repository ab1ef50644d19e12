-- Records as items of the state.
use Rattle.std.specs.Prelude.{ℕ, ◌==◌, ◌&&◌, Bool, true, false, List, [], ◌∷◌, ◌++◌, Option, Some, None}
use Rattle.base_roles.specs.declared.entities.Historical.{Historical}
use Rattle.base_roles.specs.declared.entities.StartingInfo.{StartingInfo}
use Rattle.base_roles.specs.declared.items.Item.{Item}
use Rattle.base_roles.specs.declared.items.Item.TheVariants as item
use Rattle.base_records.specs.Items.{rows_of}
use Rattle.mod_sums.specs.Same.{same_money}
use Rattle.mod_periods.specs.Kept.{Kept}

-- the item of a period that runs
abbrev pub current_item : List ℕ → ℕ → Item
current_item operator period = item.CurrentPeriod operator period

-- the item of the record of an ended period
abbrev pub historical_item : List ℕ × ℕ → Historical → Item
historical_item key h = item.Historical key.0 key.1 h

-- the item of a start
abbrev pub start_item : List ℕ × List ℕ → StartingInfo → Item
start_item key s = item.Start key.0 key.1 s

-- the item of a slash event
abbrev pub event_item : List ℕ × ℕ × ℕ → ℕ → Item
event_item key fraction = item.Event key.0 (record { height = key.1; period = key.2; fraction = fraction })

-- the same items with their keys alone
abbrev pub current_gone : List ℕ → Item
current_gone operator = current_item operator 0

abbrev pub historical_gone : List ℕ × ℕ → Item
historical_gone key = historical_item key (record { ratio = []; count = 0 })

abbrev pub start_gone : List ℕ × List ℕ → Item
start_gone key = start_item key (record { period = 0; stake = 0; height = 0 })

abbrev pub event_gone : List ℕ × ℕ × ℕ → Item
event_gone key = event_item key 0

-- whether two values are one
abbrev pub same_period : ℕ → ℕ → Bool
same_period a b = a == b

abbrev pub same_history : Historical → Historical → Bool
same_history a b = (a.count == b.count) && same_money a.ratio b.ratio

abbrev pub same_start : StartingInfo → StartingInfo → Bool
same_start a b = ((a.period == b.period) && (a.stake == b.stake)) && (a.height == b.height)

-- the key and the value of an item, where it is a period that runs
abbrev pub current_entry : Item → Option (List ℕ × ℕ)
current_entry (item.CurrentPeriod operator period) = Some (operator, period)
current_entry _ = None

-- the record of an ended period
abbrev pub historical_entry : Item → Option ((List ℕ × ℕ) × Historical)
historical_entry (item.Historical operator period history) = Some ((operator, period), history)
historical_entry _ = None

-- a start
abbrev pub start_entry : Item → Option ((List ℕ × List ℕ) × StartingInfo)
start_entry (item.Start operator delegator info) = Some ((operator, delegator), info)
start_entry _ = None

-- a slash event
abbrev pub event_entry : Item → Option ((List ℕ × ℕ × ℕ) × ℕ)
event_entry (item.Event operator event) = Some ((operator, event.height, event.period), event.fraction)
event_entry _ = None

-- the items of records: the periods that run, the records of ended ones, the starts, the slash events
abbrev pub items_of : Kept → List Item
items_of k = rows_of current_item k.current ++ (rows_of historical_item k.historical ++ (rows_of start_item k.starts ++ rows_of event_item k.events))

-- whether an item is one of these
abbrev pub is_record : Item → Bool
is_record (item.CurrentPeriod operator period) = true
is_record (item.Historical operator period history) = true
is_record (item.Start operator delegator info) = true
is_record (item.Event operator event) = true
is_record _ = false
