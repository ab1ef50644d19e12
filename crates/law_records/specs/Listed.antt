-- What gathered records list, and which items are gathered.
use Rattle.std.specs.Prelude.{◌≡◌, List, Some, IfSome, IsSome}
use Rattle.std.specs.List.Sorted.{IsPermutation}
use Rattle.base_roles.specs.declared.items.Item.{Item}
use Rattle.rule_modules.specs.Chain.{State}
use Rattle.rule_modules.specs.Sound.{IsSound}
use Rattle.rule_machine.specs.Items.{items_of}
use Rattle.store_records.specs.Gathering.{records_in}
use Rattle.store_records.specs.Plain.{PlainSeen, AreAscending, listed}
use Rattle.law_records.specs.Records.{plain_of}

-- gathered records list just the items, in another order
abbrev pub RecordsAreListed : Type 0
RecordsAreListed =
    (items : List Item) → IfSome (records_in items) (λ r. IsPermutation (listed r) items)

-- what records list whose keys ascend is gathered, in whatever order it comes
abbrev pub ListedAreGathered : Type 0
ListedAreGathered =
    (r : PlainSeen) (items : List Item) → AreAscending r.lists → IsPermutation (listed r) items
    → IsSome (records_in items)

-- the items of a sound state are gathered as its records, in whatever order they come: where none
-- are, no sound state has these items
abbrev pub StatesAreGathered : Type 0
StatesAreGathered =
    (p : State) (items : List Item) → IsSound p → IsPermutation (items_of p) items
    → records_in items ≡ Some (plain_of p)
