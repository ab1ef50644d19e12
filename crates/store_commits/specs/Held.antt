-- What a keeper holds of a chain, and what a commit makes of it.
use Rattle.std.specs.Prelude.{◌<◌, List, [], Option, Some, None}
use Rattle.base_io.specs.Rows.{Pair}
use Rattle.base_roles.specs.declared.items.Item.{Item}
use Rattle.rule_machine.specs.Items.{items_of}
use Rattle.rule_modules.specs.Chain.{State}
use Rattle.store_items.specs.Stored.{rows_in}

-- the items of what lines have led to: none before the genesis, and then those of a state
abbrev pub items_at : Option State → List Item
items_at None = []
items_at (Some p) = items_of p

-- and their rows
abbrev pub rows_at : Option State → List Pair
rows_at s = rows_in (items_at s)

-- the last height rose from one state to the other
abbrev pub HasRisen : State → State → Type 0
HasRisen p q = p.view.ctx.height < q.view.ctx.height
