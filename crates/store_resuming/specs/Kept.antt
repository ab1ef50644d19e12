-- What the records of a sound state say of what modules keep: all of it.
use Rattle.std.specs.Prelude.{◌≡◌, []}
use Rattle.rule_modules.specs.Chain.{State}
use Rattle.rule_modules.specs.Sound.{IsSound}
use Rattle.rule_machine.specs.Items.{items_of}
use Rattle.mod_distribution.specs.Items.{AreInOrder}
use Rattle.chain_modules.specs.Kept.{KeptState, Keeps}
use Rattle.law_records.specs.Records.{plain_of}
use Rattle.store_loading.specs.Loaded.{kept_in}

-- the records of a sound state, as modules keep them, stand for it, where no facts are left
abbrev pub RecordsAreKept : Type 0
RecordsAreKept = (p : State) → IsSound p → p.view.facts ≡ [] → Keeps (kept_in (plain_of p)) p

-- and are all that stands for it in the order of its keys
abbrev pub RecordsAreAll : Type 0
RecordsAreAll =
    (k : KeptState) (p : State) → IsSound p → p.view.facts ≡ [] → AreInOrder k.shared → Keeps k p
    → k ≡ kept_in (plain_of p)

-- What stands for a sound state stands for each other one with the same items and facts: rows decide
-- what is kept.
abbrev pub RowsDecide : Type 0
RowsDecide =
    (k : KeptState) (p q : State) → IsSound p → IsSound q → items_of p ≡ items_of q
    → p.view.facts ≡ q.view.facts → Keeps k p → Keeps k q
