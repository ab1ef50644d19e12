-- That the record of an ended period is deleted exactly with the last reference to it, or with its validator: of every sound state,
-- and so of each that a chain reaches.
use Rattle.std.specs.Prelude.{◌≡◌, ◌↔◌, ◌⊎◌, ℕ, List, Some, None}
use Rattle.std.specs.List.Sorted.{IsPermutation}
use Rattle.base_roles.specs.declared.items.Item.{Item}
use Rattle.base_roles.specs.Entries.{at}
use Rattle.base_roles.specs.Staked.{validator_at}
use Rattle.base_types.specs.Orders.{addr_cmp}
use Rattle.rule_modules.specs.Chain.{State, shared_in}
use Rattle.rule_modules.specs.Periods.{starts_of}
use Rattle.rule_modules.specs.Sound.{IsSound}
use Rattle.rule_machine.specs.Items.{items_of}
use Rattle.mod_periods.specs.Kept.{record_of}
use Rattle.mod_periods.specs.Stands.{history_of, references_at}
use Rattle.store_records.specs.Gathering.{records_in}
use Rattle.law_records.specs.HistoryLaws.{kept_rewards}
use Rattle.law_records.specs.Records.{plain_of}

-- What a state's items say of its ended periods. In whatever order they come, they are gathered as its records. Among these an
-- operator's period has just the record that is due: of its ratio, with the number of what refers to it, which is one where it is
-- the last that ended, and one for each start and each slash event at it. It has none exactly where no validator has the operator,
-- or nothing refers to the period.
pub record KeepsWhatIsReferredTo (w : State) : Type 0 where
  pub gathered : (items : List Item) → IsPermutation (items_of w) items → records_in items ≡ Some (plain_of w)
  pub due : (operator : List ℕ) (period : ℕ) → record_of (kept_rewards (plain_of w).lists.shared) operator period
      ≡ history_of (at addr_cmp (shared_in w).rewards.periods operator) (starts_of (shared_in w).rewards operator) period
  pub none : (operator : List ℕ) (period : ℕ) → (record_of (kept_rewards (plain_of w).lists.shared) operator period ≡ None)
      ↔ ((validator_at w.mine.staked operator ≡ None) ⊎ (references_at (shared_in w).rewards operator period ≡ 0))

-- So it is with every sound state.
abbrev pub RecordsGoWithReferences : Type 0
RecordsGoWithReferences = (w : State) → IsSound w → KeepsWhatIsReferredTo w
