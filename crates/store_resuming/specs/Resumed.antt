-- The states that have given items, and what a chain out of items is.
use Rattle.std.specs.Prelude.{◌≡◌, Bool, false, List, [], Result, Ok, Err}
use Rattle.std.specs.List.Sorted.{IsPermutation}
use Rattle.base_roles.specs.declared.items.Item.{Item}
use Rattle.rule_modules.specs.Chain.{State}
use Rattle.rule_modules.specs.Sound.{IsSound}
use Rattle.rule_machine.specs.Items.{items_of}
use Rattle.store_records.specs.Plain.{PlainSeen}
use Rattle.store_soundness.specs.Sound.{is_sound}
use Rattle.store_loading.specs.Loaded.{kept_in}
use Rattle.chain_whole.specs.Chained.{Chained}
use Rattle.chain_whole.specs.declared.fault.ChainFault.{ChainFault}
use Rattle.chain_whole.specs.declared.fault.ChainFault.TheVariants as chain

-- A state of which these are the items, in any order: it is sound, and no facts are left of what led
-- to it. Its log is not told by items.
pub record IsStateOf (items : List Item) (p : State) : Type 0 where
  pub sound : IsSound p
  pub none : p.view.facts ≡ []
  pub has : IsPermutation (items_of p) items

-- why no chain comes of items: they are those of no sound state, or memory is wanting
abbrev pub IsResumeFault : List Item → ChainFault → Type 0
IsResumeFault items (chain.BadGenesis number) = ⊥
IsResumeFault items chain.BadItems = (p : State) → IsStateOf items p → ⊥
IsResumeFault items chain.NoMemory = Unit {0}

-- why none comes of records: they don't pass the tests, or memory is wanting
abbrev pub IsJudged : PlainSeen → ChainFault → Type 0
IsJudged r (chain.BadGenesis number) = ⊥
IsJudged r chain.BadItems = is_sound r ≡ false
IsJudged r chain.NoMemory = Unit {0}

-- why records that were judged are not taken: they don't pass the tests, or memory was wanting for these
abbrev pub IsVerdict : {E : Type 0} → Result Bool E → ChainFault → Type 0
IsVerdict sound (chain.BadGenesis number) = ⊥
IsVerdict sound chain.BadItems = sound ≡ Ok false
IsVerdict {E} sound chain.NoMemory = (why : E) × (sound ≡ Err why)

-- A chain is that of records, settled.
pub record IsResumed (r : PlainSeen) (x : Chained) : Type 0 where
  pub kept : x.kept ≡ kept_in r
  pub settled : x.settled ≡ kept_in r
  pub unspent : x.spent ≡ false
