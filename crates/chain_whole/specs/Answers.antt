-- What the calls answer and leave.
use Rattle.std.specs.Prelude.{◌≡◌, ℕ, true, false, List, Option, Some, Result, Ok, Err}
use Rattle.base_roles.specs.declared.facts.Fact.{Fact}
use Rattle.base_messages.specs.declared.faults.BlockFault.{BlockFault}
use Rattle.base_messages.specs.declared.faults.BlockFault.TheVariants as block
use Rattle.base_messages.specs.declared.genesis.Genesis.{Genesis}
use Rattle.base_messages.specs.declared.report.BlockReport.{BlockReport}
use Rattle.rule_modules.specs.Chain.{State}
use Rattle.rule_machine.specs.GenesisState.{chain_started}
use Rattle.rule_machine.specs.Listening.{Hearing, heard_in}
use Rattle.law_runs.specs.Going.{GoesFairly}
use Rattle.chain_modules.specs.Kept.{KeptState, StandsFor}
use Rattle.chain_whole.specs.Chained.{Listened}
use Rattle.chain_whole.specs.declared.fault.ChainFault.{ChainFault}
use Rattle.chain_whole.specs.declared.fault.ChainFault.TheVariants as chain

-- why there is no chain: the condition of this number, or memory is wanting
abbrev pub IsGenesisFault : Option ℕ → ChainFault → Type 0
IsGenesisFault due (chain.BadGenesis number) = due ≡ Some number
IsGenesisFault due chain.BadItems = ⊥
IsGenesisFault due chain.NoMemory = Unit {0}

-- the machine starts from the genesis, tells these facts, and what is kept stands for its state
abbrev pub Starts : Genesis → List Fact → KeptState → Type 0
Starts g facts k =
    (due : State) × (chain_started g ≡ Ok (record { facts = facts; state = due })) × StandsFor k due

-- Nothing of a chain has changed, and its listener holds what it held.
pub record HasStayed {E P : Type 0} (heard : E → P) (old new : Listened E) : Type 0 where
  pub kept : new.kept ≡ old.kept
  pub settled : new.settled ≡ old.settled
  pub spent : new.spent ≡ old.spent
  pub listener : heard new.listener ≡ heard old.listener

-- What a block leaves of the chain, whatever the chain stood for: at a fault of the machine nothing
-- changes; and where memory is wanting it is so from then on. What was settled stays.
abbrev pub LeavesChain : {E P : Type 0} → (E → P) → Listened E → Listened E → Result BlockReport BlockFault → Type 0
LeavesChain heard old new (Ok report) = (old.spent ≡ false) × (new.spent ≡ false) × (new.settled ≡ old.settled)
LeavesChain heard old new (Err block.NoMemory) = new.spent ≡ true
LeavesChain heard old new (Err fault) = (old.spent ≡ false) × HasStayed heard old new

-- A block that tells this goes fairly, from a state to one that is kept then: each payment of a reward is
-- that of a fair withdrawal, and what is left has accounts that are reached, and rewards that run only
-- from starts and exactly where delegations stand.
abbrev pub GoesOnFairly : State → KeptState → BlockReport → Type 0
GoesOnFairly p k report =
    (q : State) × StandsFor k q × GoesFairly p (record { report = report; state = q })

-- what was heard of a step that gave something
abbrev pub HasHeard : {F P : Type 0} → Result (Hearing P) F → P → Type 0
HasHeard (Ok w) p = p ≡ heard_in w
HasHeard (Err why) p = ⊥
