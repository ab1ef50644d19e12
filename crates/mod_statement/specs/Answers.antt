-- What the calls answer.
use Rattle.std.specs.Prelude.{◌≡◌, ℕ, ◌+◌, ◌≤◌, ◌↔◌, Bool, IsTrue, List, Result, Ok, Err}
use Rattle.base_coins.specs.declared.fault.CoinFault.{CoinFault}
use Rattle.base_coins.specs.declared.fault.CoinFault.TheVariants as coin
use Rattle.base_coins.specs.Coins.{Money, amount_of}
use Rattle.mod_statement.specs.declared.entry.Entry.{Entry}
use Rattle.mod_statement.specs.declared.bounds.Bounds.{Bounds}
use Rattle.mod_statement.specs.declared.fault.StatementFault.{StatementFault}
use Rattle.mod_statement.specs.declared.fault.StatementFault.TheVariants as fault
use Rattle.mod_statement.specs.declared.statement.Statement.{Statement}
use Rattle.mod_statement.specs.Bounds.{bounds_of}

-- the fault of a call on coins that can be over or want memory
abbrev pub fault_of : CoinFault → StatementFault
fault_of (coin.Over over) = fault.Over over
fault_of coin.NoMemory = fault.NoMemory
fault_of (coin.Short place) = fault.NoMemory
fault_of coin.Repeated = fault.NoMemory

-- the fault of what is due, or that memory is wanting
abbrev pub IsFaultOf : {A : Type 0} → Result A StatementFault → StatementFault → Type 0
IsFaultOf due (fault.Over over) = due ≡ Err (fault.Over over)
IsFaultOf due fault.NoSpan = due ≡ Err fault.NoSpan
IsFaultOf due fault.NoMemory = Unit {0}

-- ---- making a statement

-- the statement of a withdrawal, with the bounds of its entries
abbrev pub stated : List ℕ → List ℕ → ℕ → Money → ℕ → Money → List Entry → Bounds → Statement
stated delegator operator height reward removals ratio entries bounds = record {
  delegator = delegator;
  operator = operator;
  height = height;
  reward = reward;
  low = bounds.low;
  high = bounds.high;
  slack = bounds.slack;
  removals = removals;
  ratio = ratio;
  entries = entries;
}

-- what is stated of a withdrawal, with the bounds of its entries
abbrev pub IsStatement : List ℕ → List ℕ → ℕ → Money → ℕ → Money → List Entry → Statement → Type 0
IsStatement delegator operator height reward removals ratio entries s =
    (due : Bounds) × (bounds_of entries removals ratio ≡ Ok due)
    × (s ≡ stated delegator operator height reward removals ratio entries due)

-- ---- checking it

-- A statement is right where its bounds are those of its entries, and its reward is at most the
-- high bound and, with the slack, at least the low one.
pub record IsRight (s : Statement) (due : Bounds) : Type 0 where
  pub low_is : s.low ≡ due.low
  pub high_is : s.high ≡ due.high
  pub slack_is : s.slack ≡ due.slack
  pub at_most : (d : List ℕ) → amount_of s.reward d ≤ amount_of s.high d
  pub at_least : (d : List ℕ) → amount_of s.low d ≤ amount_of s.reward d + amount_of s.slack d

-- the answer about a statement whose entries have bounds: whether it is right
pub record IsAnswer (s : Statement) (yes : Bool) : Type 0 where
  pub due : Bounds
  pub due_is : bounds_of s.entries s.removals s.ratio ≡ Ok due
  pub yes_is : IsTrue yes ↔ IsRight s due
