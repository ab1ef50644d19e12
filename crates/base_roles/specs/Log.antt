-- What happened to the validators, for the laws of rewards. Rules write it along; nothing reads it.
use Rattle.std.specs.Prelude.{ℕ, List}
use Rattle.base_coins.specs.Coins.{Money}

-- What happened to a validator. A log has, since a validator was created: the share of fees given to it, and what of it is
-- the delegators', at so many tokens; a period that ended, with its increment, at so many tokens; a delegation's start, with its shares, the tokens and shares of then, and its
-- stake; a slash of so many tokens of so many, and the fraction; that shares left; and a withdrawal of a delegation's
-- reward: the delegator, to whom it goes, the full reward, and what was outstanding then, of which it is paid; and a
-- payment of commission.
pub data LogEntry : Type 0 where
  made : LogEntry
  allocated : Money → Money → ℕ → LogEntry
  ended : ℕ → Money → ℕ → LogEntry
  started : List ℕ → ℕ → ℕ → ℕ → ℕ → LogEntry
  slashed : ℕ → ℕ → ℕ → LogEntry
  left : LogEntry
  withdrawn : List ℕ → List ℕ → Money → Money → LogEntry
  commission : Money → LogEntry

-- each entry with its validator's operator
abbrev pub Log : Type 0
Log = List (List ℕ × LogEntry)
