-- The statements of a pair's payments, and what a call leaves that makes them.
use Rattle.std.specs.Prelude.{◌≡◌, ℕ, List, [], ◌∷◌, ◌++◌, Option, Some, None, Result, Ok, Err}
use Rattle.base_coins.specs.Steps.{◌>>=◌}
use Rattle.base_messages.specs.declared.report.TxReport.{TxReport}
use Rattle.base_roles.specs.declared.entities.Validator.{Validator}
use Rattle.base_roles.specs.declared.facts.Fact.{Fact}
use Rattle.mod_statement.specs.declared.fault.StatementFault.{StatementFault}
use Rattle.mod_statement.specs.declared.statement.Statement.{Statement}
use Rattle.mod_statement.specs.Answers.{stated}
use Rattle.mod_statement.specs.Bounds.{bounds_of}
use Rattle.mod_recorder.specs.declared.note.Note.{Note}
use Rattle.mod_tracking.specs.declared.tracker.Pair.{Pair}
use Rattle.mod_tracking.specs.Tracking.{Followed, Payment, Tracked, Walk, block_followed, facts_walked, followed, last_walked, walk_of}

-- The statement of a payment at a height, with the bounds of its entries; or why these have none: an operation of theirs is
-- over, or they are no span.
abbrev pub statement_of : Pair → ℕ → Payment → Result Statement StatementFault
statement_of p height pay = do
  bounds ← bounds_of pay.rests_on.entries pay.rests_on.removals pay.rests_on.ratio
  Ok (stated p.delegator p.operator height pay.reward pay.rests_on.removals pay.rests_on.ratio pay.rests_on.entries bounds)

-- those of payments in their order; or why the first has none that has none
abbrev pub statements_of : Pair → ℕ → List Payment → Result (List Statement) StatementFault
statements_of p height [] = Ok []
statements_of p height (pay ∷ pays) = do
  first ← statement_of p height pay
  rest ← statements_of p height pays
  Ok (first ∷ rest)

-- what stands behind a block, and the statements of its payments
pub record Taken : Type 0 where
  pub tracked : Tracked
  pub made : List Statement

abbrev pub taken : Tracked → List Statement → Taken
taken t made = record { tracked = t; made = made }

abbrev pub stated_all : Pair → ℕ → Followed → Result Taken StatementFault
stated_all p height w = do
  made ← statements_of p height w.payments
  Ok (taken w.tracked made)

-- A block's facts and notes, of a pair or of none, of which nothing is ever stated.
abbrev pub block_taken : Option Pair → Option Validator → ℕ → List Fact → List Note → Tracked → Result Taken StatementFault
block_taken None v height facts notes t = Ok (taken t [])
block_taken (Some p) v height facts notes t = stated_all p height (block_followed p v facts notes t)

-- ---- what calls leave

-- the facts of transactions, one after the other
abbrev pub told_in : List TxReport → List Fact
told_in [] = []
told_in (t ∷ ts) = t.facts ++ told_in ts

-- What is due stands, and the statements of its payments, at a height, are added to those before.
pub record Follows (p : Pair) (height : ℕ) (due : Followed) (t : Tracked) (made made' : List Statement) : Type 0 where
  pub more : List Statement
  pub tracked_is : t ≡ due.tracked
  pub stated : statements_of p height due.payments ≡ Ok more
  pub made_is : made' ≡ made ++ more

-- This is due of a block, of which these facts are still to come, the first of them at a place, and these notes: some payments were
-- stated, and what stands leads there.
pub record StillDue (p : Pair) (v : Option Validator) (height : ℕ) (due : Followed) (old : List Statement) (facts : List Fact) (n : ℕ) (notes : List Note) (t : Tracked) (made : List Statement) : Type 0 where
  pub payments : List Payment
  pub more : List Statement
  pub due_is : due ≡ last_walked p (facts_walked p v n facts (walk_of (followed t payments) notes))
  pub stated : statements_of p height payments ≡ Ok more
  pub made_is : made ≡ old ++ more
