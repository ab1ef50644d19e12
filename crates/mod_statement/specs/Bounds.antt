-- The bounds of a statement, by its entries.
use Rattle.std.specs.Prelude.{ℕ, List, Option, Some, None, Result, Ok, Err}
use Rattle.base_decimals.specs.declared.over.Over.{Over}
use Rattle.base_coins.specs.Coins.{Money}
use Rattle.base_coins.specs.Steps.{◌>>=◌}
use Rattle.mod_statement.specs.declared.entry.Entry.{Entry}
use Rattle.mod_statement.specs.declared.bounds.Bounds.{Bounds}
use Rattle.mod_statement.specs.declared.fault.StatementFault.{StatementFault}
use Rattle.mod_statement.specs.declared.fault.StatementFault.TheVariants as fault
use Rattle.mod_statement.specs.declared.stakes.Stakes.{Stakes}
use Rattle.mod_statement.specs.Entries.{span_of}
use Rattle.mod_statement.specs.Sums.{no_sums, sums_over}
use Rattle.mod_statement.specs.Slack.{slack_coins}

-- the bounds of a span, or else the first operation that is over: in the order of the entries, and
-- last those of the slack
abbrev pub bounds_over : Stakes → List Entry → ℕ → Money → Result Bounds Over
bounds_over start rest removals ratio = do
  sums ← sums_over (no_sums start) rest
  slack ← slack_coins start.upper rest removals ratio
  Ok (record { low = sums.low; high = sums.high; slack = slack })

-- a value, or the fault that it is over
abbrev pub or_over : {A : Type 0} → Result A Over → Result A StatementFault
or_over (Ok value) = Ok value
or_over (Err over) = Err (fault.Over over)

-- the bounds of entries, which must be a span
abbrev pub bounds_of_span : Option (Stakes × List Entry) → ℕ → Money → Result Bounds StatementFault
bounds_of_span None removals ratio = Err fault.NoSpan
bounds_of_span (Some span) removals ratio = or_over (bounds_over span.0 span.1 removals ratio)

abbrev pub bounds_of : List Entry → ℕ → Money → Result Bounds StatementFault
bounds_of entries removals ratio = bounds_of_span (span_of entries) removals ratio
