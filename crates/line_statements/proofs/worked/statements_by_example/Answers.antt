use Rattle.std.proofs.Common.{refl}
use Rattle.line_json.proofs.{OnWritten.written_on_literals, ReadingOnLiterals.reading_on_literals}
use Rattle.line_json.proofs.SpelledOnLiterals.{spelled_on_literals}
use Rattle.line_statements.specs.Entries.{allocated_of, entry_of, kind_of, slashed_of, started_of}
use Rattle.line_statements.specs.Statements.{statement_of, statement_of_tree}
use Rattle.line_statements.proofs.worked.statements_by_example.Goals as goal

pub returns-clause-read : goal.returns-clause-read
unfolding reading_on_literals kind_of started_of allocated_of slashed_of entry_of statement_of_tree statement_of
returns-clause-read c = record { written = refl; coins = refl; no_span = refl }

pub returns-clause-refused : goal.returns-clause-refused
unfolding reading_on_literals kind_of started_of allocated_of slashed_of entry_of statement_of_tree statement_of
returns-clause-refused c = record {
  nothing = refl;
  array = refl;
  block = refl;
  no_delegator = refl;
  no_slack = refl;
  twice = refl;
  no_denom = refl;
  no_amount = refl;
  removals = refl;
  ratio = refl;
  entries = refl;
  further = refl;
}

pub returns-clause-entries : goal.returns-clause-entries
unfolding reading_on_literals kind_of started_of allocated_of slashed_of entry_of statement_of_tree statement_of
returns-clause-entries c = record {
  number = refl;
  unknown = refl;
  shares = refl;
  tokens = refl;
  total = refl;
  coins = refl;
  burned = refl;
  further = refl;
}

pub returns-clause-spelled : goal.returns-clause-spelled
unfolding spelled_on_literals kind_of started_of allocated_of slashed_of entry_of statement_of_tree statement_of
returns-clause-spelled c = record { both = refl; account = refl; operator = refl }

pub returns-clause-written : goal.returns-clause-written
unfolding written_on_literals
returns-clause-written c = record { line = refl; right = refl; wrong = refl }
