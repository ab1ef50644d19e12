use Rattle.std.proofs.Common.{◌≡◌, take, flat_map}
use Rattle.line_statements.specs.Statements.{text_of_statement}
use Rattle.run_app.proofs.stating.text_of.Given as goal

-- the lines of the statements so far
abbrev pub invariant-loop-statement : goal.invariant-loop-statement
invariant-loop-statement l = l.text.items ≡ flat_map (text_of_statement l.form) (take l.statement-index l.made)
