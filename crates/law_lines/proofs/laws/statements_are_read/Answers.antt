use Rattle.law_lines.proofs.StatementLemmas.{statement_is_read, statements_differ, texts_are_read}
use Rattle.law_lines.proofs.laws.statements_are_read.Goals as goal

pub returns-clause-read : goal.returns-clause-read
returns-clause-read c = statement_is_read

pub returns-clause-texts : goal.returns-clause-texts
returns-clause-texts c = texts_are_read

pub returns-clause-differ : goal.returns-clause-differ
returns-clause-differ c = statements_differ
