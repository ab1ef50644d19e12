use Rattle.std.proofs.Common.{◌≡◌, Err, rules}
use Rattle.line_statements.proofs.Spellings.{statement_read, statement_unread}
use Rattle.line_statements.proofs.reading.read_statement.Goals as goal

pub returns : goal.returns
returns c = statement_read c.args.form c.args.line.now c.in_ok-spelled.spelled c.in_ok-spelled.ensures

pub returns-in_err-spelled : goal.returns-in_err-spelled
returns-in_err-spelled c =
    let given : c.from_residual.result ≡ Err c.in_err-spelled.field-0.0 = search rules in
    rw given (statement_unread c.args.form c.args.line.now c.in_err-spelled.field-0.0 c.in_err-spelled.ensures)
