use Rattle.run_app.proofs.CheckLemmas.{checked_so, unbounded_so, unread_so}
use Rattle.run_app.proofs.checking.answer_line.Goals as goal

pub returns-in-Err-clause-stop : goal.returns-in-Err-clause-stop
returns-in-Err-clause-stop c = rw (c.status_of.ensures, c.not_read.ensures) (unread_so c.args.form _ _ c.in-Err.fault c.requires.short c.in-Err.ensures)

pub returns-in-Err-check-clause-stop : goal.returns-in-Err-check-clause-stop
returns-in-Err-check-clause-stop c = rw c.not_bounded.ensures (unbounded_so c.args.form _ _ c.in-Ok.statement c.in-Err-check.fault c.requires.short c.in-Ok.ensures c.in-Err-check.ensures.fault)

pub returns-in-Ok-push_line_of_answer-clause-text : goal.returns-in-Ok-push_line_of_answer-clause-text
returns-in-Ok-push_line_of_answer-clause-text c =
    checked_so c.args.form _ _ _ _ c.in-Ok.statement c.in-Ok-check.right c.requires.short c.in-Ok.ensures c.in-Ok-check.ensures.answer c.clear.ensures.items c.in-Ok-push_line_of_answer.ensures.text
