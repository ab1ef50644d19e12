use Rattle.std.proofs.Common.{◌≡◌, List, subst, All, Ok}
use Rattle.std.proofs.lemmas.Result.{err_from_is_err_and}
use Rattle.mod_statement.specs.{declared.entry.Entry.Entry, Answers.IsFaultOf, Bounds.bounds_of, Entries.HasMoney}
use Rattle.mod_statement.proofs.Bracketing.{right_is_bracketed}
use Rattle.mod_statement.proofs.statement.check.Goals as goal

pub returns-in_err-due-clause-fault : goal.returns-in_err-due-clause-fault
returns-in_err-due-clause-fault c =
    let p = err_from_is_err_and c.from_residual.result c.from_residual.ensures.1 in
    let s = c.args.statement.now in
    rw (p.1, p.2) (subst (λ (es : List Entry). IsFaultOf (bounds_of es s.removals s.ratio) c.in_err-due.field-0.0) c.as_slice-entries.ensures c.in_err-due.ensures.fault)

pub returns-clause-answer : goal.returns-clause-answer
returns-clause-answer c =
    let s = c.args.statement.now in
    record {
      due = c.in_ok-due.due;
      due_is = subst (λ (es : List Entry). bounds_of es s.removals s.ratio ≡ Ok c.in_ok-due.due) c.as_slice-entries.ensures c.in_ok-due.ensures.bounds;
      yes_is = c.is_right.ensures;
    }

pub returns-clause-bracketed : goal.returns-clause-bracketed
returns-clause-bracketed c = λ yes.
    let s = c.args.statement.now in
    right_is_bracketed s c.in_ok-due.due (subst (All HasMoney) c.as_slice-entries.ensures c.in_ok-due.ensures.money)
    (subst (λ (es : List Entry). bounds_of es s.removals s.ratio ≡ Ok c.in_ok-due.due) c.as_slice-entries.ensures c.in_ok-due.ensures.bounds) (c.is_right.ensures.0 yes)
