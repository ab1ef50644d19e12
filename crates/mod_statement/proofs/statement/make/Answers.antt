use Rattle.std.proofs.Common.{◌≡◌, List, subst, Ok}
use Rattle.std.proofs.lemmas.Result.{err_from_is_err_and}
use Rattle.mod_statement.specs.{declared.entry.Entry.Entry, Answers.IsFaultOf, Bounds.bounds_of}
use Rattle.mod_statement.proofs.statement.make.Goals as goal

pub returns-in_err-bounds-clause-fault : goal.returns-in_err-bounds-clause-fault
returns-in_err-bounds-clause-fault c =
    let p = err_from_is_err_and c.from_residual.result c.from_residual.ensures.1 in
    rw (p.1, p.2) (subst (λ (es : List Entry). IsFaultOf (bounds_of es c.args.removals c.args.ratio.now) c.in_err-bounds.field-0.0) c.as_slice.ensures.value c.in_err-bounds.ensures.fault)

pub returns-clause-statement : goal.returns-clause-statement
returns-clause-statement c =
    let b = c.in_ok-bounds.bounds in (
      b,
      subst (λ (es : List Entry). bounds_of es c.args.removals c.args.ratio.now ≡ Ok c.in_ok-bounds.bounds) c.as_slice.ensures.value c.in_ok-bounds.ensures.bounds,
      λ i. record {
        delegator = c.args.delegator.now;
        operator = c.args.operator.now;
        height = c.args.height;
        reward = c.in_ok-paid.ensures.same i;
        low = b.low;
        high = b.high;
        slack = b.slack;
        removals = c.args.removals;
        ratio = c.in_ok-last.ensures.same i;
        entries = c.of.ensures i;
      },
    )
