use Rattle.std.proofs.lemmas.Result.{err_from_is_err_and}
use Rattle.mod_statement.proofs.Bounding.{spanned_bounds, spanned_fault, no_span, span_money}
use Rattle.mod_statement.proofs.bounds.bounds_of.Goals as goal

pub returns-in_err-bounds-in-Some-clause-fault : goal.returns-in_err-bounds-in-Some-clause-fault
returns-in_err-bounds-in-Some-clause-fault c =
    let p = err_from_is_err_and c.from_residual.result c.from_residual.ensures.1 in
    rw (p.1, p.2) (spanned_fault c.args.entries.now c.in-Some.span.1.now c.in-Some.span.0 c.args.removals c.args.ratio.now c.in_err-bounds-in-Some.field-0.0 c.in-Some.ensures.span
    c.in_err-bounds-in-Some.ensures.fault)

pub returns-in_ok-bounds-in-Some-clause-bounds : goal.returns-in_ok-bounds-in-Some-clause-bounds
returns-in_ok-bounds-in-Some-clause-bounds c =
    spanned_bounds c.args.entries.now c.in-Some.span.1.now c.in-Some.span.0 c.args.removals c.args.ratio.now c.in_ok-bounds-in-Some.bounds c.in-Some.ensures.span c.in_ok-bounds-in-Some.ensures.bounds

pub returns-in_ok-bounds-in-Some-clause-money : goal.returns-in_ok-bounds-in-Some-clause-money
returns-in_ok-bounds-in-Some-clause-money c = span_money c.args.entries.now c.in-Some.span.1.now c.in-Some.span.0 c.in-Some.ensures.span c.in_ok-bounds-in-Some.ensures.money

pub returns-in-None-clause-fault : goal.returns-in-None-clause-fault
returns-in-None-clause-fault c = no_span c.args.entries.now c.args.removals c.args.ratio.now c.in-None.ensures.span
