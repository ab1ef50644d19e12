use Rattle.std.proofs.lemmas.Result.{err_from_is_err_and}
use Rattle.mod_statement.proofs.Bounding.{bounds_made, sums_stop_bounds, slack_stops_bounds}
use Rattle.mod_statement.proofs.bounds.bounds_over.Goals as goal

pub returns-in_err-sums-clause-fault : goal.returns-in_err-sums-clause-fault
returns-in_err-sums-clause-fault c =
    let p = err_from_is_err_and c.from_residual.result c.from_residual.ensures.1 in
    rw (p.1, p.2) (sums_stop_bounds c.args.start c.args.rest.now c.args.removals c.args.ratio.now c.in_err-sums.field-0.0 c.in_err-sums.ensures.fault)

pub returns-in_err-slack-clause-fault : goal.returns-in_err-slack-clause-fault
returns-in_err-slack-clause-fault c =
    let p = err_from_is_err_and c.from_residual-in_err-slack.result c.from_residual-in_err-slack.ensures.1 in
    rw (p.1, p.2) (slack_stops_bounds c.args.start c.args.rest.now c.args.removals c.args.ratio.now c.in_ok-sums.sums c.in_err-slack.field-0.0 c.in_ok-sums.ensures.sums
    c.in_err-slack.ensures.fault)

pub returns-clause-bounds : goal.returns-clause-bounds
returns-clause-bounds c =
    bounds_made c.args.start c.args.rest.now c.args.removals c.args.ratio.now c.in_ok-sums.sums c.in_ok-slack.slack c.in_ok-sums.ensures.sums c.in_ok-slack.ensures.slack
