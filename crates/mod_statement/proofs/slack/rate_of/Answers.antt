use Rattle.std.proofs.Common.{◌∙◌, ap, sym, arith}
use Rattle.std.proofs.lemmas.Result.{err_from_is_err_and}
use Rattle.base_decimals.specs.Decimals.{add_of}
use Rattle.mod_statement.{specs.Slack.rate_of, proofs.Walks.{rate_more, rate_over, rate_end}}
use Rattle.mod_statement.proofs.slack.rate_of.Goals as goal

pub loop-entry-init : goal.loop-entry-init
loop-entry-init c = ap (λ r. rate_of c.args.denom.now r c.args.stretch.now) (sym c.decimal-rate.ensures)

pub loop-entry-preserved : goal.loop-entry-preserved
loop-entry-preserved c =
    rate_more c.args.denom.now _ c.loop-entry.rate c.in_ok-rate.rate c.args.stretch.now c.loop-entry.entry-index c.entry-item.result (omega arith) c.entry-item.is
    (ap (add_of c.loop-entry.rate) (sym c.given.ensures) ∙ sym c.in_ok-rate.ensures) c.loop-entry.invariant

pub returns-in_err-rate : goal.returns-in_err-rate
returns-in_err-rate c =
    let p = err_from_is_err_and c.from_residual.result c.from_residual.ensures.1 in
    rw (p.1, p.2) (sym (rate_over c.args.denom.now _ c.loop-entry.rate c.args.stretch.now c.loop-entry.entry-index c.entry-item.result c.in_err-rate.field-0.0 (omega arith) c.entry-item.is
    (ap (add_of c.loop-entry.rate) (sym c.given.ensures) ∙ sym c.in_err-rate.ensures) c.loop-entry.invariant))

pub returns : goal.returns
returns c = sym (rate_end c.args.denom.now _ c.loop-entry.rate c.args.stretch.now c.loop-entry.entry-index (omega arith) c.loop-entry.invariant)
