use Rattle.std.proofs.Common.{◌∙◌, map, ap, sym, arith}
use Rattle.std.proofs.lemmas.Result.{err_from_is_err_and, IfOk-weaker, IfErr-weaker}
use Rattle.mod_statement.proofs.Slacks.{slack_begin, slack_more, slack_over, slack_end, slack_coins_over, slack_coins_made, never_twice}
use Rattle.mod_statement.proofs.Walks.{seen}
use Rattle.mod_statement.proofs.slack.slack_of.Goals as goal

pub loop-denom-init : goal.loop-denom-init
loop-denom-init c = slack_begin (map seen c.new-slacks.result.items) _ (ap (map seen) c.new-slacks.ensures.items)

pub loop-denom-preserved : goal.loop-denom-preserved
loop-denom-preserved c =
    slack_more c.args.first c.args.rest.now c.args.removals c.args.ratio.now (map seen c.loop-denom.slacks.items) (map seen c.put_slack.new.slacks.items)
    c.deref-denom-items.result.now _ c.loop-denom.denom-index c.in_ok-amount.amount c.denom-item.result (omega arith) c.denom-item.is (sym c.in_ok-amount.ensures)
    c.in_ok-put_slack.ensures.coin c.loop-denom.invariant

pub returns-in_err-amount-clause-fault : goal.returns-in_err-amount-clause-fault
returns-in_err-amount-clause-fault c =
    let p = err_from_is_err_and c.from_residual-in_err-amount.result c.from_residual-in_err-amount.ensures.1 in
    rw (p.1, p.2) (slack_coins_over c.args.first c.args.rest.now c.args.removals c.args.ratio.now c.deref-denom-items.result.now c.in_err-amount.field-0.0 (c.deref-denom-items.ensures.value ∙ c.in_ok-denoms.ensures.denoms)
    (slack_over c.args.first c.args.rest.now c.args.removals c.args.ratio.now (map seen c.loop-denom.slacks.items) c.deref-denom-items.result.now _ c.loop-denom.denom-index
    c.denom-item.result c.in_err-amount.field-0.0 (omega arith) c.denom-item.is (sym c.in_err-amount.ensures) c.loop-denom.invariant))

pub returns-clause-slack : goal.returns-clause-slack
returns-clause-slack c =
    IfOk-weaker c.of.result _ _
    (λ slack is. slack_coins_made c.args.first c.args.rest.now c.args.removals c.args.ratio.now (map seen c.loop-denom.slacks.items) slack c.deref-denom-items.result.now
    (c.deref-denom-items.ensures.value ∙ c.in_ok-denoms.ensures.denoms)
    (slack_end c.args.first c.args.rest.now c.args.removals c.args.ratio.now (map seen c.loop-denom.slacks.items) c.deref-denom-items.result.now _ c.loop-denom.denom-index (omega arith)
    c.loop-denom.invariant) is)
    c.of.ensures.coins

pub returns-clause-fault : goal.returns-clause-fault
returns-clause-fault c =
    IfErr-weaker c.of.result _ _
    (λ fault twice. absurd (never_twice c.args.first c.args.rest.now c.args.removals c.args.ratio.now (map seen c.loop-denom.slacks.items) c.deref-denom-items.result.now
    (c.deref-denom-items.ensures.value ∙ c.in_ok-denoms.ensures.denoms)
    (slack_end c.args.first c.args.rest.now c.args.removals c.args.ratio.now (map seen c.loop-denom.slacks.items) c.deref-denom-items.result.now _ c.loop-denom.denom-index (omega arith)
    c.loop-denom.invariant) twice.1))
    c.of.ensures.twice
