use Rattle.std.proofs.Common.{◌∙◌, ◌≤◌, length, refl, arith}
use Rattle.chain_transactions.proofs.{HearingLemmas.{all_txs_heard, one_tx_heard}, MessageLemmas.drop_end}
use Rattle.chain_transactions.proofs.TransactionLemmas.{none_applied, applied_next, all_reported, all_applied}
use Rattle.chain_transactions.proofs.transaction.apply_transactions.Goals as goal

pub loop-tx-init : goal.loop-tx-init
loop-tx-init g c = (none_applied c.args.txs.now c.args.modules.now c.new-reports.result.items c.requires.steady c.requires.none c.new-reports.ensures.items, refl, λ w s. (w, s, refl))

pub loop-tx-preserved : goal.loop-tx-preserved
loop-tx-preserved g c =
    let so =
    applied_next c.args.txs.now c.loop-tx.tx-index c.tx-item.result c.args.modules.now c.loop-tx.modules c.apply_transaction.new.modules c.loop-tx.reports.items _ _ c.loop-tx-test.true c.tx-item.is c.loop-tx.invariant.0
    c.in_ok-report.ensures.report c.in_ok-report.ensures.state c.in_ok-push.ensures.items c.in_ok-report.ensures.steady c.in_ok-report.ensures.none c.in_ok-report.ensures.moment c.apply_transaction.ensures.behind in (
      so,
      c.apply_transaction.ensures.listener ∙ c.loop-tx.invariant.1,
      one_tx_heard g.E.Extra.heard g.E.Extra.hears g.E.Extra.parted g.E.Extra.ended c.args.txs.now c.loop-tx.tx-index c.tx-item.result c.args.modules.now c.loop-tx.modules c.apply_transaction.new.modules c.loop-tx-test.true c.tx-item.is c.loop-tx.invariant.2 c.in_ok-report.ensures.heard,
    )

pub returns-clause-reports : goal.returns-clause-reports
returns-clause-reports g c =
    let place = c.loop-tx.tx-index in
    let most : place ≤ length c.args.txs.now = omega (arith, c.loop-tx.auto.tx-index-end) in
    let least : length c.args.txs.now ≤ place = omega (arith, c.loop-tx-test.false) in
    all_reported c.args.txs.now place c.args.modules.now c.loop-tx.modules c.loop-tx.reports.items (drop_end c.args.txs.now place most least) c.loop-tx.invariant.0

pub returns-clause-state : goal.returns-clause-state
returns-clause-state g c =
    let place = c.loop-tx.tx-index in
    let most : place ≤ length c.args.txs.now = omega (arith, c.loop-tx.auto.tx-index-end) in
    let least : length c.args.txs.now ≤ place = omega (arith, c.loop-tx-test.false) in
    all_applied c.args.txs.now place c.args.modules.now c.loop-tx.modules c.loop-tx.reports.items (drop_end c.args.txs.now place most least) c.loop-tx.invariant.0

pub returns-clause-heard : goal.returns-clause-heard
returns-clause-heard g c =
    let place = c.loop-tx.tx-index in
    let most : place ≤ length c.args.txs.now = omega (arith, c.loop-tx.auto.tx-index-end) in
    let least : length c.args.txs.now ≤ place = omega (arith, c.loop-tx-test.false) in
    all_txs_heard g.E.Extra.heard g.E.Extra.hears g.E.Extra.parted g.E.Extra.ended c.args.txs.now place c.args.modules.now c.loop-tx.modules (drop_end c.args.txs.now place most least) c.loop-tx.invariant.2
