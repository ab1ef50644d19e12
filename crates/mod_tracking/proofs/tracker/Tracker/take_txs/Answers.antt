use Rattle.std.proofs.Common.{◌+◌, ◌∙◌, ◌++◌, List, append_assoc, drop, ap, subst}
use Rattle.std.proofs.lemmas.{List.drop_all, Result.err_from_is_err_and}
use Rattle.base_messages.specs.declared.report.TxReport.{TxReport}
use Rattle.base_roles.specs.declared.facts.Fact.{Fact}
use Rattle.mod_tracking.{specs.Stating.{StillDue, told_in}, proofs.Lists.next_is}
use Rattle.mod_tracking.proofs.tracker.Tracker.take_txs.Goals as goal

pub loop-tx-preserved : goal.loop-tx-preserved
loop-tx-preserved c = λ due old later s.
    let l = c.loop-tx in
    let tx : TxReport = c.tx-item.result in
    let rest : List TxReport = drop (l.tx-index + 1) c.args.txs.now in
    c.in_ok-next.ensures.due due old (told_in rest ++ later)
    (subst (λ (gs : List Fact). StillDue c.args.pair.now c.args.passage.now.validator c.args.passage.now.height due old gs l.next.fact (drop l.next.note c.args.recorder.now.noted.notes) l.self l.made.items)
    (ap (λ (ts : List TxReport). told_in ts ++ later) (next_is c.args.txs.now l.tx-index tx c.loop-tx-test.true c.tx-item.is) ∙ append_assoc tx.facts (told_in rest) later) (l.invariant due old later s))

pub returns-in_err-next-clause-fault : goal.returns-in_err-next-clause-fault
returns-in_err-next-clause-fault c = λ due old later s.
    let l = c.loop-tx in
    let tx : TxReport = c.tx-item.result in
    let rest : List TxReport = drop (l.tx-index + 1) c.args.txs.now in
    let r = err_from_is_err_and c.from_residual.result c.from_residual.ensures.1 in
    rw (r.1, r.2) (c.in_err-next.ensures.fault due old (told_in rest ++ later)
    (subst (λ (gs : List Fact). StillDue c.args.pair.now c.args.passage.now.validator c.args.passage.now.height due old gs l.next.fact (drop l.next.note c.args.recorder.now.noted.notes) l.self l.made.items)
    (ap (λ (ts : List TxReport). told_in ts ++ later) (next_is c.args.txs.now l.tx-index tx c.loop-tx-test.true c.tx-item.is) ∙ append_assoc tx.facts (told_in rest) later) (l.invariant due old later s)))

pub returns-clause-due : goal.returns-clause-due
returns-clause-due c = λ due old later s.
    let l = c.loop-tx in
    subst (λ (ts : List TxReport). StillDue c.args.pair.now c.args.passage.now.validator c.args.passage.now.height due old (told_in ts ++ later) l.next.fact (drop l.next.note c.args.recorder.now.noted.notes) l.self l.made.items)
    (drop_all l.tx-index c.args.txs.now c.loop-tx-test.false) (l.invariant due old later s)
