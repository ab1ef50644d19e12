use Rattle.std.proofs.Common.{◌++◌, [], refl, drop}
use Rattle.std.proofs.lemmas.Result.{IfErr-weaker, err_from_is_err_and, on_ok_weaker}
use Rattle.base_messages.specs.declared.report.BlockReport.{BlockReport}
use Rattle.rule_machine.specs.Promises.{facts_of}
use Rattle.mod_tracking.specs.{Stating.told_in, Tracking.{Followed, block_followed}}
use Rattle.mod_tracking.proofs.Following.{block_due, due_last, wanting}
use Rattle.mod_tracking.proofs.tracker.Tracker.take_block.Goals as goal

pub returns-in_err-begun-clause-fault : goal.returns-in_err-begun-clause-fault
returns-in_err-begun-clause-fault c =
    let p = c.args.pair.now in
    let notes = drop c.args.note c.args.recorder.now.noted.notes in
    let r : BlockReport = c.args.report.now in
    let q = err_from_is_err_and c.from_residual.result c.from_residual.ensures.1 in
    rw (q.1, q.2) (c.in_err-begun.ensures.fault (block_followed p c.args.validator (facts_of r) notes c.args.self.now) c.args.made.now.items (told_in r.txs ++ (r.ended ++ []))
    (block_due p c.args.validator r r.txs refl notes c.args.self.now c.args.made.now.items))

pub returns-in_err-done-clause-fault : goal.returns-in_err-done-clause-fault
returns-in_err-done-clause-fault c =
    let p = c.args.pair.now in
    let notes = drop c.args.note c.args.recorder.now.noted.notes in
    let r : BlockReport = c.args.report.now in
    let due : Followed = block_followed p c.args.validator (facts_of r) notes c.args.self.now in
    let made = c.args.made.now.items in
    let begun = c.in_ok-begun.ensures.due due made (told_in c.as_slice-txs.result.now ++ (r.ended ++ [])) (block_due p c.args.validator r c.as_slice-txs.result.now c.as_slice-txs.ensures notes c.args.self.now made) in
    let q = err_from_is_err_and c.from_residual-in_err-done.result c.from_residual-in_err-done.ensures.1 in
    rw (q.1, q.2) (c.in_err-done.ensures.fault due made (r.ended ++ []) begun)

pub returns-in_err-last-clause-fault : goal.returns-in_err-last-clause-fault
returns-in_err-last-clause-fault c =
    let p = c.args.pair.now in
    let notes = drop c.args.note c.args.recorder.now.noted.notes in
    let r : BlockReport = c.args.report.now in
    let due : Followed = block_followed p c.args.validator (facts_of r) notes c.args.self.now in
    let made = c.args.made.now.items in
    let begun = c.in_ok-begun.ensures.due due made (told_in c.as_slice-txs.result.now ++ (r.ended ++ [])) (block_due p c.args.validator r c.as_slice-txs.result.now c.as_slice-txs.ensures notes c.args.self.now made) in
    let done = c.in_ok-done.ensures.due due made (r.ended ++ []) begun in
    let q = err_from_is_err_and c.from_residual-in_err-last.result c.from_residual-in_err-last.ensures.1 in
    rw (q.1, q.2) (c.in_err-last.ensures.fault due made [] done)

pub returns-clause-made : goal.returns-clause-made
returns-clause-made c =
    let p = c.args.pair.now in
    let notes = drop c.args.note c.args.recorder.now.noted.notes in
    let r : BlockReport = c.args.report.now in
    let due : Followed = block_followed p c.args.validator (facts_of r) notes c.args.self.now in
    let made = c.args.made.now.items in
    let begun = c.in_ok-begun.ensures.due due made (told_in c.as_slice-txs.result.now ++ (r.ended ++ [])) (block_due p c.args.validator r c.as_slice-txs.result.now c.as_slice-txs.ensures notes c.args.self.now made) in
    let done = c.in_ok-done.ensures.due due made (r.ended ++ []) begun in
    let last = c.in_ok-last.ensures.due due made [] done in
    on_ok_weaker c.take_rest.result (due_last p c.args.validator r.height due made _ _ _ _ _ last) c.take_rest.ensures.tracked

pub returns-clause-fault : goal.returns-clause-fault
returns-clause-fault c = IfErr-weaker c.take_rest.result _ _ (wanting _) c.take_rest.ensures.fault
