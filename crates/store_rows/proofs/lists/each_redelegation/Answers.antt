use Rattle.std.proofs.lemmas.Result.{err_from_is_err_and}
use Rattle.store_rows.{specs.Reading.{redelegation_at, each_at}, proofs.LoopLemmas.{goes_on, fails_on, is_done}}
use Rattle.store_rows.proofs.lists.each_redelegation.Goals as goal

pub returns-in_err-entry : goal.returns-in_err-entry
returns-in_err-entry c =
    let p = err_from_is_err_and c.from_residual.result c.from_residual.ensures.1 in
    rw (p.1, p.2) (fails_on redelegation_at c.in_err-entry.field-0.0 c.loop.entries.items c.args.count c.loop.counter c.loop.bytes.left.now (each_at redelegation_at c.args.count c.args.bytes.now.left.now) c.loop-test.true c.in_err-entry.ensures c.loop.invariant)

pub loop-preserved : goal.loop-preserved
loop-preserved c =
    rw c.in_ok-push.ensures.items (goes_on redelegation_at c.loop.entries.items c.args.count c.loop.counter c.loop.bytes.left.now _ _ (each_at redelegation_at c.args.count c.args.bytes.now.left.now) c.loop-test.true c.in_ok-entry.ensures c.loop.invariant)

pub returns : goal.returns
returns c = is_done redelegation_at c.loop.entries.items c.args.count c.loop.counter c.loop.bytes.left.now (each_at redelegation_at c.args.count c.args.bytes.now.left.now) c.loop-test.false c.loop.invariant
