use Rattle.std.{specs.Int.w32, proofs.lemmas.Result.err_from_is_err_and}
use Rattle.store_rows.{specs.Reading.{each_at, number_at}, proofs.LoopLemmas.{goes_on, fails_on, is_done}}
use Rattle.store_rows.proofs.missed.each_place.Goals as goal

pub returns-in_err-place : goal.returns-in_err-place
returns-in_err-place c =
    let p = err_from_is_err_and c.from_residual.result c.from_residual.ensures.1 in
    rw (p.1, p.2) (fails_on (number_at w32) c.in_err-place.field-0.0 c.loop.places.items c.args.count c.loop.counter c.loop.bytes.left.now (each_at (number_at w32) c.args.count c.args.bytes.now.left.now) c.loop-test.true c.in_err-place.ensures c.loop.invariant)

pub loop-preserved : goal.loop-preserved
loop-preserved c =
    rw c.in_ok-push.ensures.items (goes_on (number_at w32) c.loop.places.items c.args.count c.loop.counter c.loop.bytes.left.now _ _ (each_at (number_at w32) c.args.count c.args.bytes.now.left.now) c.loop-test.true c.in_ok-place.ensures c.loop.invariant)

pub returns : goal.returns
returns c = is_done (number_at w32) c.loop.places.items c.args.count c.loop.counter c.loop.bytes.left.now (each_at (number_at w32) c.args.count c.args.bytes.now.left.now) c.loop-test.false c.loop.invariant
