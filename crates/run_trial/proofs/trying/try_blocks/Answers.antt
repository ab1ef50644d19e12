use Rattle.std.proofs.Common.{refl}
use Rattle.run_trial.proofs.TryingLemmas.{way_begins, way_breaks, way_ends, way_goes_on, way_has_room}
use Rattle.run_trial.proofs.trying.try_blocks.Goals as goal

pub loop-before-init : goal.loop-before-init
loop-before-init c = λ s e stands. way_begins _ c.args.count c.args.seed _ _ s.state stands c.new-generator.ensures c.new-counts.ensures

pub try_next-requires-clause-room : goal.try_next-requires-clause-room
try_next-requires-clause-room c =
    let s = c.requires.started in
    let w = c.loop-before.invariant s.start s.started s.stands in
    (w.state, w.stands, way_has_room c.args.seed c.args.count s.start c.loop-before.before _ _ _ _ c.requires.most s.started c.loop-before-test.true refl w)

pub loop-before-preserved : goal.loop-before-preserved
loop-before-preserved c = λ s e stands.
    let w = c.loop-before.invariant s e stands in
    way_goes_on _ c.loop-before.before c.args.count _ _ _ _ _ _ _ c.loop-before-test.true refl c.in_default.ensures.state w
    (c.in_default.ensures.ok w.state w.stands)

pub returns-in-Err-clause-err : goal.returns-in-Err-clause-err
returns-in-Err-clause-err c = λ s e stands.
    let w = c.loop-before.invariant s e stands in
    way_breaks _ c.loop-before.before c.args.count _ _ _ c.in-Err.fault _ c.loop-before-test.true c.stopped_at.ensures w
    (c.in-Err.ensures.err w.state w.stands)

pub returns-clause-ok : goal.returns-clause-ok
returns-clause-ok c = λ s e stands. way_ends _ c.loop-before.before c.args.count _ _ _ c.loop-before-test.false (c.loop-before.invariant s e stands)
