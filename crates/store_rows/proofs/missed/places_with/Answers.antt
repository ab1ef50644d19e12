use Rattle.std.proofs.Common.{ap, refl}
use Rattle.store_rows.proofs.{MissedLemmas.{all_built, none_built, one_built}, ReadsLemmas.done}
use Rattle.store_rows.proofs.missed.places_with.Goals as goal

pub loop-place-init : goal.loop-place-init
loop-place-init c = none_built c.new-ring.result.items c.args.end c.args.missed.now c.new-ring.ensures.items c.requires

pub loop-place-preserved : goal.loop-place-preserved
loop-place-preserved c =
    one_built c.loop-place.ring.items c.push_before.new.ring.items c.push.new.self.items c.args.end c.loop-place.place-index _ c.args.missed.now _ c.loop-place-test.true refl
    c.in_ok-push_before.ensures c.in_ok-push.ensures.items c.loop-place.invariant

pub returns : goal.returns
returns c = ap done (all_built c.loop-place.ring.items c.push_before-2.new.ring.items c.args.end c.loop-place.place-index c.args.missed.now _ c.loop-place-test.false c.in_ok-push_before-2.ensures c.loop-place.invariant)
