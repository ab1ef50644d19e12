use Rattle.std.proofs.Common.{refl}
use Rattle.store_rows.proofs.MissedLemmas.{all_written, one_written}
use Rattle.store_rows.proofs.missed.push_missed_from.Goals as goal

pub loop-place-preserved : goal.loop-place-preserved
loop-place-preserved c =
    one_written c.args.out.now.items c.loop-place.out.items c.push_if_missed.new.out.items c.args.first c.args.places.now c.loop-place.place _ c.loop-place-test.true refl c.loop-place.invariant c.in_ok-push_if_missed.ensures

pub returns : goal.returns
returns c = all_written c.args.out.now.items c.loop-place.out.items c.args.first c.args.places.now c.loop-place.place c.loop-place-test.false c.loop-place.invariant
