use Rattle.std.proofs.Common.{◌+◌, refl, arith}
use Rattle.store_rows.proofs.MissedLemmas.{all_counted, count_few, counted}
use Rattle.store_rows.proofs.missed.missed_count.Goals as goal

pub overflow_add-count : goal.overflow_add-count
overflow_add-count c =
    let more = counted c.args.places.now c.loop-missed.missed-index c.loop-missed.count c.count_of-count.result _ c.loop-missed-test.true refl c.loop-missed.invariant c.count_of-count.ensures in
    omega (arith, c.requires, count_few c.args.places.now (c.loop-missed.missed-index + 1) (c.loop-missed.count + c.count_of-count.result) more)

pub loop-missed-preserved : goal.loop-missed-preserved
loop-missed-preserved c = counted c.args.places.now c.loop-missed.missed-index c.loop-missed.count c.count_of-count.result _ c.loop-missed-test.true refl c.loop-missed.invariant c.count_of-count.ensures

pub returns : goal.returns
returns c = all_counted c.args.places.now c.loop-missed.missed-index c.loop-missed.count c.loop-missed-test.false c.loop-missed.invariant
