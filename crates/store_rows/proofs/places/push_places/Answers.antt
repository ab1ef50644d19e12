use Rattle.store_rows.proofs.PlaceLemmas.{place_on}
use Rattle.store_rows.proofs.places.push_places.Goals as goal

pub places-preserved : goal.places-preserved
places-preserved c = rw c.in_ok-push.ensures.items (place_on c.places.places.items c.args.count c.places.counter c.places.left _ c.places-test.true c.places.invariant)
