use Rattle.std.proofs.Common.{◌≡◌, ◌-◌, ◌++◌}
use Rattle.store_rows.specs.Reading.{places_in}
use Rattle.store_rows.proofs.places.push_places.Given as goal

abbrev pub invariant-places : goal.invariant-places
invariant-places l = l.places.items ++ places_in (l.count - l.counter) l.left ≡ l.fn.places.items ++ places_in l.count l.byte
