use Rattle.std.proofs.Common.{◌≡◌, length}
use Rattle.store_rows.specs.Reading.{are_places}
use Rattle.store_rows.proofs.missed.are_places.Given as goal

abbrev pub invariant-places : goal.invariant-places
invariant-places l = are_places l.least l.end l.left ≡ are_places 0 l.end l.places

abbrev pub decreases-places : goal.decreases-places
decreases-places l = length l.left
