use Rattle.std.proofs.Common.{◌≡◌, drop}
use Rattle.store_rows.specs.Reading.{places_of, with_places}
use Rattle.store_rows.proofs.places.places_of.Given as goal

abbrev pub invariant-bytes : goal.invariant-bytes
invariant-bytes l = with_places l.places.items (places_of l.left (drop l.byte-index l.bytes)) ≡ places_of l.count l.bytes
