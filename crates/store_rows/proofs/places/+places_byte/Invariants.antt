use Rattle.std.proofs.Common.{length}
use Rattle.store_rows.proofs.places.+places_byte.Given as goal

abbrev pub decreases-places_byte : goal.decreases-places_byte
decreases-places_byte l = length l.places.now
