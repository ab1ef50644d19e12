use Rattle.std.proofs.Common.{drop}
use Rattle.store_rows.{specs.Reading.places_with, proofs.MissedLemmas.IsBuilt}
use Rattle.store_rows.proofs.missed.places_with.Given as goal

abbrev pub invariant-loop-place : goal.invariant-loop-place
invariant-loop-place l = IsBuilt l.ring.items l.end (drop l.place-index l.missed) (places_with 0 l.end l.missed)
