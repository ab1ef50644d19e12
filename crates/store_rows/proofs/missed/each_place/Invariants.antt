use Rattle.std.proofs.Common.{◌≡◌, ◌-◌, w32}
use Rattle.store_rows.specs.Reading.{each_at, number_at, with_front}
use Rattle.store_rows.proofs.missed.each_place.Given as goal

abbrev pub invariant-loop : goal.invariant-loop
invariant-loop l = with_front l.places.items (each_at (number_at w32) (l.count - l.counter) l.bytes.left.now) ≡ each_at (number_at w32) l.count l.fn.bytes.left.now
