use Rattle.std.proofs.Common.{◌≡◌, ◌-◌, map}
use Rattle.store_rows.specs.{Fields.coin_seen, Reading.{coin_at, each_at, with_front}}
use Rattle.store_rows.proofs.coins.each_coin.Given as goal

abbrev pub invariant-loop : goal.invariant-loop
invariant-loop l = with_front (map coin_seen l.coins.items) (each_at coin_at (l.count - l.counter) l.bytes.left.now) ≡ each_at coin_at l.count l.fn.bytes.left.now
