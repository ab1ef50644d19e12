use Rattle.std.proofs.Common.{◌≡◌, length, map}
use Rattle.store_rows.specs.{Fields.coin_seen, Reading.is_in_order}
use Rattle.store_rows.proofs.coins.are_in_order.Given as goal

abbrev pub invariant-coins : goal.invariant-coins
invariant-coins l = is_in_order (map coin_seen l.left) ≡ is_in_order (map coin_seen l.coins)

abbrev pub decreases-coins : goal.decreases-coins
decreases-coins l = length l.left
