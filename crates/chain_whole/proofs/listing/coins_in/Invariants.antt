use Rattle.std.proofs.Common.{◌≡◌, take, filter_map}
use Rattle.chain_whole.specs.Chained.{coin_in}
use Rattle.chain_whole.proofs.listing.coins_in.Given as goal

abbrev pub invariant-loop-item : goal.invariant-loop-item
invariant-loop-item l = l.coins.items ≡ filter_map coin_in (take l.item-index l.items)
