use Rattle.chain_whole.proofs.ListingLemmas.{coins_more}
use Rattle.chain_whole.proofs.listing.coins_in.Goals as goal

pub loop-item-preserved : goal.loop-item-preserved
loop-item-preserved c = coins_more c.args.items.now c.loop-item.item-index c.item-item.result c.loop-item.coins.items c.append_coin.new.coins.items c.loop-item-test.true c.item-item.is c.loop-item.invariant c.in_ok-append_coin.ensures
