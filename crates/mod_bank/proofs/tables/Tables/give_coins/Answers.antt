use Rattle.std.proofs.Common.{◌+◌, drop}
use Rattle.mod_bank.proofs.{SendLemmas.drop-at, GiveLemmas.{giving-start, giving-bounded, giving-next}}
use Rattle.mod_bank.proofs.tables.Tables.give_coins.Goals as goal

pub loop-place-init : goal.loop-place-init
loop-place-init g c = giving-start _ _ _ c.requires.bounded c.requires.backed c.len-place-end.ensures.money

pub give_coin-requires-clause-backed : goal.give_coin-requires-clause-backed
give_coin-requires-clause-backed g c = c.loop-place.invariant.backed

pub give_coin-requires-clause-bounded : goal.give_coin-requires-clause-bounded
give_coin-requires-clause-bounded g c =
    giving-bounded c.args.who.now c.args.coins.now c.args.self.now c.requires.bounded c.loop-place.self (c.coin_at-coin.result.now.denom, c.coin_at-coin.result.now.amount) (drop c.loop-place.place c.args.coins.now) (drop (c.loop-place.place + 1) c.args.coins.now)
    (drop-at c.args.coins.now c.loop-place.place (c.coin_at-coin.result.now.denom, c.coin_at-coin.result.now.amount) c.coin_at-coin.ensures) c.loop-place.invariant

pub loop-place-preserved : goal.loop-place-preserved
loop-place-preserved g c =
    giving-next c.args.who.now c.args.coins.now c.args.self.now c.requires.bounded c.loop-place.self c.give_coin.new.self (c.coin_at-coin.result.now.denom, c.coin_at-coin.result.now.amount) (drop c.loop-place.place c.args.coins.now) (drop (c.loop-place.place + 1) c.args.coins.now)
    (drop-at c.args.coins.now c.loop-place.place (c.coin_at-coin.result.now.denom, c.coin_at-coin.result.now.amount) c.coin_at-coin.ensures) c.loop-place.invariant c.in_ok-give_coin.ensures.ok
