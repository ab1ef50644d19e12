use Rattle.std.proofs.Common.{arith}
use Rattle.mod_bank.proofs.SendLemmas.{short-at, short-after}
use Rattle.mod_bank.proofs.tables.Tables.is_short.Goals as goal

pub returns-then-balance-coin-clause-short : goal.returns-then-balance-coin-clause-short
returns-then-balance-coin-clause-short g c =
    short-at c.args.self.now.holdings c.args.who.now c.args.coins.now c.loop-place.place (c.coin_at-coin.result.now.denom, c.coin_at-coin.result.now.amount) c.balance.result
    c.loop-place.invariant.short c.coin_at-coin.ensures c.balance.ensures.amount c.if-balance-coin.true

pub loop-place-preserved : goal.loop-place-preserved
loop-place-preserved g c = record {
  short = short-after c.args.self.now.holdings c.args.who.now c.args.coins.now c.loop-place.place (c.coin_at-coin.result.now.denom, c.coin_at-coin.result.now.amount) c.balance.result
      c.loop-place.invariant.short c.coin_at-coin.ensures c.balance.ensures.amount c.if-balance-coin.false;
  cost = omega arith;
}
