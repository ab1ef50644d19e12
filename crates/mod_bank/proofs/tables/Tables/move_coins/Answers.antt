use Rattle.std.proofs.Common.{◌+◌, drop, arith}
use Rattle.mod_bank.proofs.SendLemmas.{drop-at, moving-start, moving-enough, moving-next}
use Rattle.mod_bank.proofs.tables.Tables.move_coins.Goals as goal

pub loop-place-init : goal.loop-place-init
loop-place-init g c = record {
  moving = moving-start _ _ _ _ c.requires.backed c.len-place-end.ensures.money c.requires.enough;
  cost = omega arith;
}

pub move_coin-requires : goal.move_coin-requires
move_coin-requires g c = record {
  affords = record {
    backed = c.loop-place.invariant.moving.backed;
    enough = moving-enough c.args.from.now c.args.to.now c.args.coins.now c.args.self.now c.loop-place.self (c.coin_at.result.now.denom, c.coin_at.result.now.amount) (drop c.loop-place.place c.args.coins.now) (drop (c.loop-place.place + 1) c.args.coins.now)
        (drop-at c.args.coins.now c.loop-place.place (c.coin_at.result.now.denom, c.coin_at.result.now.amount) c.coin_at.ensures) c.loop-place.invariant.moving;
  };
}

pub loop-place-preserved : goal.loop-place-preserved
loop-place-preserved g c = record {
  moving = moving-next c.args.from.now c.args.to.now c.args.coins.now c.args.self.now c.loop-place.self c.move_coin.new.self (c.coin_at.result.now.denom, c.coin_at.result.now.amount) (drop c.loop-place.place c.args.coins.now) (drop (c.loop-place.place + 1) c.args.coins.now)
      (drop-at c.args.coins.now c.loop-place.place (c.coin_at.result.now.denom, c.coin_at.result.now.amount) c.coin_at.ensures) c.loop-place.invariant.moving c.in_ok-move_coin.ensures.changes.ok;
  cost = let one = c.in_ok-move_coin.ensures.cost in omega arith;
}
