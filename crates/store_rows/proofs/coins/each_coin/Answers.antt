use Rattle.std.proofs.Common.{◌≡◌, ◌++◌, ◌∷◌, [], map}
use Rattle.std.proofs.lemmas.{Result.err_from_is_err_and, List.map_push}
use Rattle.store_rows.specs.{Fields.coin_seen, Reading.{coin_at, each_at}}
use Rattle.store_rows.proofs.LoopLemmas.{goes_on, fails_on, is_done}
use Rattle.store_rows.proofs.coins.each_coin.Goals as goal

pub returns-in_err-coin : goal.returns-in_err-coin
returns-in_err-coin c =
    let p = err_from_is_err_and c.from_residual.result c.from_residual.ensures.1 in
    rw (p.1, p.2) (fails_on coin_at c.in_err-coin.field-0.0 (map coin_seen c.loop.coins.items) c.args.count c.loop.counter c.loop.bytes.left.now (each_at coin_at c.args.count c.args.bytes.now.left.now) c.loop-test.true c.in_err-coin.ensures c.loop.invariant)

pub loop-preserved : goal.loop-preserved
loop-preserved c =
    let e : map coin_seen c.push.new.self.items ≡ map coin_seen c.loop.coins.items ++ coin_seen c.in_ok-coin.coin ∷ [] = rw c.in_ok-push.ensures.items (map_push _ c.loop.coins.items c.in_ok-coin.coin) in
    rw e (goes_on coin_at (map coin_seen c.loop.coins.items) c.args.count c.loop.counter c.loop.bytes.left.now _ _ (each_at coin_at c.args.count c.args.bytes.now.left.now) c.loop-test.true c.in_ok-coin.ensures c.loop.invariant)

pub returns : goal.returns
returns c = is_done coin_at (map coin_seen c.loop.coins.items) c.args.count c.loop.counter c.loop.bytes.left.now (each_at coin_at c.args.count c.args.bytes.now.left.now) c.loop-test.false c.loop.invariant
