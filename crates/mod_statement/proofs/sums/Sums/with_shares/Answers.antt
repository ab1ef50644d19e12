use Rattle.std.proofs.Common.{arith}
use Rattle.std.proofs.lemmas.Result.{err_from_is_err_and}
use Rattle.mod_statement.proofs.Walks.{coins_more, coins_fault, coins_end}
use Rattle.mod_statement.proofs.sums.Sums.with_shares.Goals as goal

pub loop-coin-preserved : goal.loop-coin-preserved
loop-coin-preserved c =
    coins_more c.args.tokens _ c.loop-coin.sums c.in_ok-sums.sums c.args.coins.now c.loop-coin.coin-index c.coin-item.result (omega arith) c.coin-item.is
    c.in_ok-sums.ensures.sums c.loop-coin.invariant

pub returns-in_err-sums-clause-fault : goal.returns-in_err-sums-clause-fault
returns-in_err-sums-clause-fault c =
    let p = err_from_is_err_and c.from_residual.result c.from_residual.ensures.1 in
    rw (p.1, p.2) (coins_fault c.args.tokens _ c.loop-coin.sums c.args.coins.now c.loop-coin.coin-index c.coin-item.result c.in_err-sums.field-0.0 (omega arith) c.coin-item.is
    c.in_err-sums.ensures.fault c.loop-coin.invariant)

pub returns-clause-sums : goal.returns-clause-sums
returns-clause-sums c = coins_end c.args.tokens _ c.loop-coin.sums c.args.coins.now c.loop-coin.coin-index (omega arith) c.loop-coin.invariant
