use Rattle.std.proofs.Common.{◌∙◌, sym, ap, arith, option_map}
use Rattle.chain_whole.proofs.SupplyLemmas.{some_at, joined_next, joined_over}
use Rattle.chain_whole.proofs.supplies.join_coins.Goals as goal

pub unwrap-coin-requires : goal.unwrap-coin-requires
unwrap-coin-requires c = some_at _ c.at.result c.args.coins.now c.loop-place.place (omega (arith, c.len-place-end.ensures.len)) c.at.ensures

pub returns-then-not-branch-clause-over : goal.returns-then-not-branch-clause-over
returns-then-not-branch-clause-over c = λ e. joined_over c.args.coins.now c.loop-place.place (c.unwrap-coin.result.now.denom, c.unwrap-coin.result.now.amount) c.args.supplies.now.entries c.loop-place.supplies.entries c.loop-place.invariant
    (ap (option_map _) (sym c.unwrap-coin.ensures) ∙ c.at.ensures) (c.in_ok-join_coin.ensures.over c.if-not-branch.true)

pub loop-place-preserved : goal.loop-place-preserved
loop-place-preserved c = joined_next c.args.coins.now c.loop-place.place (c.unwrap-coin.result.now.denom, c.unwrap-coin.result.now.amount) c.args.supplies.now.entries c.loop-place.supplies.entries c.join_coin.new.supplies.entries c.loop-place.invariant
    (ap (option_map _) (sym c.unwrap-coin.ensures) ∙ c.at.ensures) (c.in_ok-join_coin.ensures.joined c.if-not-branch.false) (c.in_ok-join_coin.ensures.fits c.if-not-branch.false)
