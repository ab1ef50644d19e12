use Rattle.std.proofs.Common.{◌<◌, arith}
use Rattle.chain_whole.proofs.DelegatedLemmas.{high_together, low_together, low_alone}
use Rattle.chain_whole.proofs.supplies.join_delegated.Goals as goal

pub returns-then-amount-eq0 : goal.returns-then-amount-eq0
returns-then-amount-eq0 c = low_alone c.args.genesis.now c.args.supplies.entries c.args.amount c.requires.accounts c.requires.low c.requires.amount c.if-amount-eq0.true

pub returns-then-not-branch : goal.returns-then-not-branch
returns-then-not-branch c =
    let some : 0 < c.args.amount = omega arith in
    high_together c.args.genesis.now c.args.supplies.entries c.args.amount c.requires.accounts c.requires.amount some (c.in_ok-join_coin.ensures.over c.if-not-branch.true)

pub returns : goal.returns
returns c =
    let some : 0 < c.args.amount = omega arith in
    low_together c.args.genesis.now c.args.supplies.entries c.join_coin.new.supplies.entries c.args.amount c.requires.accounts c.requires.low c.requires.amount some
    (c.in_ok-join_coin.ensures.joined c.if-not-branch.false) (c.in_ok-join_coin.ensures.fits c.if-not-branch.false)
