use Rattle.chain_whole.proofs.SupplyLemmas.{held_over}
use Rattle.chain_whole.proofs.supplies.supplies_of.Goals as goal

pub returns-then-not-branch : goal.returns-then-not-branch
returns-then-not-branch c = held_over c.args.accounts.now c.loop-account.account-index c.account-item.result c.loop-account.supplies.entries c.loop-account-test.true c.account-item.is c.loop-account.invariant (c.in_ok-join_coins.ensures.over c.if-not-branch.true)
