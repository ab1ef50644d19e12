use Rattle.chain_whole.proofs.StartLemmas.{pairs_more, money_more}
use Rattle.chain_whole.proofs.accounts.holders.Goals as goal

pub loop-account-preserved : goal.loop-account-preserved
loop-account-preserved c = (
  pairs_more c.args.accounts.now c.loop-account.account-index c.account-item.result c.loop-account.pairs.items c.push.new.self.items c.in_ok-copied.field-0 c.loop-account-test.true c.account-item.is
      c.loop-account.invariant.0 c.in_ok-push.ensures.items c.in_ok-copied.ensures.same,
  money_more c.args.accounts.now c.loop-account.account-index c.account-item.result c.loop-account-test.true c.account-item.is c.loop-account.invariant.1 c.len.ensures.money,
)
