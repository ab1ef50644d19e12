use Rattle.std.proofs.lemmas.Result.{err_from_is_err_and}
use Rattle.base_roles.specs.Ground.{seen}
use Rattle.mod_distribution.proofs.WithdrawLemmas.{withdrawn_carried, withdrawn_undue}
use Rattle.mod_distribution.proofs.distr.Distr.take_reward.Goals as goal

pub pay_reward-requires-clause-paid : goal.pay_reward-requires-clause-paid
pay_reward-requires-clause-paid g c = c.in_ok-full.ensures.paid c.requires.paid

pub returns-in_err-full-clause-withdrawn : goal.returns-in_err-full-clause-withdrawn
returns-in_err-full-clause-withdrawn g c = λ d h.
    let p = err_from_is_err_and c.from_residual.result c.from_residual.ensures.1 in
    rw (p.1, p.2) (withdrawn_undue c.args.v.now c.args.delegator.now c.args.shares d (seen g.B.Bank.holdings c.args.g.now) c.reward_due.new.self.kept _ (seen g.B.Bank.holdings c.reward_due.new.g) _ c.in_err-full.field-0.0 (c.in_err-full.ensures.due d h))

pub returns-clause-withdrawn : goal.returns-clause-withdrawn
returns-clause-withdrawn g c = λ d h.
    withdrawn_carried c.args.v.now c.args.delegator.now c.args.shares d (seen g.B.Bank.holdings c.args.g.now) c.reward_due.new.self.kept c.pay_reward.new.self.kept (seen g.B.Bank.holdings c.reward_due.new.g) (seen g.B.Bank.holdings c.pay_reward.new.g)
    c.in_ok-full.full c.pay_reward.result (c.in_ok-full.ensures.due d h) c.pay_reward.ensures.paid
