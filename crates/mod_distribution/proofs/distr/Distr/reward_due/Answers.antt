use Rattle.std.proofs.Common.{◌∙◌, ℕ, ◌<◌, ◌≤◌, sym, ap, subst, arith, is_some}
use Rattle.std.proofs.lemmas.Result.{err_from_is_err_and}
use Rattle.base_roles.specs.{Entries.at, Ground.seen, Holdings.IsBacked, Orders.pair_cmp}
use Rattle.base_records.proofs.KindLemmas.{is_ok}
use Rattle.mod_periods.specs.{Kept.info_of, Stands.{IsKept, KeepsRewards}, Steps.running}
use Rattle.mod_distribution.proofs.{PayLemmas.can_pay_still, WithdrawLemmas.{due_carried, due_unended}}
use Rattle.mod_distribution.proofs.distr.Distr.reward_due.Goals as goal

more : (a b : ℕ) → 0 < a → a ≤ b → 0 < b
more a b h l = omega (arith, h, l)

pub end_period-requires-clause-records : goal.end_period-requires-clause-records
end_period-requires-clause-records g c = c.requires.started.records

pub end_period-requires-clause-tokens : goal.end_period-requires-clause-tokens
end_period-requires-clause-tokens g c = c.requires.shares.tokens

pub value_even-value-requires : goal.value_even-value-requires
value_even-value-requires g c = record { tokens = c.requires.shares.tokens; some = more _ _ c.requires.shares.some c.requires.shares.most; part = c.requires.shares.most }

pub reward-requires-clause-delegation : goal.reward-requires-clause-delegation
reward-requires-clause-delegation g c = record {
  kept = subst (λ t. IsKept t.kept.rewards) (sym c.self.view_is) c.in_ok-period.ensures.records.periods.kept;
  started = ap (λ t. is_some (info_of t.kept.rewards c.args.delegator.now c.args.v.now.operator)) c.self.view_is
      ∙ ap (λ es. is_some (at pair_cmp es (c.args.v.now.operator, c.args.delegator.now))) c.in_ok-period.ensures.starts ∙ c.requires.started.started;
}

pub reward-requires-clause-last : goal.reward-requires-clause-last
reward-requires-clause-last g c = c.in_ok-period.ensures.last ∙ sym (ap (λ t. running t.kept.rewards c.args.v.now.operator) c.self.view_is)

pub returns-in_err-period-clause-due : goal.returns-in_err-period-clause-due
returns-in_err-period-clause-due g c = λ d h.
    let p = err_from_is_err_and c.from_residual.result c.from_residual.ensures.1 in
    rw (p.1, p.2) (due_unended c.args.v.now c.args.delegator.now c.args.shares d (seen g.B.Bank.holdings c.args.g.now) c.end_period.new.self.kept _ (seen g.B.Bank.holdings c.end_period.new.g) _ c.in_err-period.field-0.0 (c.in_err-period.ensures.ended d h))

pub returns-clause-due : goal.returns-clause-due
returns-clause-due g c = λ d h.
    due_carried c.args.v.now c.args.delegator.now c.args.shares d (seen g.B.Bank.holdings c.args.g.now) c.end_period.new.self.kept (seen g.B.Bank.holdings c.end_period.new.g) c.in_ok-period.period c.value_even-value.result c.reward.result
    (c.in_ok-period.ensures.ended d h) c.value_even-value.ensures.value
    (λ x k. c.reward.ensures.reward x.rewards (subst (λ t. KeepsRewards t.kept.rewards x.rewards) (sym c.self.view_is) k.rewards))

pub returns-clause-started : goal.returns-clause-started
returns-clause-started g c = is_ok c.reward.result (record {
  records = c.in_ok-period.ensures.records;
  started = ap (λ es. is_some (at pair_cmp es (c.args.v.now.operator, c.args.delegator.now))) c.in_ok-period.ensures.starts ∙ c.requires.started.started;
})

pub returns-clause-paid : goal.returns-clause-paid
returns-clause-paid g c = λ can. is_ok c.reward.result (record {
  backed = subst (λ b. IsBacked (g.B.Bank.holdings b)) (sym c.in_ok-period.ensures.bank) can.backed;
  enough = can_pay_still c.args.self.now.kept.purses c.end_period.new.self.kept.purses (seen g.B.Bank.holdings c.args.g.now) (seen g.B.Bank.holdings c.end_period.new.g) c.in_ok-period.ensures.moved (ap g.B.Bank.holdings c.in_ok-period.ensures.bank) can.enough;
})

pub returns-in_err-period-clause-goes_on : goal.returns-in_err-period-clause-goes_on
returns-in_err-period-clause-goes_on g c =
    let p = err_from_is_err_and c.from_residual.result c.from_residual.ensures.1 in
    rw (p.1, p.2) (record { behind = c.in_err-period.ensures.goes_on.behind; spent = c.in_err-period.ensures.goes_on.spent; unspent = tt })

pub returns-clause-goes_on : goal.returns-clause-goes_on
returns-clause-goes_on g c = record { behind = c.in_ok-period.ensures.goes_on.behind; spent = c.in_ok-period.ensures.goes_on.spent; unspent = is_ok c.reward.result c.in_ok-period.ensures.goes_on.unspent }
