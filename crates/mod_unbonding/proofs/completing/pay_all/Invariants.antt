use Rattle.std.proofs.Common.{◌≡◌, ◌+◌, ◌*◌, ◌≤◌, drop}
use Rattle.base_roles.specs.Ground.{seen, CanBeUndone}
use Rattle.rule_modules.specs.{Amounts.count_where, Unbondings.{is_mature, paid_back}}
use Rattle.mod_unbonding.proofs.PaidLemmas.{CanPay}
use Rattle.mod_unbonding.proofs.completing.pay_all.Given as goal

abbrev pub invariant-loop-entry : goal.invariant-loop-entry
invariant-loop-entry g l =
    let holdings = g.B.Bank.holdings in
    let now = l.fn.g.ctx.time in
    let rest = drop l.entry-index l.entries in
    record {
      paid : paid_back l.delegator rest (seen holdings l.g) ≡ paid_back l.delegator l.entries (seen holdings l.fn.g);
      can_pay : CanPay rest (seen holdings l.g);
      undone : CanBeUndone g.B.Bank.marks l.fn.g l.g;
      bank : g.B.Bank.most_steps l.g.bank ≡ g.B.Bank.most_steps l.fn.g.bank;
      cost : g.B.Bank.most_steps l.fn.g.bank ≤ 8 → l.steps + 8 * count_where (is_mature now) rest ≤ l.fn.steps + 8 * count_where (is_mature now) l.entries;
    }
