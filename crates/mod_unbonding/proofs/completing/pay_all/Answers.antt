use Rattle.std.proofs.Common.{◌∙◌, ◌+◌, ◌≤◌, drop, refl, sym, ap, subst, cond, arith}
use Rattle.base_roles.specs.Ground.{seen}
use Rattle.rule_modules.specs.Unbondings.{is_mature}
use Rattle.mod_entries.proofs.{CountLemmas.next_of, UndoneLemmas.{undone-none, undone-then}}
use Rattle.mod_unbonding.proofs.PaidLemmas.{one-enough, paid-next, can_pay-next, paid-cost, paid-end}
use Rattle.mod_unbonding.proofs.completing.pay_all.Goals as goal

pub loop-entry-init : goal.loop-entry-init
loop-entry-init g c = record {
  paid = refl;
  can_pay = record { backed = c.requires.backed; enough = c.requires.enough };
  undone = undone-none g.B.Bank.marks c.args.g.now;
  bank = refl;
  cost = λ few. omega arith;
}

pub pay_one-requires-clause-backed : goal.pay_one-requires-clause-backed
pay_one-requires-clause-backed g c = c.loop-entry.invariant.can_pay.backed

pub pay_one-requires-clause-enough : goal.pay_one-requires-clause-enough
pay_one-requires-clause-enough g c = λ due.
    let left = next_of c.args.entries.now c.loop-entry.entry-index c.entry-item.result c.loop-entry-test.true c.entry-item.is in
    one-enough c.entry-item.result (drop (c.loop-entry.entry-index + 1) c.args.entries.now) (drop c.loop-entry.entry-index c.args.entries.now) (seen g.B.Bank.holdings c.loop-entry.g) left c.loop-entry.invariant.can_pay due

pub loop-entry-preserved : goal.loop-entry-preserved
loop-entry-preserved g c =
    let h = c.loop-entry.invariant in
    let e = c.entry-item.result in
    let v = seen g.B.Bank.holdings c.loop-entry.g in
    let v2 = seen g.B.Bank.holdings c.pay_one.new.g in
    let now = c.args.g.now.ctx.time in
    let rest = drop (c.loop-entry.entry-index + 1) c.args.entries.now in
    let all = drop c.loop-entry.entry-index c.args.entries.now in
    let left = next_of c.args.entries.now c.loop-entry.entry-index e c.loop-entry-test.true c.entry-item.is in
    let paid = c.in_ok-pay_one.ensures.paid in
    let same = ap (λ k. k.time) h.undone.ctx in
    record {
      paid = paid-next c.args.delegator.now e rest all v v2 left paid ∙ h.paid;
      can_pay = can_pay-next c.args.delegator.now e rest all v v2 left paid h.can_pay c.pay_one.ensures.backed;
      undone = undone-then g.B.Bank.marks c.args.g.now c.loop-entry.g c.pay_one.new.g h.undone c.pay_one.ensures.undone;
      bank = c.pay_one.ensures.bank ∙ h.bank;
      cost = λ few.
          paid-cost now e rest all left _ _ _ (subst (λ t. c.pay_one.new.steps ≤ c.loop-entry.steps + cond (is_mature t e) 8 0) same (c.pay_one.ensures.cost (subst (λ t. t ≤ 8) (sym h.bank) few))) (h.cost few);
    }

pub returns-clause-paid : goal.returns-clause-paid
returns-clause-paid g c = paid-end c.args.delegator.now c.args.entries.now c.loop-entry.entry-index (seen g.B.Bank.holdings c.loop-entry.g) c.loop-entry-test.false ∙ c.loop-entry.invariant.paid
