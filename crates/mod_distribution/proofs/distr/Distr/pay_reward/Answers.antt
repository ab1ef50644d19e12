use Rattle.std.proofs.Common.{◌∙◌, ◌++◌, [], ◌∷◌, Ok, refl, sym, ap, subst, append-nil, is_some, Err}
use Rattle.std.proofs.lemmas.Result.{err_from_is_err_and}
use Rattle.base_roles.specs.declared.facts.Fact.TheVariants as fact
use Rattle.base_roles.specs.{Ground.seen, World.View}
use Rattle.mod_allocation.{specs.{Calls.purse_at, Owed.{AreWithin, IsMoved, nothing_more}}, proofs.LoopLemmas.told_more}
use Rattle.mod_allocation.proofs.AllocateLemmas.{told_behind}
use Rattle.mod_periods.specs.{Kept.info_of, Scenes.HasPeriods, Stands.IsKept}
use Rattle.mod_distribution.specs.{Calls.reward_paid, Kept.{KeptShared, payee_in, SharedGoesOn, distributed}}
use Rattle.mod_distribution.{specs.Stands.KeepsShared, proofs.CarryLemmas.wants}
use Rattle.mod_distribution.proofs.PayLemmas.{enough_for, payment_carried, purse_still, stopped_gone, stopped_periods, within_still}
use Rattle.mod_distribution.proofs.MarkLemmas.{goes_on-step, in_step-same, undone-none}
use Rattle.mod_distribution.proofs.distr.Distr.pay_reward.Goals as goal

pub pay_out-requires-clause-known : goal.pay_out-requires-clause-known
pay_out-requires-clause-known g c = ap (λ t. is_some (purse_at t.kept.purses c.args.operator.now)) c.self.view_is ∙ c.requires.started.records.purse

pub pay_out-requires-clause-within : goal.pay_out-requires-clause-within
pay_out-requires-clause-within g c = subst (λ t. AreWithin t.kept.purses nothing_more) (sym c.self.view_is) c.requires.started.records.within

pub stop-requires : goal.stop-requires
stop-requires g c = record {
  delegation = record {
    kept = subst (λ t. IsKept t.kept.rewards) (sym c.self.view_is) c.requires.started.records.periods.kept;
    started = ap (λ t. is_some (info_of t.kept.rewards c.args.delegator.now c.args.operator.now)) c.self.view_is ∙ c.requires.started.started;
  };
}

pub pay-requires-clause-backed : goal.pay-requires-clause-backed
pay-requires-clause-backed g c = c.requires.paid.backed

pub pay-requires-clause-enough : goal.pay-requires-clause-enough
pay-requires-clause-enough g c =
    enough_for c.args.self.now.kept.purses c.pay_out.new.self.kept (seen g.B.Bank.holdings c.args.g.now) c.in_ok-reward.coins
    (subst (λ t. IsMoved t.kept.purses [] c.in_ok-reward.coins c.pay_out.new.self.kept) c.self.view_is c.in_ok-reward.ensures.moved) c.requires.paid.enough

pub returns-in_err-reward-clause-paid : goal.returns-in_err-reward-clause-paid
returns-in_err-reward-clause-paid g c = λ d h.
    let p = err_from_is_err_and c.from_residual.result c.from_residual.ensures.1 in
    rw (p.1, p.2) (wants _ _ (reward_paid c.args.operator.now c.args.delegator.now c.args.full.now d (seen g.B.Bank.holdings c.args.g.now)) c.in_err-reward.field-0.0 c.in_err-reward.ensures.fault)

pub returns-in_err-stop-clause-paid : goal.returns-in_err-stop-clause-paid
returns-in_err-stop-clause-paid g c = λ d h.
    let p = err_from_is_err_and c.from_residual-in_err-stop.result c.from_residual-in_err-stop.ensures.1 in
    rw (p.1, p.2) (wants _ _ (reward_paid c.args.operator.now c.args.delegator.now c.args.full.now d (seen g.B.Bank.holdings c.args.g.now)) c.in_err-stop.field-0.0 c.in_err-stop.ensures.fault)

pub returns-in_err-pay-clause-paid : goal.returns-in_err-pay-clause-paid
returns-in_err-pay-clause-paid g c = λ d h.
    let p = err_from_is_err_and c.from_residual-in_err-pay.result c.from_residual-in_err-pay.ensures.1 in
    rw (p.1, p.2) (wants _ _ (reward_paid c.args.operator.now c.args.delegator.now c.args.full.now d (seen g.B.Bank.holdings c.args.g.now)) c.in_err-pay.field-0.0 c.in_err-pay.ensures.fault)

pub returns-in_err-tell_pooled-clause-paid : goal.returns-in_err-tell_pooled-clause-paid
returns-in_err-tell_pooled-clause-paid g c = λ d h.
    let p = err_from_is_err_and c.from_residual-in_err-tell_pooled.result c.from_residual-in_err-tell_pooled.ensures.1 in
    rw (p.1, p.2) (wants _ _ (reward_paid c.args.operator.now c.args.delegator.now c.args.full.now d (seen g.B.Bank.holdings c.args.g.now)) c.in_err-tell_pooled.field-0.0 c.in_err-tell_pooled.ensures.fault)

pub returns-clause-paid : goal.returns-clause-paid
returns-clause-paid g c = λ d h.
    let operator = c.args.operator.now in
    let who = c.args.delegator.now in
    let old : KeptShared = record { rewards = c.self.inside.f1.kept; purses = c.self.inside.alloc.kept; withdraw = c.self.inside.withdraw.entries } in
    let new : KeptShared = record { rewards = c.stop.new.self.kept; purses = c.pay_out.new.self.kept; withdraw = c.self.inside.withdraw.entries } in
    let held = subst (λ t. KeepsShared t.kept d) (sym c.self.view_is) h in
    let v1 = seen g.B.Bank.holdings c.pay.new.g in
    let v2 : View = record { bank = v1.bank; ctx = v1.ctx; facts = c.push.new.self } in
    let to = c.payee-to.result in
    payment_carried operator who to c.args.full.now c.in_ok-reward.reward c.in_ok-reward.coins c.in_ok-told.told c.in_ok-reward.rest old new d (seen g.B.Bank.holdings c.args.g.now) v1 v2 held
    c.in_ok-reward.ensures.paid c.in_ok-reward.ensures.parts.0 c.in_ok-reward.ensures.parts.1 (c.payee-to.ensures.payee ∙ sym (ap (λ t. payee_in t.kept.withdraw who) c.self.view_is))
    (c.in_ok-stop.ensures.stopped d.rewards held.rewards) refl c.in_ok-pay.ensures.paid c.in_ok-told.ensures.same
    (λ i. record { bank = v1.bank; ctx = v1.ctx; facts = (c.in_ok-push.ensures.ok ∙ ap (λ l. l ++ fact.Paid who operator to c.in_ok-reward.reward c.in_ok-told.told ∷ []) c.in_ok-tell_pooled.ensures.told) i })

pub returns-clause-records : goal.returns-clause-records
returns-clause-records g c =
    let operator = c.args.operator.now in
    let who = c.args.delegator.now in
    let has = subst (λ t. HasPeriods t.kept.rewards operator) (sym c.self.view_is) c.requires.started.records.periods in
    record {
      periods = stopped_periods operator who c.self.inside.f1.kept c.stop.new.self.kept has.kept.0 has.kept.1 (c.in_ok-stop.ensures.stopped has.kept.0 has.kept.1) has;
      purse = purse_still operator c.args.full.now c.in_ok-reward.reward c.self.inside.alloc.kept c.pay_out.new.self.kept c.in_ok-reward.ensures.paid;
      within = within_still c.self.inside.alloc.kept c.pay_out.new.self.kept c.in_ok-reward.coins c.in_ok-reward.ensures.moved (subst (λ t. AreWithin t.kept.purses nothing_more) (sym c.self.view_is) c.requires.started.records.within);
    }

pub returns-clause-gone : goal.returns-clause-gone
returns-clause-gone g c =
    let has = subst (λ t. HasPeriods t.kept.rewards c.args.operator.now) (sym c.self.view_is) c.requires.started.records.periods in
    stopped_gone c.args.operator.now c.args.delegator.now c.self.inside.f1.kept c.stop.new.self.kept has.kept.0 has.kept.1 (c.in_ok-stop.ensures.stopped has.kept.0 has.kept.1)

pub invariant_of-self : goal.invariant_of-self
invariant_of-self g c = in_step-same c.self.inside.f1 c.self.inside.f1 c.self.inside.alloc c.pay_out.new.self c.self.inside.withdraw c.self.inside.withdraw c.self.invariant refl (ap (λ b. b.marks) c.in_err-reward.ensures.goes_on.behind) refl

pub returns-in_err-reward-clause-goes_on : goal.returns-in_err-reward-clause-goes_on
returns-in_err-reward-clause-goes_on g c =
    let p = err_from_is_err_and c.from_residual.result c.from_residual.ensures.1 in
    rw p.1 (subst (λ t. SharedGoesOn t (distributed c.self.inside.f1 c.pay_out.new.self c.self.inside.withdraw c.self.inside.spent) (Err p.0)) c.self.view_is (goes_on-step (Err p.0) c.self.inside.f1 c.self.inside.f1 c.self.inside.alloc c.pay_out.new.self c.self.inside.withdraw c.self.inside.spent refl c.in_err-reward.ensures.goes_on.behind (λ e. e) c.in_err-reward.ensures.goes_on.spent tt tt))

pub invariant_of-self-in_err-stop : goal.invariant_of-self-in_err-stop
invariant_of-self-in_err-stop g c = in_step-same c.self.inside.f1 c.stop.new.self c.self.inside.alloc c.pay_out.new.self c.self.inside.withdraw c.self.inside.withdraw c.self.invariant (ap (λ b. b.marks) c.in_err-stop.ensures.records.left.behind) (ap (λ b. b.marks) c.in_ok-reward.ensures.goes_on.behind) refl

pub returns-in_err-stop-clause-goes_on : goal.returns-in_err-stop-clause-goes_on
returns-in_err-stop-clause-goes_on g c =
    let p = err_from_is_err_and c.from_residual-in_err-stop.result c.from_residual-in_err-stop.ensures.1 in
    rw p.1 (subst (λ t. SharedGoesOn t (distributed c.stop.new.self c.pay_out.new.self c.self.inside.withdraw c.self.inside.spent) (Err p.0)) c.self.view_is (goes_on-step (Err p.0) c.self.inside.f1 c.stop.new.self c.self.inside.alloc c.pay_out.new.self c.self.inside.withdraw c.self.inside.spent c.in_err-stop.ensures.records.left.behind c.in_ok-reward.ensures.goes_on.behind c.in_err-stop.ensures.records.left.spent c.in_ok-reward.ensures.goes_on.spent tt tt))

pub invariant_of-self-in_err-pay : goal.invariant_of-self-in_err-pay
invariant_of-self-in_err-pay g c = in_step-same c.self.inside.f1 c.stop.new.self c.self.inside.alloc c.pay_out.new.self c.self.inside.withdraw c.self.inside.withdraw c.self.invariant (ap (λ b. b.marks) c.in_ok-stop.ensures.records.left.behind) (ap (λ b. b.marks) c.in_ok-reward.ensures.goes_on.behind) refl

pub returns-in_err-pay-clause-goes_on : goal.returns-in_err-pay-clause-goes_on
returns-in_err-pay-clause-goes_on g c =
    let p = err_from_is_err_and c.from_residual-in_err-pay.result c.from_residual-in_err-pay.ensures.1 in
    rw p.1 (subst (λ t. SharedGoesOn t (distributed c.stop.new.self c.pay_out.new.self c.self.inside.withdraw c.self.inside.spent) (Err p.0)) c.self.view_is (goes_on-step (Err p.0) c.self.inside.f1 c.stop.new.self c.self.inside.alloc c.pay_out.new.self c.self.inside.withdraw c.self.inside.spent c.in_ok-stop.ensures.records.left.behind c.in_ok-reward.ensures.goes_on.behind c.in_ok-stop.ensures.records.left.spent c.in_ok-reward.ensures.goes_on.spent tt tt))

pub invariant_of-self-in_err-tell_pooled : goal.invariant_of-self-in_err-tell_pooled
invariant_of-self-in_err-tell_pooled g c = in_step-same c.self.inside.f1 c.stop.new.self c.self.inside.alloc c.pay_out.new.self c.self.inside.withdraw c.self.inside.withdraw c.self.invariant (ap (λ b. b.marks) c.in_ok-stop.ensures.records.left.behind) (ap (λ b. b.marks) c.in_ok-reward.ensures.goes_on.behind) refl

pub returns-in_err-tell_pooled-clause-goes_on : goal.returns-in_err-tell_pooled-clause-goes_on
returns-in_err-tell_pooled-clause-goes_on g c =
    let p = err_from_is_err_and c.from_residual-in_err-tell_pooled.result c.from_residual-in_err-tell_pooled.ensures.1 in
    rw p.1 (subst (λ t. SharedGoesOn t (distributed c.stop.new.self c.pay_out.new.self c.self.inside.withdraw c.self.inside.spent) (Err p.0)) c.self.view_is (goes_on-step (Err p.0) c.self.inside.f1 c.stop.new.self c.self.inside.alloc c.pay_out.new.self c.self.inside.withdraw c.self.inside.spent c.in_ok-stop.ensures.records.left.behind c.in_ok-reward.ensures.goes_on.behind c.in_ok-stop.ensures.records.left.spent c.in_ok-reward.ensures.goes_on.spent tt tt))

pub invariant_of-self-in_err-told : goal.invariant_of-self-in_err-told
invariant_of-self-in_err-told g c = in_step-same c.self.inside.f1 c.stop.new.self c.self.inside.alloc c.pay_out.new.self c.self.inside.withdraw c.self.inside.withdraw c.self.invariant (ap (λ b. b.marks) c.in_ok-stop.ensures.records.left.behind) (ap (λ b. b.marks) c.in_ok-reward.ensures.goes_on.behind) refl

pub returns-in_err-told-clause-goes_on : goal.returns-in_err-told-clause-goes_on
returns-in_err-told-clause-goes_on g c =
    let p = err_from_is_err_and c.from_residual-in_err-told.result c.from_residual-in_err-told.ensures.1 in
    rw p.1 (subst (λ t. SharedGoesOn t (distributed c.stop.new.self c.pay_out.new.self c.self.inside.withdraw c.self.inside.spent) (Err p.0)) c.self.view_is (goes_on-step (Err p.0) c.self.inside.f1 c.stop.new.self c.self.inside.alloc c.pay_out.new.self c.self.inside.withdraw c.self.inside.spent c.in_ok-stop.ensures.records.left.behind c.in_ok-reward.ensures.goes_on.behind c.in_ok-stop.ensures.records.left.spent c.in_ok-reward.ensures.goes_on.spent tt tt))

pub invariant_of-self-in_err-push : goal.invariant_of-self-in_err-push
invariant_of-self-in_err-push g c = in_step-same c.self.inside.f1 c.stop.new.self c.self.inside.alloc c.pay_out.new.self c.self.inside.withdraw c.self.inside.withdraw c.self.invariant (ap (λ b. b.marks) c.in_ok-stop.ensures.records.left.behind) (ap (λ b. b.marks) c.in_ok-reward.ensures.goes_on.behind) refl

pub returns-in_err-push-clause-goes_on : goal.returns-in_err-push-clause-goes_on
returns-in_err-push-clause-goes_on g c =
    let p = err_from_is_err_and c.from_residual-in_err-push.result c.from_residual-in_err-push.ensures.1 in
    rw p.1 (subst (λ t. SharedGoesOn t (distributed c.stop.new.self c.pay_out.new.self c.self.inside.withdraw c.self.inside.spent) (Err p.0)) c.self.view_is (goes_on-step (Err p.0) c.self.inside.f1 c.stop.new.self c.self.inside.alloc c.pay_out.new.self c.self.inside.withdraw c.self.inside.spent c.in_ok-stop.ensures.records.left.behind c.in_ok-reward.ensures.goes_on.behind c.in_ok-stop.ensures.records.left.spent c.in_ok-reward.ensures.goes_on.spent tt tt))

pub invariant_of-self-2 : goal.invariant_of-self-2
invariant_of-self-2 g c = in_step-same c.self.inside.f1 c.stop.new.self c.self.inside.alloc c.pay_out.new.self c.self.inside.withdraw c.self.inside.withdraw c.self.invariant (ap (λ b. b.marks) c.in_ok-stop.ensures.records.left.behind) (ap (λ b. b.marks) c.in_ok-reward.ensures.goes_on.behind) refl

pub returns-clause-goes_on : goal.returns-clause-goes_on
returns-clause-goes_on g c =
    subst (λ t. SharedGoesOn t (distributed c.stop.new.self c.pay_out.new.self c.self.inside.withdraw c.self.inside.spent) (Ok c.in_ok-reward.coins)) c.self.view_is (goes_on-step (Ok c.in_ok-reward.coins) c.self.inside.f1 c.stop.new.self c.self.inside.alloc c.pay_out.new.self c.self.inside.withdraw c.self.inside.spent c.in_ok-stop.ensures.records.left.behind c.in_ok-reward.ensures.goes_on.behind c.in_ok-stop.ensures.records.left.spent c.in_ok-reward.ensures.goes_on.spent c.in_ok-stop.ensures.records.unspent c.in_ok-reward.ensures.goes_on.unspent)

pub returns-in_err-reward-clause-undone : goal.returns-in_err-reward-clause-undone
returns-in_err-reward-clause-undone g c = undone-none g.B.Bank.marks c.args.g.now

pub returns-in_err-stop-clause-undone : goal.returns-in_err-stop-clause-undone
returns-in_err-stop-clause-undone g c = undone-none g.B.Bank.marks c.args.g.now

pub returns-in_err-tell_pooled-clause-undone : goal.returns-in_err-tell_pooled-clause-undone
returns-in_err-tell_pooled-clause-undone g c = record {
  marks = c.in_ok-pay.ensures.undone.marks;
  ctx = c.in_ok-pay.ensures.undone.ctx;
  facts = told_more c.args.g.now.facts c.pay.new.g.facts c.tell_pooled.new.facts c.in_ok-pay.ensures.undone.facts ([], c.in_err-tell_pooled.ensures.untold ∙ sym (append-nil c.pay.new.g.facts));
}

pub returns-in_err-told-clause-undone : goal.returns-in_err-told-clause-undone
returns-in_err-told-clause-undone g c = record {
  marks = c.in_ok-pay.ensures.undone.marks;
  ctx = c.in_ok-pay.ensures.undone.ctx;
  facts = told_more c.args.g.now.facts c.pay.new.g.facts c.tell_pooled.new.facts c.in_ok-pay.ensures.undone.facts
      (let more = told_behind c.in_ok-reward.rest c.pay.new.g.facts in (more.0, c.in_ok-tell_pooled.ensures.told ∙ more.1));
}

pub returns-in_err-push-clause-undone : goal.returns-in_err-push-clause-undone
returns-in_err-push-clause-undone g c = record {
  marks = c.in_ok-pay.ensures.undone.marks;
  ctx = c.in_ok-pay.ensures.undone.ctx;
  facts = told_more c.args.g.now.facts c.pay.new.g.facts c.push.new.self c.in_ok-pay.ensures.undone.facts
      (let more = told_behind c.in_ok-reward.rest c.pay.new.g.facts in (more.0, c.in_err-push.ensures.err ∙ c.in_ok-tell_pooled.ensures.told ∙ more.1));
}

pub returns-clause-undone : goal.returns-clause-undone
returns-clause-undone g c = record {
  marks = c.in_ok-pay.ensures.undone.marks;
  ctx = c.in_ok-pay.ensures.undone.ctx;
  facts = told_more c.args.g.now.facts c.tell_pooled.new.facts c.push.new.self
      (told_more c.args.g.now.facts c.pay.new.g.facts c.tell_pooled.new.facts c.in_ok-pay.ensures.undone.facts
      (let more = told_behind c.in_ok-reward.rest c.pay.new.g.facts in (more.0, c.in_ok-tell_pooled.ensures.told ∙ more.1)))
      (_, c.in_ok-push.ensures.ok);
}
