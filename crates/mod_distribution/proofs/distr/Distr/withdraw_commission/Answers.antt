use Rattle.std.proofs.Common.{◌∙◌, [], sym, ap, subst, refl, Ok, Err}
use Rattle.base_roles.specs.{declared.refusal.Refusal.TheVariants.NoCommission, Ground.seen, World.View}
use Rattle.rule_modules.specs.Withdrawals.{commission_withdrawn}
use Rattle.mod_allocation.specs.{Calls.{coins_in, commission_out}, Owed.{AreWithin, IsMoved, nothing_more}}
use Rattle.mod_distribution.{specs.Kept.{KeptShared, SharedGoesOn, distributed}, proofs.CarryLemmas.message_refused}
use Rattle.mod_distribution.proofs.{PayLemmas.enough_for, PoolLemmas.{commission_carried, no_commission}}
use Rattle.mod_distribution.proofs.{ReadyLemmas.{can_be_paid, none_else, owed_within}, StandLemmas.commission_stands}
use Rattle.mod_distribution.proofs.MarkLemmas.{goes_on-step, in_step-same}
use Rattle.std.proofs.lemmas.Result.{err_from_is_err_and}
use Rattle.base_roles.specs.declared.faults.MessageFault.TheVariants as stop
use Rattle.mod_distribution.proofs.distr.Distr.withdraw_commission.Goals as goal

pub take_commission-requires : goal.take_commission-requires
take_commission-requires g c =
    let s = c.requires.stand.1 in
    record { within = subst (λ t. AreWithin t.kept.purses nothing_more) (sym c.self.view_is) (owed_within c.args.self.now.kept s.0 (seen g.B.Bank.holdings c.args.g.now) c.requires.stand.0 s.1.0 s.1.1) }

pub pay-requires-clause-backed : goal.pay-requires-clause-backed
pay-requires-clause-backed g c = c.requires.stand.1.1.1.in_order.bank

pub pay-requires-clause-enough : goal.pay-requires-clause-enough
pay-requires-clause-enough g c =
    let s = c.requires.stand.1 in
    let v = seen g.B.Bank.holdings c.args.g.now in
    let coins = c.in-Some.coins in
    enough_for c.args.self.now.kept.purses c.take_commission.new.self.kept v coins
    (subst (λ t. IsMoved t.kept.purses [] coins c.take_commission.new.self.kept) c.self.view_is (subst (λ o. IsMoved c.self.inside.alloc.kept [] (coins_in o) c.take_commission.new.self.kept) c.in-Some.is c.in_ok-coins.ensures.moved)) (can_be_paid c.args.self.now.kept s.0 v c.requires.stand.0 s.1.0 s.1.1).enough

pub returns-in_default-clause-withdrawn : goal.returns-in_default-clause-withdrawn
returns-in_default-clause-withdrawn g c = λ d h.
    let v = seen g.B.Bank.holdings c.args.g.now in
    let new : KeptShared = record { rewards = c.self.inside.f1.kept; purses = c.take_commission.new.self.kept; withdraw = c.self.inside.withdraw.entries } in
    message_refused new v (commission_withdrawn c.args.operator.now d v) NoCommission
    (no_commission c.args.operator.now c.args.self.now.kept new d v v h c.take_commission.new.self.kept (ap (λ t. commission_out c.args.operator.now t.kept.purses) (sym c.self.view_is) ∙ (c.in_ok-coins.ensures.taken ∙ ap (λ o. (o, c.take_commission.new.self.kept)) (none_else c.in_ok-coins.field-0 c.in_default.not-Some))))

pub returns-clause-withdrawn : goal.returns-clause-withdrawn
returns-clause-withdrawn g c = λ d h.
    let operator = c.args.operator.now in
    let coins = c.in-Some.coins in
    let new : KeptShared = record { rewards = c.self.inside.f1.kept; purses = c.take_commission.new.self.kept; withdraw = c.self.inside.withdraw.entries } in
    let v1 = seen g.B.Bank.holdings c.pay.new.g in
    let w : View = record { bank = v1.bank; ctx = v1.ctx; facts = c.tell_commission.new.facts } in
    commission_carried operator c.args.self.now.kept new d (seen g.B.Bank.holdings c.args.g.now) w h c.payee-to.result coins c.in_ok-told.told v1
    (ap (λ t. commission_out operator t.kept.purses) (sym c.self.view_is) ∙ (c.in_ok-coins.ensures.taken ∙ ap (λ o. (o, c.take_commission.new.self.kept)) c.in-Some.is)) c.payee-to.ensures.payee (ap (λ t. t.kept.rewards) c.self.view_is) (ap (λ t. t.kept.withdraw) c.self.view_is)
    c.in_ok-pay.ensures.paid c.in_ok-told.ensures.same (λ i. record { bank = v1.bank; ctx = v1.ctx; facts = c.in_ok-tell_commission.ensures.told i })

pub returns-clause-stand : goal.returns-clause-stand
returns-clause-stand g c = λ l s.
    let operator = c.args.operator.now in
    let coins = c.in-Some.coins in
    let new : KeptShared = record { rewards = c.self.inside.f1.kept; purses = c.take_commission.new.self.kept; withdraw = c.self.inside.withdraw.entries } in
    let v = seen g.B.Bank.holdings c.args.g.now in
    let v1 = seen g.B.Bank.holdings c.pay.new.g in
    let w : View = record { bank = v1.bank; ctx = v1.ctx; facts = c.tell_commission.new.facts } in
    commission_stands operator c.args.self.now.kept new v w coins l
    (λ d h. commission_carried operator c.args.self.now.kept new d v w h c.payee-to.result coins c.in_ok-told.told v1
    (ap (λ t. commission_out operator t.kept.purses) (sym c.self.view_is) ∙ (c.in_ok-coins.ensures.taken ∙ ap (λ o. (o, c.take_commission.new.self.kept)) c.in-Some.is)) c.payee-to.ensures.payee (ap (λ t. t.kept.rewards) c.self.view_is) (ap (λ t. t.kept.withdraw) c.self.view_is)
    c.in_ok-pay.ensures.paid c.in_ok-told.ensures.same (λ i. record { bank = v1.bank; ctx = v1.ctx; facts = c.in_ok-tell_commission.ensures.told i })) s

pub invariant_of-self : goal.invariant_of-self
invariant_of-self g c = in_step-same c.self.inside.f1 c.self.inside.f1 c.self.inside.alloc c.take_commission.new.self c.self.inside.withdraw c.self.inside.withdraw c.self.invariant refl (ap (λ b. b.marks) c.in_err-coins.ensures.goes_on.behind) refl

pub returns-in_err-coins-clause-goes_on : goal.returns-in_err-coins-clause-goes_on
returns-in_err-coins-clause-goes_on g c =
    let p = err_from_is_err_and c.from_residual.result c.from_residual.ensures.1 in
    rw p.1 (subst (λ t. SharedGoesOn t (distributed c.self.inside.f1 c.take_commission.new.self c.self.inside.withdraw c.self.inside.spent) (Err p.0)) c.self.view_is (goes_on-step (Err p.0) c.self.inside.f1 c.self.inside.f1 c.self.inside.alloc c.take_commission.new.self c.self.inside.withdraw c.self.inside.spent refl c.in_err-coins.ensures.goes_on.behind (λ e. e) c.in_err-coins.ensures.goes_on.spent tt tt))

pub invariant_of-self-in_default : goal.invariant_of-self-in_default
invariant_of-self-in_default g c = in_step-same c.self.inside.f1 c.self.inside.f1 c.self.inside.alloc c.take_commission.new.self c.self.inside.withdraw c.self.inside.withdraw c.self.invariant refl (ap (λ b. b.marks) c.in_ok-coins.ensures.goes_on.behind) refl

pub returns-in_default-clause-goes_on : goal.returns-in_default-clause-goes_on
returns-in_default-clause-goes_on g c =
    subst (λ t. SharedGoesOn t (distributed c.self.inside.f1 c.take_commission.new.self c.self.inside.withdraw c.self.inside.spent) (Err (stop.Refused NoCommission))) c.self.view_is (goes_on-step (Err (stop.Refused NoCommission)) c.self.inside.f1 c.self.inside.f1 c.self.inside.alloc c.take_commission.new.self c.self.inside.withdraw c.self.inside.spent refl c.in_ok-coins.ensures.goes_on.behind (λ e. e) c.in_ok-coins.ensures.goes_on.spent tt tt)

pub invariant_of-self-in_err-pay : goal.invariant_of-self-in_err-pay
invariant_of-self-in_err-pay g c = in_step-same c.self.inside.f1 c.self.inside.f1 c.self.inside.alloc c.take_commission.new.self c.self.inside.withdraw c.self.inside.withdraw c.self.invariant refl (ap (λ b. b.marks) c.in_ok-coins.ensures.goes_on.behind) refl

pub returns-in_err-pay-clause-goes_on : goal.returns-in_err-pay-clause-goes_on
returns-in_err-pay-clause-goes_on g c =
    let p = err_from_is_err_and c.from_residual-in_err-pay.result c.from_residual-in_err-pay.ensures.1 in
    rw p.1 (subst (λ t. SharedGoesOn t (distributed c.self.inside.f1 c.take_commission.new.self c.self.inside.withdraw c.self.inside.spent) (Err p.0)) c.self.view_is (goes_on-step (Err p.0) c.self.inside.f1 c.self.inside.f1 c.self.inside.alloc c.take_commission.new.self c.self.inside.withdraw c.self.inside.spent refl c.in_ok-coins.ensures.goes_on.behind (λ e. e) c.in_ok-coins.ensures.goes_on.spent tt tt))

pub invariant_of-self-in_err-told : goal.invariant_of-self-in_err-told
invariant_of-self-in_err-told g c = in_step-same c.self.inside.f1 c.self.inside.f1 c.self.inside.alloc c.take_commission.new.self c.self.inside.withdraw c.self.inside.withdraw c.self.invariant refl (ap (λ b. b.marks) c.in_ok-coins.ensures.goes_on.behind) refl

pub returns-in_err-told-clause-goes_on : goal.returns-in_err-told-clause-goes_on
returns-in_err-told-clause-goes_on g c =
    let p = err_from_is_err_and c.from_residual-in_err-told.result c.from_residual-in_err-told.ensures.1 in
    rw p.1 (subst (λ t. SharedGoesOn t (distributed c.self.inside.f1 c.take_commission.new.self c.self.inside.withdraw c.self.inside.spent) (Err p.0)) c.self.view_is (goes_on-step (Err p.0) c.self.inside.f1 c.self.inside.f1 c.self.inside.alloc c.take_commission.new.self c.self.inside.withdraw c.self.inside.spent refl c.in_ok-coins.ensures.goes_on.behind (λ e. e) c.in_ok-coins.ensures.goes_on.spent tt tt))

pub invariant_of-self-in_err-tell_commission : goal.invariant_of-self-in_err-tell_commission
invariant_of-self-in_err-tell_commission g c = in_step-same c.self.inside.f1 c.self.inside.f1 c.self.inside.alloc c.take_commission.new.self c.self.inside.withdraw c.self.inside.withdraw c.self.invariant refl (ap (λ b. b.marks) c.in_ok-coins.ensures.goes_on.behind) refl

pub returns-in_err-tell_commission-clause-goes_on : goal.returns-in_err-tell_commission-clause-goes_on
returns-in_err-tell_commission-clause-goes_on g c =
    let p = err_from_is_err_and c.from_residual-in_err-tell_commission.result c.from_residual-in_err-tell_commission.ensures.1 in
    rw p.1 (subst (λ t. SharedGoesOn t (distributed c.self.inside.f1 c.take_commission.new.self c.self.inside.withdraw c.self.inside.spent) (Err p.0)) c.self.view_is (goes_on-step (Err p.0) c.self.inside.f1 c.self.inside.f1 c.self.inside.alloc c.take_commission.new.self c.self.inside.withdraw c.self.inside.spent refl c.in_ok-coins.ensures.goes_on.behind (λ e. e) c.in_ok-coins.ensures.goes_on.spent tt tt))

pub invariant_of-self-2 : goal.invariant_of-self-2
invariant_of-self-2 g c = in_step-same c.self.inside.f1 c.self.inside.f1 c.self.inside.alloc c.take_commission.new.self c.self.inside.withdraw c.self.inside.withdraw c.self.invariant refl (ap (λ b. b.marks) c.in_ok-coins.ensures.goes_on.behind) refl

pub returns-clause-goes_on : goal.returns-clause-goes_on
returns-clause-goes_on g c =
    subst (λ t. SharedGoesOn t (distributed c.self.inside.f1 c.take_commission.new.self c.self.inside.withdraw c.self.inside.spent) (Ok c.in-Some.coins)) c.self.view_is (goes_on-step (Ok c.in-Some.coins) c.self.inside.f1 c.self.inside.f1 c.self.inside.alloc c.take_commission.new.self c.self.inside.withdraw c.self.inside.spent refl c.in_ok-coins.ensures.goes_on.behind (λ e. e) c.in_ok-coins.ensures.goes_on.spent refl c.in_ok-coins.ensures.goes_on.unspent)
