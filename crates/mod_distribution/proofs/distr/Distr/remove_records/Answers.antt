use Rattle.std.proofs.Common.{◌∙◌, [], refl, sym, ap, subst, is_some, Err}
use Rattle.std.proofs.lemmas.Result.{err_from_is_err_and}
use Rattle.base_roles.specs.{Ground.seen, World.View, declared.{calls.{Hook.{TheVariants.{Removed as removed}}}}}
use Rattle.rule_modules.specs.{Distribution.distribution_told, Purses.pooled_told}
use Rattle.base_records.proofs.KindLemmas.{on_ok, is_ok}
use Rattle.mod_allocation.specs.{Calls.purse_at, Owed.{AreWithin, IsMoved, nothing_more}}
use Rattle.mod_allocation.proofs.{AllocateLemmas.told_behind, LoopLemmas.told_more}
use Rattle.mod_periods.specs.{Kept.info_of, Scenes.HasPeriods}
use Rattle.mod_distribution.specs.{Kept.{KeptShared, payee_in, SharedGoesOn, distributed}, Stands.KeepsShared}
use Rattle.mod_distribution.proofs.{CarryLemmas.told_wants, PayLemmas.enough_for, PeriodLemmas.removed_told}
use Rattle.mod_distribution.proofs.MarkLemmas.{commission_behind, facts_by, goes_on-step, in_step-same}
use Rattle.mod_distribution.proofs.distr.Distr.remove_records.Goals as goal

pub close-requires-clause-known : goal.close-requires-clause-known
close-requires-clause-known g c = ap (λ t. is_some (purse_at t.kept.purses c.args.v.now.operator)) c.self.view_is ∙ c.requires.records.purse

pub close-requires-clause-within : goal.close-requires-clause-within
close-requires-clause-within g c = subst (λ t. AreWithin t.kept.purses nothing_more) (sym c.self.view_is) c.requires.records.within

pub clear-requires-clause-validator : goal.clear-requires-clause-validator
clear-requires-clause-validator g c = subst (λ t. HasPeriods t.kept.rewards c.args.v.now.operator) (sym c.self.view_is) c.requires.records.periods

pub clear-requires-clause-none : goal.clear-requires-clause-none
clear-requires-clause-none g c = λ who. ap (λ t. info_of t.kept.rewards who c.args.v.now.operator) c.self.view_is ∙ c.requires.none who

pub pay-requires-clause-backed : goal.pay-requires-clause-backed
pay-requires-clause-backed g c = c.requires.paid.backed

pub pay-requires-clause-enough : goal.pay-requires-clause-enough
pay-requires-clause-enough g c =
    enough_for c.args.self.now.kept.purses c.close.new.self.kept (seen g.B.Bank.holdings c.args.g.now) c.in_ok-coins.coins
    (subst (λ t. IsMoved t.kept.purses [] c.in_ok-coins.coins c.close.new.self.kept) c.self.view_is c.in_ok-coins.ensures.moved) c.requires.paid.enough

pub returns-in_err-coins-clause-told : goal.returns-in_err-coins-clause-told
returns-in_err-coins-clause-told g c = λ d h.
    let p = err_from_is_err_and c.from_residual.result c.from_residual.ensures.1 in
    rw (p.1, p.2) (told_wants _ _ (distribution_told d (removed c.args.v.now) (seen g.B.Bank.holdings c.args.g.now)) c.in_err-coins.field-0.0 c.in_err-coins.ensures.fault)

pub returns-in_err-clear-clause-told : goal.returns-in_err-clear-clause-told
returns-in_err-clear-clause-told g c = λ d h.
    let p = err_from_is_err_and c.from_residual-in_err-clear.result c.from_residual-in_err-clear.ensures.1 in
    rw (p.1, p.2) (told_wants _ _ (distribution_told d (removed c.args.v.now) (seen g.B.Bank.holdings c.args.g.now)) c.in_err-clear.field-0.0 c.in_err-clear.ensures.fault)

pub returns-in_err-pay-clause-told : goal.returns-in_err-pay-clause-told
returns-in_err-pay-clause-told g c = λ d h.
    let p = err_from_is_err_and c.from_residual-in_err-pay.result c.from_residual-in_err-pay.ensures.1 in
    rw (p.1, p.2) (told_wants _ _ (distribution_told d (removed c.args.v.now) (seen g.B.Bank.holdings c.args.g.now)) c.in_err-pay.field-0.0 c.in_err-pay.ensures.fault)

pub returns-in_err-tell_some_commission-clause-told : goal.returns-in_err-tell_some_commission-clause-told
returns-in_err-tell_some_commission-clause-told g c = λ d h.
    let p = err_from_is_err_and c.from_residual-in_err-tell_some_commission.result c.from_residual-in_err-tell_some_commission.ensures.1 in
    rw (p.1, p.2) (told_wants _ _ (distribution_told d (removed c.args.v.now) (seen g.B.Bank.holdings c.args.g.now)) c.in_err-tell_some_commission.field-0.0 c.in_err-tell_some_commission.ensures.fault)

pub returns-clause-told : goal.returns-clause-told
returns-clause-told g c = λ d h.
    let operator = c.args.v.now.operator in
    let old : KeptShared = record { rewards = c.self.inside.f1.kept; purses = c.self.inside.alloc.kept; withdraw = c.self.inside.withdraw.entries } in
    let new : KeptShared = record { rewards = c.clear.new.self.kept; purses = c.close.new.self.kept; withdraw = c.self.inside.withdraw.entries } in
    let held = subst (λ t. KeepsShared t.kept d) (sym c.self.view_is) h in
    let v1 = seen g.B.Bank.holdings c.pay.new.g in
    let v2 : View = record { bank = v1.bank; ctx = v1.ctx; facts = c.tell_pooled.new.facts } in
    removed_told c.args.v.now old new d (seen g.B.Bank.holdings c.args.g.now) v1 v2 held c.payee-to.result c.in_ok-coins.coins c.in_ok-coins.rest c.tell_pooled.result c.in_ok-coins.ensures.closed
    (c.payee-to.ensures.payee ∙ sym (ap (λ t. payee_in t.kept.withdraw operator) c.self.view_is)) (c.in_ok-clear.ensures.cleared d.rewards held.rewards) refl c.in_ok-pay.ensures.paid
    (on_ok c.tell_pooled.result (λ told. λ i. record { bank = v1.bank; ctx = v1.ctx; facts = (told ∙ ap (pooled_told c.in_ok-coins.rest) c.in_ok-tell_some_commission.ensures.told) i }) c.tell_pooled.ensures.told)
    c.tell_pooled.ensures.fault

pub invariant_of-self : goal.invariant_of-self
invariant_of-self g c = in_step-same c.self.inside.f1 c.self.inside.f1 c.self.inside.alloc c.close.new.self c.self.inside.withdraw c.self.inside.withdraw c.self.invariant refl (ap (λ b. b.marks) c.in_err-coins.ensures.goes_on.behind) refl

pub returns-in_err-coins-clause-goes_on : goal.returns-in_err-coins-clause-goes_on
returns-in_err-coins-clause-goes_on g c =
    let p = err_from_is_err_and c.from_residual.result c.from_residual.ensures.1 in
    rw p.1 (subst (λ t. SharedGoesOn t (distributed c.self.inside.f1 c.close.new.self c.self.inside.withdraw c.self.inside.spent) (Err p.0)) c.self.view_is (goes_on-step (Err p.0) c.self.inside.f1 c.self.inside.f1 c.self.inside.alloc c.close.new.self c.self.inside.withdraw c.self.inside.spent refl c.in_err-coins.ensures.goes_on.behind (λ e. e) c.in_err-coins.ensures.goes_on.spent tt tt))

pub invariant_of-self-in_err-clear : goal.invariant_of-self-in_err-clear
invariant_of-self-in_err-clear g c = in_step-same c.self.inside.f1 c.clear.new.self c.self.inside.alloc c.close.new.self c.self.inside.withdraw c.self.inside.withdraw c.self.invariant (ap (λ b. b.marks) c.in_err-clear.ensures.records.left.behind) (ap (λ b. b.marks) c.in_ok-coins.ensures.goes_on.behind) refl

pub returns-in_err-clear-clause-goes_on : goal.returns-in_err-clear-clause-goes_on
returns-in_err-clear-clause-goes_on g c =
    let p = err_from_is_err_and c.from_residual-in_err-clear.result c.from_residual-in_err-clear.ensures.1 in
    rw p.1 (subst (λ t. SharedGoesOn t (distributed c.clear.new.self c.close.new.self c.self.inside.withdraw c.self.inside.spent) (Err p.0)) c.self.view_is (goes_on-step (Err p.0) c.self.inside.f1 c.clear.new.self c.self.inside.alloc c.close.new.self c.self.inside.withdraw c.self.inside.spent c.in_err-clear.ensures.records.left.behind c.in_ok-coins.ensures.goes_on.behind c.in_err-clear.ensures.records.left.spent c.in_ok-coins.ensures.goes_on.spent tt tt))

pub invariant_of-self-in_err-pay : goal.invariant_of-self-in_err-pay
invariant_of-self-in_err-pay g c = in_step-same c.self.inside.f1 c.clear.new.self c.self.inside.alloc c.close.new.self c.self.inside.withdraw c.self.inside.withdraw c.self.invariant (ap (λ b. b.marks) c.in_ok-clear.ensures.records.left.behind) (ap (λ b. b.marks) c.in_ok-coins.ensures.goes_on.behind) refl

pub returns-in_err-pay-clause-goes_on : goal.returns-in_err-pay-clause-goes_on
returns-in_err-pay-clause-goes_on g c =
    let p = err_from_is_err_and c.from_residual-in_err-pay.result c.from_residual-in_err-pay.ensures.1 in
    rw p.1 (subst (λ t. SharedGoesOn t (distributed c.clear.new.self c.close.new.self c.self.inside.withdraw c.self.inside.spent) (Err p.0)) c.self.view_is (goes_on-step (Err p.0) c.self.inside.f1 c.clear.new.self c.self.inside.alloc c.close.new.self c.self.inside.withdraw c.self.inside.spent c.in_ok-clear.ensures.records.left.behind c.in_ok-coins.ensures.goes_on.behind c.in_ok-clear.ensures.records.left.spent c.in_ok-coins.ensures.goes_on.spent tt tt))

pub invariant_of-self-in_err-tell_some_commission : goal.invariant_of-self-in_err-tell_some_commission
invariant_of-self-in_err-tell_some_commission g c = in_step-same c.self.inside.f1 c.clear.new.self c.self.inside.alloc c.close.new.self c.self.inside.withdraw c.self.inside.withdraw c.self.invariant (ap (λ b. b.marks) c.in_ok-clear.ensures.records.left.behind) (ap (λ b. b.marks) c.in_ok-coins.ensures.goes_on.behind) refl

pub returns-in_err-tell_some_commission-clause-goes_on : goal.returns-in_err-tell_some_commission-clause-goes_on
returns-in_err-tell_some_commission-clause-goes_on g c =
    let p = err_from_is_err_and c.from_residual-in_err-tell_some_commission.result c.from_residual-in_err-tell_some_commission.ensures.1 in
    rw p.1 (subst (λ t. SharedGoesOn t (distributed c.clear.new.self c.close.new.self c.self.inside.withdraw c.self.inside.spent) (Err p.0)) c.self.view_is (goes_on-step (Err p.0) c.self.inside.f1 c.clear.new.self c.self.inside.alloc c.close.new.self c.self.inside.withdraw c.self.inside.spent c.in_ok-clear.ensures.records.left.behind c.in_ok-coins.ensures.goes_on.behind c.in_ok-clear.ensures.records.left.spent c.in_ok-coins.ensures.goes_on.spent tt tt))

pub invariant_of-self-2 : goal.invariant_of-self-2
invariant_of-self-2 g c = in_step-same c.self.inside.f1 c.clear.new.self c.self.inside.alloc c.close.new.self c.self.inside.withdraw c.self.inside.withdraw c.self.invariant (ap (λ b. b.marks) c.in_ok-clear.ensures.records.left.behind) (ap (λ b. b.marks) c.in_ok-coins.ensures.goes_on.behind) refl

pub returns-clause-goes_on : goal.returns-clause-goes_on
returns-clause-goes_on g c =
    subst (λ t. SharedGoesOn t (distributed c.clear.new.self c.close.new.self c.self.inside.withdraw c.self.inside.spent) c.tell_pooled.result) c.self.view_is (goes_on-step c.tell_pooled.result c.self.inside.f1 c.clear.new.self c.self.inside.alloc c.close.new.self c.self.inside.withdraw c.self.inside.spent c.in_ok-clear.ensures.records.left.behind c.in_ok-coins.ensures.goes_on.behind c.in_ok-clear.ensures.records.left.spent c.in_ok-coins.ensures.goes_on.spent (is_ok c.tell_pooled.result c.in_ok-clear.ensures.records.unspent) (is_ok c.tell_pooled.result c.in_ok-coins.ensures.goes_on.unspent))

pub returns-clause-undone : goal.returns-clause-undone
returns-clause-undone g c =
    let facts = c.pay.new.g.facts in
    let told = c.tell_some_commission.new.facts in
    let commission = commission_behind c.args.v.now.operator c.payee-to.result c.in_ok-coins.coins facts in
    let pooled = told_behind c.in_ok-coins.rest told in
    record {
      marks = c.in_ok-pay.ensures.undone.marks;
      ctx = c.in_ok-pay.ensures.undone.ctx;
      facts = told_more c.args.g.now.facts told c.tell_pooled.new.facts (told_more c.args.g.now.facts facts told c.in_ok-pay.ensures.undone.facts (commission.0, c.in_ok-tell_some_commission.ensures.told ∙ commission.1))
          (facts_by c.tell_pooled.result told c.tell_pooled.new.facts pooled.0 (on_ok c.tell_pooled.result (λ e. e ∙ pooled.1) c.tell_pooled.ensures.told) c.tell_pooled.ensures.untold);
    }
