use Rattle.std.proofs.Common.{sym, ap, subst, refl, OnOk}
use Rattle.base_roles.specs.{Ground.seen, Owing.Lists}
use Rattle.base_records.proofs.KindLemmas.{is_ok}
use Rattle.rule_modules.specs.{Distribution.Shared, Withdrawals.pool_spent}
use Rattle.mod_allocation.specs.Owed.{CanPay}
use Rattle.mod_distribution.specs.Calls.{PoolsOrRefuses, StandFor}
use Rattle.mod_distribution.specs.{Kept.{Distributed, SharedGoesOn, distributed, kept_with}, Stands.KeepsShared}
use Rattle.mod_distribution.proofs.{FundLemmas.{spent_stands, pool_carried}, ReadyLemmas.can_be_paid}
use Rattle.mod_distribution.proofs.MarkLemmas.{goes_on-step, in_step-same}
use Rattle.mod_distribution.proofs.distr.Distr.spend.Goals as goal

pub spend-requires-clause-backed : goal.spend-requires-clause-backed
spend-requires-clause-backed g c = c.requires.stand.1.1.1.in_order.bank

pub spend-requires-clause-account : goal.spend-requires-clause-account
spend-requires-clause-account g c =
    let s = c.requires.stand.1 in
    subst (λ t. CanPay t.kept.purses (seen g.B.Bank.holdings c.args.g.now)) (sym c.self.view_is) (can_be_paid c.args.self.now.kept s.0 (seen g.B.Bank.holdings c.args.g.now) c.requires.stand.0 s.1.0 s.1.1).enough

pub returns-clause-spent : goal.returns-clause-spent
returns-clause-spent g c =
    subst (λ (t : Distributed). (d : Shared) → KeepsShared t.kept d → PoolsOrRefuses (pool_spent c.args.authority.now c.args.to.now c.args.coins.now d (seen g.B.Bank.holdings c.args.g.now)) (kept_with c.self.inside.f1.kept c.spend.new.self.kept c.self.inside.withdraw.entries) (seen g.B.Bank.holdings c.spend.new.g) c.spend.result) c.self.view_is
    (λ d h. pool_carried (distributed c.self.inside.f1 c.self.inside.alloc c.self.inside.withdraw c.self.inside.spent).kept (kept_with c.self.inside.f1.kept c.spend.new.self.kept c.self.inside.withdraw.entries) d (seen g.B.Bank.holdings c.spend.new.g) h refl refl (λ x. pool_spent c.args.authority.now c.args.to.now c.args.coins.now x (seen g.B.Bank.holdings c.args.g.now)) c.spend.result (c.spend.ensures.spent d.rewards d.withdraw))

pub returns-clause-stand : goal.returns-clause-stand
returns-clause-stand g c =
    subst (λ (t : Distributed). (l : Lists) → StandFor t.kept (seen g.B.Bank.holdings c.args.g.now) l → OnOk c.spend.result (StandFor (kept_with c.self.inside.f1.kept c.spend.new.self.kept c.self.inside.withdraw.entries) (seen g.B.Bank.holdings c.spend.new.g) l)) c.self.view_is
    (λ l s. spent_stands c.args.authority.now c.args.to.now c.args.coins.now (distributed c.self.inside.f1 c.self.inside.alloc c.self.inside.withdraw c.self.inside.spent).kept (kept_with c.self.inside.f1.kept c.spend.new.self.kept c.self.inside.withdraw.entries) (seen g.B.Bank.holdings c.args.g.now) (seen g.B.Bank.holdings c.spend.new.g) c.spend.result l c.len.ensures.money
    (λ d h. pool_carried (distributed c.self.inside.f1 c.self.inside.alloc c.self.inside.withdraw c.self.inside.spent).kept (kept_with c.self.inside.f1.kept c.spend.new.self.kept c.self.inside.withdraw.entries) d (seen g.B.Bank.holdings c.spend.new.g) h refl refl (λ x. pool_spent c.args.authority.now c.args.to.now c.args.coins.now x (seen g.B.Bank.holdings c.args.g.now)) c.spend.result (c.spend.ensures.spent d.rewards d.withdraw)) s)

pub invariant_of-self : goal.invariant_of-self
invariant_of-self g c = in_step-same c.self.inside.f1 c.self.inside.f1 c.self.inside.alloc c.spend.new.self c.self.inside.withdraw c.self.inside.withdraw c.self.invariant refl (ap (λ b. b.marks) c.spend.ensures.goes_on.behind) refl

pub returns-clause-goes_on : goal.returns-clause-goes_on
returns-clause-goes_on g c =
    subst (λ t. SharedGoesOn t (distributed c.self.inside.f1 c.spend.new.self c.self.inside.withdraw c.self.inside.spent) c.spend.result) c.self.view_is (goes_on-step c.spend.result c.self.inside.f1 c.self.inside.f1 c.self.inside.alloc c.spend.new.self c.self.inside.withdraw c.self.inside.spent refl c.spend.ensures.goes_on.behind (λ e. e) c.spend.ensures.goes_on.spent (is_ok c.spend.result refl) c.spend.ensures.goes_on.unspent)
