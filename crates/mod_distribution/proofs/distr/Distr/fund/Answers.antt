use Rattle.std.proofs.Common.{sym, ap, subst, refl, OnOk}
use Rattle.base_roles.specs.{Ground.seen, Owing.Lists, Holdings.balance_of}
use Rattle.base_types.specs.declared.account.Account.TheVariants as account
use Rattle.base_records.proofs.KindLemmas.{is_ok}
use Rattle.rule_modules.specs.{Distribution.Shared, Withdrawals.pool_funded}
use Rattle.mod_allocation.specs.Owed.{AreWithin}
use Rattle.mod_distribution.specs.Calls.{PoolsOrRefuses, StandFor}
use Rattle.mod_distribution.specs.{Kept.{Distributed, SharedGoesOn, distributed, kept_with}, Stands.KeepsShared}
use Rattle.mod_distribution.proofs.FundLemmas.{funded_stands, pool_carried, user_within}
use Rattle.mod_distribution.proofs.MarkLemmas.{goes_on-step, in_step-same}
use Rattle.mod_distribution.proofs.distr.Distr.fund.Goals as goal

pub fund-requires-clause-backed : goal.fund-requires-clause-backed
fund-requires-clause-backed g c = c.requires.stand.1.1.1.in_order.bank

pub fund-requires-clause-within : goal.fund-requires-clause-within
fund-requires-clause-within g c =
    let s = c.requires.stand.1 in
    subst (λ t. AreWithin t.kept.purses (balance_of (g.B.Bank.holdings c.args.g.now.bank) (account.User c.args.from.now))) (sym c.self.view_is)
    (user_within c.args.self.now.kept s.0 (seen g.B.Bank.holdings c.args.g.now) c.requires.stand.0 c.args.from.now s.1.0 s.1.1)

pub returns-clause-funded : goal.returns-clause-funded
returns-clause-funded g c =
    subst (λ (t : Distributed). (d : Shared) → KeepsShared t.kept d → PoolsOrRefuses (pool_funded c.args.from.now c.args.coins.now d (seen g.B.Bank.holdings c.args.g.now)) (kept_with c.self.inside.f1.kept c.fund.new.self.kept c.self.inside.withdraw.entries) (seen g.B.Bank.holdings c.fund.new.g) c.fund.result) c.self.view_is
    (λ d h. pool_carried (distributed c.self.inside.f1 c.self.inside.alloc c.self.inside.withdraw c.self.inside.spent).kept (kept_with c.self.inside.f1.kept c.fund.new.self.kept c.self.inside.withdraw.entries) d (seen g.B.Bank.holdings c.fund.new.g) h refl refl (λ x. pool_funded c.args.from.now c.args.coins.now x (seen g.B.Bank.holdings c.args.g.now)) c.fund.result (c.fund.ensures.funded d.rewards d.withdraw))

pub returns-clause-stand : goal.returns-clause-stand
returns-clause-stand g c =
    subst (λ (t : Distributed). (l : Lists) → StandFor t.kept (seen g.B.Bank.holdings c.args.g.now) l → OnOk c.fund.result (StandFor (kept_with c.self.inside.f1.kept c.fund.new.self.kept c.self.inside.withdraw.entries) (seen g.B.Bank.holdings c.fund.new.g) l)) c.self.view_is
    (λ l s. funded_stands c.args.from.now c.args.coins.now (distributed c.self.inside.f1 c.self.inside.alloc c.self.inside.withdraw c.self.inside.spent).kept (kept_with c.self.inside.f1.kept c.fund.new.self.kept c.self.inside.withdraw.entries) (seen g.B.Bank.holdings c.args.g.now) (seen g.B.Bank.holdings c.fund.new.g) c.fund.result l c.len.ensures.money
    (λ d h. pool_carried (distributed c.self.inside.f1 c.self.inside.alloc c.self.inside.withdraw c.self.inside.spent).kept (kept_with c.self.inside.f1.kept c.fund.new.self.kept c.self.inside.withdraw.entries) d (seen g.B.Bank.holdings c.fund.new.g) h refl refl (λ x. pool_funded c.args.from.now c.args.coins.now x (seen g.B.Bank.holdings c.args.g.now)) c.fund.result (c.fund.ensures.funded d.rewards d.withdraw)) s)

pub invariant_of-self : goal.invariant_of-self
invariant_of-self g c = in_step-same c.self.inside.f1 c.self.inside.f1 c.self.inside.alloc c.fund.new.self c.self.inside.withdraw c.self.inside.withdraw c.self.invariant refl (ap (λ b. b.marks) c.fund.ensures.goes_on.behind) refl

pub returns-clause-goes_on : goal.returns-clause-goes_on
returns-clause-goes_on g c =
    subst (λ t. SharedGoesOn t (distributed c.self.inside.f1 c.fund.new.self c.self.inside.withdraw c.self.inside.spent) c.fund.result) c.self.view_is (goes_on-step c.fund.result c.self.inside.f1 c.self.inside.f1 c.self.inside.alloc c.fund.new.self c.self.inside.withdraw c.self.inside.spent refl c.fund.ensures.goes_on.behind (λ e. e) c.fund.ensures.goes_on.spent (is_ok c.fund.result refl) c.fund.ensures.goes_on.unspent)
