use Rattle.std.proofs.Common.{◌≡◌, ◌^◌, ◌≤◌, false, sym, subst, refl, ap, arith, OnOk, nat_le}
use Rattle.std.proofs.lemmas.{Bool.Decides.nat_tests, Result.err_from_is_err_and}
use Rattle.base_coins.specs.Coins.{amount_of}
use Rattle.base_roles.specs.{Ground.seen, Owing.Lists, World.View}
use Rattle.rule_modules.specs.{Allocation.fees_allocated, Distribution.told_of}
use Rattle.mod_allocation.specs.{Calls.AreVotes, Owed.AreWithin}
use Rattle.mod_distribution.proofs.{CarryLemmas.told_wants, PoolLemmas.{fees_told, fees_within}, StandLemmas.fees_stand}
use Rattle.mod_distribution.{proofs.MarkLemmas.{goes_on-step, in_step-same}, specs.Calls.StandFor}
use Rattle.mod_distribution.specs.Kept.{Distributed, SharedGoesOn, distributed, kept_with}
use Rattle.base_records.proofs.KindLemmas.{is_ok}
use Rattle.mod_distribution.proofs.distr.Distr.begin_block.Goals as goal

pub collect-requires : goal.collect-requires
collect-requires g c = record { backed = c.requires.stand.1.1.1.in_order.bank }

pub allocate-requires-clause-within : goal.allocate-requires-clause-within
allocate-requires-clause-within g c =
    let s = c.requires.stand.1 in
    subst (λ t. AreWithin t.kept.purses (amount_of c.in_ok-fees.fees)) (sym c.self.view_is)
    (fees_within c.args.self.now.kept s.0 (seen g.B.Bank.holdings c.args.g.now) (seen g.B.Bank.holdings c.collect.new.g) c.requires.stand.0 c.in_ok-fees.fees s.1.0 s.1.1 c.len.ensures.money c.in_ok-fees.ensures.enough c.in_ok-fees.ensures.moved c.in_ok-fees.ensures.backed)

pub allocate-requires-clause-tax : goal.allocate-requires-clause-tax
allocate-requires-clause-tax g c = subst (λ ctx. ctx.params.community_tax ≤ 10 ^ 18) (sym c.in_ok-fees.ensures.undone.ctx) c.requires.stand.1.1.1.in_order.params.community_tax

pub allocate-requires-clause-votes : goal.allocate-requires-clause-votes
allocate-requires-clause-votes g c = subst (λ t. AreVotes (g.V.ValidatorView.staked c.args.validators.now) t.kept.purses c.args.votes.now) (sym c.self.view_is) c.requires.votes

pub returns-in_err-fees-clause-allocated : goal.returns-in_err-fees-clause-allocated
returns-in_err-fees-clause-allocated g c = λ d h.
    let p = err_from_is_err_and c.from_residual.result c.from_residual.ensures.1 in
    rw (p.1, p.2) (told_wants _ _ (told_of (fees_allocated (g.V.ValidatorView.staked c.args.validators.now) c.args.votes.now d (seen g.B.Bank.holdings c.args.g.now))) c.in_err-fees.field-0.0 c.in_err-fees.ensures.fault)

pub invariant_of-self : goal.invariant_of-self
invariant_of-self g c = in_step-same c.self.inside.f1 c.self.inside.f1 c.self.inside.alloc c.allocate.new.self c.self.inside.withdraw c.self.inside.withdraw c.self.invariant refl (ap (λ b. b.marks) c.allocate.ensures.goes_on.behind) refl

pub returns-clause-goes_on : goal.returns-clause-goes_on
returns-clause-goes_on g c =
    subst (λ t. SharedGoesOn t (distributed c.self.inside.f1 c.allocate.new.self c.self.inside.withdraw c.self.inside.spent) c.allocate.result) c.self.view_is (goes_on-step c.allocate.result c.self.inside.f1 c.self.inside.f1 c.self.inside.alloc c.allocate.new.self c.self.inside.withdraw c.self.inside.spent refl c.allocate.ensures.goes_on.behind (λ e. e) c.allocate.ensures.goes_on.spent (is_ok c.allocate.result refl) c.allocate.ensures.goes_on.unspent)

pub returns-clause-stand : goal.returns-clause-stand
returns-clause-stand g c =
    let staked = g.V.ValidatorView.staked c.args.validators.now in
    let v = seen g.B.Bank.holdings c.args.g.now in
    let v1 = seen g.B.Bank.holdings c.collect.new.g in
    let w : View = record { bank = v1.bank; ctx = v1.ctx; facts = c.allocate.new.facts } in
    let k = (distributed c.self.inside.f1 c.self.inside.alloc c.self.inside.withdraw c.self.inside.spent).kept in
    let new = kept_with c.self.inside.f1.kept c.allocate.new.self.kept c.self.inside.withdraw.entries in
    let late : nat_le c.args.g.now.ctx.height 1 ≡ false = grind (arith, nat_tests) in
    subst (λ (t : Distributed). (l : Lists) → StandFor t.kept v l → OnOk c.allocate.result (StandFor new w l)) c.self.view_is
    (λ l s. fees_stand staked c.args.votes.now k new v w l c.allocate.result (subst (λ t. AreVotes staked t.kept.purses c.args.votes.now) (sym c.self.view_is) c.requires.votes)
    (λ d h. fees_told staked c.args.votes.now k new d v v1 w h late c.in_ok-fees.fees c.in_ok-fees.ensures.fees c.in_ok-fees.ensures.moved refl refl refl refl c.allocate.result c.allocate.ensures.allocated) s)
