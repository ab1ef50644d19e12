use Rattle.std.proofs.Common.{◌∙◌, sym, ap, subst, refl, Err}
use Rattle.std.proofs.lemmas.Result.{err_from_is_err_and}
use Rattle.base_records.proofs.KindLemmas.{on_ok, is_ok}
use Rattle.rule_modules.specs.Distribution.{distribution_told}
use Rattle.base_roles.specs.declared.calls.Hook.TheVariants.{Created as created}
use Rattle.mod_allocation.specs.Calls.{purse_at}
use Rattle.mod_periods.specs.{Kept.current_of, Stands.IsKept}
use Rattle.mod_distribution.specs.{Kept.{KeptShared, SharedGoesOn, distributed}, Stands.KeepsShared}
use Rattle.mod_distribution.proofs.{CarryLemmas.told_wants, PeriodLemmas.made_told}
use Rattle.mod_distribution.proofs.MarkLemmas.{goes_on-step, in_step-same}
use Rattle.mod_distribution.proofs.distr.Distr.make_records.Goals as goal

pub init-requires-clause-kept : goal.init-requires-clause-kept
init-requires-clause-kept g c = subst (λ t. IsKept t.kept.rewards) (sym c.self.view_is) c.requires.kept

pub init-requires-clause-new : goal.init-requires-clause-new
init-requires-clause-new g c = ap (λ t. current_of t.kept.rewards c.args.v.now.operator) c.self.view_is ∙ c.requires.new

pub init-requires-2 : goal.init-requires-2
init-requires-2 g c = record { new = ap (λ t. purse_at t.kept.purses c.args.v.now.operator) c.self.view_is ∙ c.requires.purse }

pub returns-in_err-init-clause-told : goal.returns-in_err-init-clause-told
returns-in_err-init-clause-told g c = λ d u h.
    let p = err_from_is_err_and c.from_residual.result c.from_residual.ensures.1 in
    rw (p.1, p.2) (told_wants (distributed c.init.new.self c.self.inside.alloc c.self.inside.withdraw c.self.inside.spent).kept u (distribution_told d (created c.args.v.now) u) c.in_err-init.field-0.0 c.in_err-init.ensures.fault)

pub returns-clause-told : goal.returns-clause-told
returns-clause-told g c = λ d u h.
    let old : KeptShared = record { rewards = c.self.inside.f1.kept; purses = c.self.inside.alloc.kept; withdraw = c.self.inside.withdraw.entries } in
    let new : KeptShared = record { rewards = c.init.new.self.kept; purses = c.init-2.new.self.kept; withdraw = c.self.inside.withdraw.entries } in
    let held = subst (λ t. KeepsShared t.kept d) (sym c.self.view_is) h in
    made_told c.args.v.now old new d u c.init-2.result held (c.in_ok-init.ensures.made d.rewards held.rewards) (λ i. c.self.inside.withdraw.entries)
    (on_ok c.init-2.result (λ e. ap (λ t. t.kept) e) c.init-2.ensures.made) c.init-2.ensures.fault

pub invariant_of-self : goal.invariant_of-self
invariant_of-self g c = in_step-same c.self.inside.f1 c.init.new.self c.self.inside.alloc c.self.inside.alloc c.self.inside.withdraw c.self.inside.withdraw c.self.invariant (ap (λ b. b.marks) c.in_err-init.ensures.records.left.behind) refl refl

pub returns-in_err-init-clause-goes_on : goal.returns-in_err-init-clause-goes_on
returns-in_err-init-clause-goes_on g c =
    let p = err_from_is_err_and c.from_residual.result c.from_residual.ensures.1 in
    rw p.1 (subst (λ t. SharedGoesOn t (distributed c.init.new.self c.self.inside.alloc c.self.inside.withdraw c.self.inside.spent) (Err p.0)) c.self.view_is (goes_on-step (Err p.0) c.self.inside.f1 c.init.new.self c.self.inside.alloc c.self.inside.alloc c.self.inside.withdraw c.self.inside.spent c.in_err-init.ensures.records.left.behind refl c.in_err-init.ensures.records.left.spent (λ e. e) tt tt))

pub invariant_of-self-2 : goal.invariant_of-self-2
invariant_of-self-2 g c = in_step-same c.self.inside.f1 c.init.new.self c.self.inside.alloc c.init-2.new.self c.self.inside.withdraw c.self.inside.withdraw c.self.invariant (ap (λ b. b.marks) c.in_ok-init.ensures.records.left.behind) (ap (λ b. b.marks) c.init-2.ensures.goes_on.behind) refl

pub returns-clause-goes_on : goal.returns-clause-goes_on
returns-clause-goes_on g c =
    subst (λ t. SharedGoesOn t (distributed c.init.new.self c.init-2.new.self c.self.inside.withdraw c.self.inside.spent) c.init-2.result) c.self.view_is (goes_on-step c.init-2.result c.self.inside.f1 c.init.new.self c.self.inside.alloc c.init-2.new.self c.self.inside.withdraw c.self.inside.spent c.in_ok-init.ensures.records.left.behind c.init-2.ensures.goes_on.behind c.in_ok-init.ensures.records.left.spent c.init-2.ensures.goes_on.spent (is_ok c.init-2.result c.in_ok-init.ensures.records.unspent) c.init-2.ensures.goes_on.unspent)
