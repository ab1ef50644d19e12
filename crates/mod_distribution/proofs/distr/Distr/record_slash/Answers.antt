use Rattle.std.proofs.Common.{◌≢◌, ◌≤◌, ◌∙◌, refl, sym, ap, subst, Ok, All}
use Rattle.std.proofs.lemmas.Result.{err_from_is_err_and}
use Rattle.base_roles.specs.{declared.params.Ctx.Ctx, Ground.seen}
use Rattle.mod_periods.specs.{Kept.events_of, Scenes.HasPeriods, Stands.KeepsRewards, Steps.running}
use Rattle.mod_distribution.specs.Kept.{KeptShared, SharedGoesOn, distributed}
use Rattle.mod_distribution.proofs.PeriodLemmas.{slash_unended, slash_told}
use Rattle.mod_distribution.proofs.MarkLemmas.{goes_on-step, goes_on-then, in_step-same}
use Rattle.base_records.proofs.KindLemmas.{is_ok}
use Rattle.mod_distribution.proofs.distr.Distr.record_slash.Goals as goal

pub slash_event-requires-clause-validator : goal.slash_event-requires-clause-validator
slash_event-requires-clause-validator g c = subst (λ t. HasPeriods t.kept.rewards c.args.v.now.operator) (sym c.self.view_is) c.in_ok-period.ensures.records.periods

pub slash_event-requires-clause-last : goal.slash_event-requires-clause-last
slash_event-requires-clause-last g c = c.in_ok-period.ensures.last ∙ sym (ap (λ t. running t.kept.rewards c.args.v.now.operator) c.self.view_is)

pub slash_event-requires-clause-free : goal.slash_event-requires-clause-free
slash_event-requires-clause-free g c = subst (λ t. All (λ e. e.period ≢ c.in_ok-period.period) (events_of t.kept.rewards c.args.v.now.operator)) (sym c.self.view_is) c.in_ok-period.ensures.free

pub slash_event-requires-clause-heights : goal.slash_event-requires-clause-heights
slash_event-requires-clause-heights g c =
    subst (λ (ctx : Ctx). All (λ e. e.height ≤ ctx.height) (events_of c.self.inside.f1.kept c.args.v.now.operator)) (sym c.in_ok-period.ensures.undone.ctx)
    (subst (λ t. All (λ e. e.height ≤ c.args.g.now.ctx.height) (events_of t.kept.rewards c.args.v.now.operator)) (sym c.self.view_is)
    (subst (All (λ e. e.height ≤ c.args.g.now.ctx.height)) (sym c.in_ok-period.ensures.events) c.requires.heights))

pub returns-in_err-period-clause-told : goal.returns-in_err-period-clause-told
returns-in_err-period-clause-told g c = λ d h.
    let p = err_from_is_err_and c.from_residual.result c.from_residual.ensures.1 in
    rw (p.1, p.2) (slash_unended c.args.v.now c.args.fraction d (seen g.B.Bank.holdings c.args.g.now) c.end_period.new.self.kept _ (seen g.B.Bank.holdings c.end_period.new.g) _ c.in_err-period.field-0.0 (c.in_err-period.ensures.ended d h))

pub returns-clause-told : goal.returns-clause-told
returns-clause-told g c = λ d h.
    let mid = c.end_period.new.self.kept in
    let u = seen g.B.Bank.holdings c.end_period.new.g in
    let new : KeptShared = record { rewards = c.slash_event.new.self.kept; purses = c.self.inside.alloc.kept; withdraw = c.self.inside.withdraw.entries } in
    slash_told c.args.v.now c.args.fraction d (seen g.B.Bank.holdings c.args.g.now) mid new u u c.in_ok-period.period c.slash_event.result (c.in_ok-period.ensures.ended d h)
    (λ r k. c.slash_event.ensures.recorded r (subst (λ t. KeepsRewards t.kept.rewards r) (sym c.self.view_is) k))
    (ap (λ t. t.kept.purses) c.self.view_is) (ap (λ t. t.kept.withdraw) c.self.view_is) refl c.slash_event.ensures.fault

pub returns-in_err-period-clause-goes_on : goal.returns-in_err-period-clause-goes_on
returns-in_err-period-clause-goes_on g c =
    let p = err_from_is_err_and c.from_residual.result c.from_residual.ensures.1 in
    rw (p.1, p.2) (record { behind = c.in_err-period.ensures.goes_on.behind; spent = c.in_err-period.ensures.goes_on.spent; unspent = tt })

pub invariant_of-self : goal.invariant_of-self
invariant_of-self g c = in_step-same c.self.inside.f1 c.slash_event.new.self c.self.inside.alloc c.self.inside.alloc c.self.inside.withdraw c.self.inside.withdraw c.self.invariant (ap (λ b. b.marks) c.slash_event.ensures.records.left.behind) refl refl

pub returns-clause-goes_on : goal.returns-clause-goes_on
returns-clause-goes_on g c =
    goes_on-then c.args.self.now c.end_period.new.self (distributed c.slash_event.new.self c.self.inside.alloc c.self.inside.withdraw c.self.inside.spent) (Ok _) c.slash_event.result c.in_ok-period.ensures.goes_on c.in_ok-period.ensures.goes_on.unspent
    (subst (λ t. SharedGoesOn t (distributed c.slash_event.new.self c.self.inside.alloc c.self.inside.withdraw c.self.inside.spent) c.slash_event.result) c.self.view_is (goes_on-step c.slash_event.result c.self.inside.f1 c.slash_event.new.self c.self.inside.alloc c.self.inside.alloc c.self.inside.withdraw c.self.inside.spent c.slash_event.ensures.records.left.behind refl c.slash_event.ensures.records.left.spent (λ e. e) c.slash_event.ensures.records.unspent (is_ok c.slash_event.result refl)))
