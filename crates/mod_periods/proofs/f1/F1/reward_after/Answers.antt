use Rattle.std.proofs.Common.{sym, ap, subst, ◌∙◌, is_some}
use Rattle.mod_periods.{specs.{Kept.current_of, Stands.{KeepsRewards, IsKept}}, proofs.RatioLemmas.last-stands}
use Rattle.mod_periods.proofs.GivesLemmas.{can-reward-after, after-gives, after-excess}
use Rattle.mod_periods.proofs.f1.F1.reward_after.Goals as goal

pub next_ratio-requires-clause-record : goal.next_ratio-requires-clause-record
next_ratio-requires-clause-record g c =
    last-stands c.self.inside.tables.kept c.args.operator.now (subst (λ t. IsKept t.kept) (sym c.self.view_is) c.requires.validator.kept)
    (ap (λ t. is_some (current_of t.kept c.args.operator.now)) c.self.view_is ∙ c.requires.validator.initialised)

pub returns-in-Err-clause-reward : goal.returns-in-Err-clause-reward
returns-in-Err-clause-reward g c r h =
    after-excess c.self.inside.tables.kept r c.args.operator.now c.args.delegator.now c.args.increment.now c.args.height c.args.value c.in-Err.fault
    (subst (λ t. KeepsRewards t.kept r) (sym c.self.view_is) h) (ap (λ t. is_some (current_of t.kept c.args.operator.now)) c.self.view_is ∙ c.requires.validator.initialised) c.in-Err.ensures.fault

pub earned-requires : goal.earned-requires
earned-requires g c =
    can-reward-after c.self.inside.tables.kept c.args.operator.now c.args.delegator.now c.unwrap-info.result c.args.increment.now c.in-Ok.next.1
    (subst (λ t. IsKept t.kept) (sym c.self.view_is) c.requires.validator.kept) (sym c.info.ensures.info ∙ c.unwrap-info.ensures) c.len.ensures.money c.in-Ok.ensures.ratio

pub returns-clause-reward : goal.returns-clause-reward
returns-clause-reward g c r h =
    after-gives c.self.inside.tables.kept r c.args.operator.now c.args.delegator.now c.unwrap-info.result c.args.increment.now c.in-Ok.next.1 c.args.height c.args.value c.earned.result
    (subst (λ t. KeepsRewards t.kept r) (sym c.self.view_is) h) (sym c.info.ensures.info ∙ c.unwrap-info.ensures) c.len.ensures.money c.in-Ok.ensures.ratio (λ e. c.if-height-info.false (sym e))
    c.earned.ensures.reward c.earned.ensures.fault
