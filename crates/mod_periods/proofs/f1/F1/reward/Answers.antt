use Rattle.std.proofs.Common.{sym, ap, subst, ◌∙◌}
use Rattle.mod_periods.{specs.{Stands.{KeepsRewards, IsKept}, Steps.running}, proofs.EarnLemmas.found}
use Rattle.mod_periods.proofs.GivesLemmas.{can-reward, reward-gives}
use Rattle.mod_periods.proofs.f1.F1.reward.Goals as goal

pub earned-requires : goal.earned-requires
earned-requires g c = (
  c.args.ending,
  can-reward c.self.inside.tables.kept c.args.operator.now c.args.delegator.now c.unwrap-info.result c.args.ending c.unwrap-last.result.now
      (subst (λ t. IsKept t.kept) (sym c.self.view_is) c.requires.delegation.kept) (sym c.info.ensures.info ∙ c.unwrap-info.ensures)
      (c.requires.last ∙ sym (ap (λ t. running t.kept c.args.operator.now) c.self.view_is)) (found c.unwrap-last.ensures c.record.ensures.found),
)

pub returns-clause-reward : goal.returns-clause-reward
returns-clause-reward g c r h =
    let can = can-reward c.self.inside.tables.kept c.args.operator.now c.args.delegator.now c.unwrap-info.result c.args.ending c.unwrap-last.result.now
    (subst (λ t. IsKept t.kept) (sym c.self.view_is) c.requires.delegation.kept) (sym c.info.ensures.info ∙ c.unwrap-info.ensures)
    (c.requires.last ∙ sym (ap (λ t. running t.kept c.args.operator.now) c.self.view_is)) (found c.unwrap-last.ensures c.record.ensures.found) in
    reward-gives c.self.inside.tables.kept r c.args.operator.now c.args.delegator.now c.unwrap-info.result c.args.ending c.args.height c.args.value c.unwrap-last.result.now c.earned.result
    (subst (λ t. KeepsRewards t.kept r) (sym c.self.view_is) h) (sym c.info.ensures.info ∙ c.unwrap-info.ensures)
    (c.requires.last ∙ sym (ap (λ t. running t.kept c.args.operator.now) c.self.view_is)) (found c.unwrap-last.ensures c.record.ensures.found) c.if-info-height.false
    (c.earned.ensures.reward c.args.ending can) (c.earned.ensures.fault c.args.ending can)
