use Rattle.std.proofs.Common.{◌≡◌, sym, ap, subst, ◌∙◌}
use Rattle.mod_periods.{specs.{Kept.released, Stands.KeepsRewards}, proofs.CallLemmas.stop-answers}
use Rattle.mod_periods.proofs.f1.F1.stop.Goals as goal

pub returns-clause-stopped : goal.returns-clause-stopped
returns-clause-stopped g c r h =
    let same : c.self.inside.tables ≡ c.args.self.now = c.self.view_is in
    let is = c.unwrap-info.ensures in
    let info = c.in_ok-take_info.ensures.info in
    let left = c.in_ok-release.ensures.ok in
    let taken = c.in_ok-take_info.ensures.changes.ok in
    stop-answers c.self.inside.tables.kept c.release.new.self.kept r c.args.operator.now c.args.delegator.now c.unwrap-info.result
    (subst (λ t. KeepsRewards t.kept r) (sym same) h) c.known.ensures.historical (sym info ∙ is)
    (ap (λ t. t.kept) left ∙ ap (λ t. released c.args.operator.now c.unwrap-info.result.period t.kept) taken)
