use Rattle.std.proofs.Common.{◌≡◌, sym, ap, subst, ◌∙◌, is_some}
use Rattle.mod_periods.{specs.{Kept.{current_of, info_of}, Stands.KeepsRewards}, proofs.ClearedLemmas.clear-stands}
use Rattle.rule_modules.specs.Periods.{without_periods}
use Rattle.mod_periods.proofs.f1.F1.clear.Goals as goal

pub returns-clause-cleared : goal.returns-clause-cleared
returns-clause-cleared g c r h =
    let same : c.self.inside.tables ≡ c.args.self.now = c.self.view_is in
    subst (λ t. KeepsRewards t.kept (without_periods c.args.operator.now r)) (sym c.in_ok-clear.ensures.ok)
    (clear-stands c.self.inside.tables.kept r c.args.operator.now (subst (λ t. KeepsRewards t.kept r) (sym same) h)
    (ap (λ t. is_some (current_of t.kept c.args.operator.now)) same ∙ c.requires.validator.initialised) c.known.ensures.current
    (λ delegator. ap (λ t. info_of t.kept delegator c.args.operator.now) same ∙ c.requires.none delegator))
