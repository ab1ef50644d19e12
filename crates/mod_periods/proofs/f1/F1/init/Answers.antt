use Rattle.std.proofs.Common.{◌≡◌, sym, ap, subst, ◌∙◌}
use Rattle.mod_periods.{specs.{Kept.current_of, Stands.KeepsRewards}, proofs.InitLemmas.init-stands}
use Rattle.rule_modules.specs.Periods.{initial_records, with_periods}
use Rattle.mod_periods.proofs.f1.F1.init.Goals as goal

pub returns-clause-made : goal.returns-clause-made
returns-clause-made g c r h =
    let tables = c.self.inside.tables in
    let same : tables ≡ c.args.self.now = c.self.view_is in
    subst (λ t. KeepsRewards t.kept (with_periods c.args.operator.now initial_records r)) (sym c.in_ok-make.ensures.ok)
    (init-stands tables.kept r c.args.operator.now c.known.ensures.historical (subst (λ t. KeepsRewards t.kept r) (sym same) h) (ap (λ t. current_of t.kept c.args.operator.now) same ∙ c.requires.new))
