use Rattle.std.proofs.Common.{◌≡◌, ◌-◌, ◌∷◌, [], ◌++◌, sym, ap, subst, ◌∙◌, is_some, unwrap_or}
use Rattle.base_roles.specs.declared.facts.Fact.TheVariants.{Started}
use Rattle.mod_periods.specs.{Kept.{current_of, info_of, record_of, referred}, Stands.{KeepsRewards, IsKept}}
use Rattle.mod_periods.proofs.{CallLemmas.{count-few, last-is, start-answers}, RatioLemmas.running-above}
use Rattle.mod_periods.proofs.f1.F1.start.Goals as goal

pub refer-requires : goal.refer-requires
refer-requires g c = record {
  few = λ h found. count-few c.self.inside.tables.kept c.args.operator.now (c.unwrap-period.result - 1) (subst (λ t. IsKept t.kept) (sym c.self.view_is) c.requires.validator.kept)
      c.known.ensures.few_starts c.known.ensures.few_events h (sym (ap (λ t. record_of t.kept c.args.operator.now (c.unwrap-period.result - 1)) c.in_ok-put_info.ensures.changes.ok) ∙ found);
}

pub returns-clause-started : goal.returns-clause-started
returns-clause-started g c r h =
    let same : c.self.inside.tables ≡ c.args.self.now = c.self.view_is in
    let put = c.in_ok-put_info.ensures.changes.ok in
    let left = c.in_ok-refer.ensures.ok in
    let is = ap (λ t. is_some (current_of t.kept c.args.operator.now)) same ∙ c.requires.validator.initialised in
    start-answers c.self.inside.tables.kept c.refer.new.self.kept r c.args.operator.now c.args.delegator.now c.args.stake c.args.height (c.unwrap-period.result - 1)
    (subst (λ t. KeepsRewards t.kept r) (sym same) h) is
    c.known.ensures.historical (ap (λ t. info_of t.kept c.args.delegator.now c.args.operator.now) same ∙ c.requires.new)
    (running-above c.self.inside.tables.kept c.args.operator.now (subst (λ t. IsKept t.kept) (sym same) c.requires.validator.kept) is)
    (ap (λ x. unwrap_or x 0 - 1) (sym c.unwrap-period.ensures ∙ c.current.ensures.period))
    (ap (λ t. t.kept) left ∙ ap (λ t. referred c.args.operator.now (c.unwrap-period.result - 1) t.kept) put)

pub returns-clause-told : goal.returns-clause-told
returns-clause-told g c r h =
    let same : c.self.inside.tables ≡ c.args.self.now = c.self.view_is in
    let is = ap (λ t. is_some (current_of t.kept c.args.operator.now)) same ∙ c.requires.validator.initialised in
    let period = last-is c.self.inside.tables.kept r c.args.operator.now (c.unwrap-period.result - 1) (subst (λ t. KeepsRewards t.kept r) (sym same) h) is
    (ap (λ x. unwrap_or x 0 - 1) (sym c.unwrap-period.ensures ∙ c.current.ensures.period)) in
    c.in_ok-push.ensures.ok ∙ ap (λ n. c.args.facts.now ++ Started c.args.delegator.now c.args.operator.now n c.args.stake ∷ []) period
