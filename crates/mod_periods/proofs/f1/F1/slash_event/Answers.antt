use Rattle.std.proofs.Common.{◌≡◌, ◌≢◌, ◌≤◌, sym, ap, subst, ◌∙◌, is_some, All}
use Rattle.mod_periods.specs.{Kept.{current_of, events_of, record_of, referred}, Stands.{KeepsRewards, IsKept}}
use Rattle.mod_periods.{specs.Steps.running, proofs.CallLemmas.{count-few, slash-answers}}
use Rattle.mod_periods.proofs.f1.F1.slash_event.Goals as goal

pub refer-requires : goal.refer-requires
refer-requires g c = record {
  few = λ h found. count-few c.self.inside.tables.kept c.args.operator.now c.args.period (subst (λ t. IsKept t.kept) (sym c.self.view_is) c.requires.validator.kept)
      c.known.ensures.few_starts c.known.ensures.few_events h (sym (ap (λ t. record_of t.kept c.args.operator.now c.args.period) c.in_ok-put_event.ensures.changes.ok) ∙ found);
}

pub returns-clause-recorded : goal.returns-clause-recorded
returns-clause-recorded g c r h =
    let same : c.self.inside.tables ≡ c.args.self.now = c.self.view_is in
    let put = c.in_ok-put_event.ensures.changes.ok in
    let left = c.in_ok-refer.ensures.ok in
    slash-answers c.self.inside.tables.kept c.refer.new.self.kept r c.args.operator.now c.args.height c.args.period c.args.fraction
    (subst (λ t. KeepsRewards t.kept r) (sym same) h) (ap (λ t. is_some (current_of t.kept c.args.operator.now)) same ∙ c.requires.validator.initialised)
    c.known.ensures.historical c.known.ensures.events (c.requires.last ∙ sym (ap (λ t. running t.kept c.args.operator.now) same))
    (subst (λ t. All (λ e. e.period ≢ c.args.period) (events_of t.kept c.args.operator.now)) (sym same) c.requires.free)
    (subst (λ t. All (λ e. e.height ≤ c.args.height) (events_of t.kept c.args.operator.now)) (sym same) c.requires.heights)
    c.requires.part (ap (λ t. t.kept) left ∙ ap (λ t. referred c.args.operator.now c.args.period t.kept) put)
