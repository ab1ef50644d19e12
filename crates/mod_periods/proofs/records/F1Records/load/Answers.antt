use Rattle.std.proofs.Common.{◌≡◌, ◌∙◌, true, false, refl, sym, ap}
use Rattle.base_records.proofs.KindLemmas.{added-at}
use Rattle.mod_periods.specs.Items.{items_of, is_record}
use Rattle.mod_periods.proofs.ItemLemmas.{no_record, current-added, historical-added, start-added, event-added}
use Rattle.mod_periods.proofs.records.F1Records.load.Goals as goal

pub returns-in_default : goal.returns-in_default
returns-in_default g c =
    let none : is_record c.args.item.now ≡ false = no_record c.args.item.now c.in_default.not-CurrentPeriod c.in_default.not-Historical c.in_default.not-Start c.in_default.not-Event in
    record {
      kind = sym none;
      added = λ h. let f : false ≡ true = sym none ∙ h in absurd cc;
      other = λ _. refl;
      marks = refl;
      settled = refl;
      spent = λ h. sym c.if-is_spent.false ∙ c.is_spent.ensures ∙ ap (λ b. b.spent) c.self.view_is ∙ h;
      spent_ok = refl;
      spent_err = tt;
    }

pub returns-in_ok-put_current-in-CurrentPeriod-clause-added : goal.returns-in_ok-put_current-in-CurrentPeriod-clause-added
returns-in_ok-put_current-in-CurrentPeriod-clause-added g c = λ _.
    added-at items_of c.self.inside.tables.kept _ c.args.self.now.kept c.put_current.new.self.kept _ c.args.item.now
    (current-added c.self.inside.tables.kept c.in-CurrentPeriod.operator c.in-CurrentPeriod.period c.known.ensures.current)
    (ap (λ b. b.kept) c.self.view_is) (ap (λ b. b.kept) c.in_ok-put_current-in-CurrentPeriod.ensures.changes.ok) c.in-CurrentPeriod.is

pub returns-in_ok-add_record-in-Historical-clause-added : goal.returns-in_ok-add_record-in-Historical-clause-added
returns-in_ok-add_record-in-Historical-clause-added g c = λ _.
    added-at items_of c.self.inside.tables.kept _ c.args.self.now.kept c.add_record.new.self.kept _ c.args.item.now
    (historical-added c.self.inside.tables.kept c.in-Historical.operator c.in-Historical.period c.in-Historical.history c.known.ensures.historical)
    (ap (λ b. b.kept) c.self.view_is) (ap (λ b. b.kept) c.in_ok-add_record-in-Historical.ensures.ok) c.in-Historical.is

pub returns-in_ok-put_info-in-Start-clause-added : goal.returns-in_ok-put_info-in-Start-clause-added
returns-in_ok-put_info-in-Start-clause-added g c = λ _.
    added-at items_of c.self.inside.tables.kept _ c.args.self.now.kept c.put_info.new.self.kept _ c.args.item.now
    (start-added c.self.inside.tables.kept c.in-Start.delegator c.in-Start.operator c.in-Start.info c.known.ensures.starts)
    (ap (λ b. b.kept) c.self.view_is) (ap (λ b. b.kept) c.in_ok-put_info-in-Start.ensures.changes.ok) c.in-Start.is

pub returns-in_ok-put_event-in-Event-clause-added : goal.returns-in_ok-put_event-in-Event-clause-added
returns-in_ok-put_event-in-Event-clause-added g c = λ _.
    added-at items_of c.self.inside.tables.kept _ c.args.self.now.kept c.put_event.new.self.kept _ c.args.item.now
    (event-added c.self.inside.tables.kept c.in-Event.operator c.in-Event.event c.known.ensures.events)
    (ap (λ b. b.kept) c.self.view_is) (ap (λ b. b.kept) c.in_ok-put_event-in-Event.ensures.changes.ok) c.in-Event.is
