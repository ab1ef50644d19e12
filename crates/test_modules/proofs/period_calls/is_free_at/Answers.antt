use Rattle.std.proofs.Common.{◌∙◌, sym}
use Rattle.mod_periods.specs.Kept.{events_of}
use Rattle.test_modules.proofs.PeriodLemmas.{free-at, all-free}
use Rattle.test_modules.proofs.period_calls.is_free_at.Goals as goal

pub returns-clause-free : goal.returns-clause-free
returns-clause-free g c passed = λ k d lt.
    (free-at (events_of c.args.f.now.kept c.args.operator.now) c.deref.result.now c.args.height c.args.period (c.deref.ensures.value ∙ c.in_ok-events.ensures.events)
    (all-free c.deref.result.now c.args.height c.args.period (sym c.is_free.ensures ∙ passed)) k d lt).0

pub returns-clause-heights : goal.returns-clause-heights
returns-clause-heights g c passed = λ k d lt.
    (free-at (events_of c.args.f.now.kept c.args.operator.now) c.deref.result.now c.args.height c.args.period (c.deref.ensures.value ∙ c.in_ok-events.ensures.events)
    (all-free c.deref.result.now c.args.height c.args.period (sym c.is_free.ensures ∙ passed)) k d lt).1
