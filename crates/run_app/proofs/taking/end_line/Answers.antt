use Rattle.std.proofs.Common.{◌∙◌, refl}
use Rattle.run_app.proofs.ModeLemmas.{quiet_at}
use Rattle.run_app.proofs.TakingLemmas.{extend_may, extend_stops, extend_unwritten, fed_line, line_stops}
use Rattle.run_app.proofs.taking.end_line.Goals as goal

pub returns-in-Err-clause-stop : goal.returns-in-Err-clause-stop
returns-in-Err-clause-stop g c = λ x t h.
    rw c.status_of.ensures (extend_stops (g.T.TakesLines.takes c.args.form) (g.T.TakesLines.stops c.args.form) x t _ _ _ _ _ c.in-Err.stop h c.requires.before c.in-Err.ensures.err)

pub returns-in-Err-clause-may : goal.returns-in-Err-clause-may
returns-in-Err-clause-may g c = rw c.status_of.ensures (extend_may c.in-Err.stop _ _ _ c.in-Err.ensures.err)

pub returns-in-Err-clause-cause : goal.returns-in-Err-clause-cause
returns-in-Err-clause-cause g c = λ e. absurd (extend_unwritten c.in-Err.stop _ _ _ c.in-Err.ensures.err (rw c.status_of.ensures at e))

pub returns-in-Err-clause-quiet : goal.returns-in-Err-clause-quiet
returns-in-Err-clause-quiet g c = quiet_at _ _ refl

pub returns-in-Err-take-clause-stop : goal.returns-in-Err-take-clause-stop
returns-in-Err-take-clause-stop g c = λ x t h.
    line_stops (g.T.TakesLines.takes c.args.form) (g.T.TakesLines.stops c.args.form) x t _ _ _ _ _ _ c.in-Err-take.status h c.requires.before (c.deref.ensures.value ∙ c.in_default.ensures.line) c.in-Err-take.ensures.stops

pub returns-clause-fed : goal.returns-clause-fed
returns-clause-fed g c = λ x t h.
    rw c.clear.ensures.items
    (fed_line (g.T.TakesLines.takes c.args.form) x t _ _ _ _ _ _ h c.requires.before (c.deref.ensures.value ∙ c.in_default.ensures.line) c.in_default-take.ensures.takes)
