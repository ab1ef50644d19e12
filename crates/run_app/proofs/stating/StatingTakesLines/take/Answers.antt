use Rattle.std.proofs.Common.{Some, refl}
use Rattle.run_app.{specs.Statements.StatesAt, proofs.ModeLemmas.quiet_at}
use Rattle.run_app.proofs.StatingLemmas.{first_leads, first_stops, line_leads, line_stops, may_stop, never_unwritten, never_write, quiet_on, stops_may}
use Rattle.run_app.proofs.stating.StatingTakesLines.take.Goals as goal

pub returns-in-Ok-clause-takes : goal.returns-in-Ok-clause-takes
returns-in-Ok-clause-takes g c =
    let old = c.args.self.now in
    let new = c.begin.new.following in (
      first_leads c.args.form c.args.number c.args.line.now old.following.pair c.requires.short old.chain c.in-None.is old.following.tracker old.following.made.items (StatesAt (Some c.in-Ok.chain) new.tracker new.made.items) c.in-Ok.ensures.led,
      c.begin.ensures.pair,
      refl,
    )

pub returns-in-Err-clause-stops : goal.returns-in-Err-clause-stops
returns-in-Err-clause-stops g c =
    let old = c.args.self.now in
    (first_stops c.args.form c.args.number c.args.line.now old.following.pair c.requires.short old.chain c.in-None.is old.following.tracker old.following.made.items c.in-Err.status c.in-Err.ensures.stop, refl)

pub returns-in-Err-clause-may : goal.returns-in-Err-clause-may
returns-in-Err-clause-may g c = stops_may c.in-Err.status c.in-Err.ensures.may

pub returns-in-Err-clause-cause : goal.returns-in-Err-clause-cause
returns-in-Err-clause-cause g c = λ e. absurd (never_write c.in-Err.status c.in-Err.ensures.may e)

pub returns-in-Err-clause-quiet : goal.returns-in-Err-clause-quiet
returns-in-Err-clause-quiet g c = quiet_at _ _ refl

pub returns-in-Some-clause-takes : goal.returns-in-Some-clause-takes
returns-in-Some-clause-takes g c =
    let old = c.args.self.now in
    let new = c.advance.new.following in
    line_leads c.args.form c.args.number c.args.line.now old.following.pair c.requires.short old.chain c.in-Some.chain c.in-Some.is old.following.tracker old.following.made.items c.advance.ensures.pair refl
    (StatesAt (Some c.advance.new.chain) new.tracker new.made.items) c.advance.result c.advance.ensures.led

pub returns-in-Some-clause-stops : goal.returns-in-Some-clause-stops
returns-in-Some-clause-stops g c =
    let old = c.args.self.now in
    line_stops c.args.form c.args.number c.args.line.now old.following.pair c.requires.short old.chain c.in-Some.chain c.in-Some.is old.following.tracker old.following.made.items c.advance.ensures.pair refl c.advance.result c.advance.ensures.stop

pub returns-in-Some-clause-may : goal.returns-in-Some-clause-may
returns-in-Some-clause-may g c = may_stop c.advance.result c.advance.ensures.may

pub returns-in-Some-clause-cause : goal.returns-in-Some-clause-cause
returns-in-Some-clause-cause g c = λ e. absurd (never_unwritten c.advance.result c.advance.ensures.may e)

pub returns-in-Some-clause-quiet : goal.returns-in-Some-clause-quiet
returns-in-Some-clause-quiet g c = quiet_on c.advance.result _ refl
