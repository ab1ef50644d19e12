use Rattle.std.proofs.Common.{◌∙◌}
use Rattle.run_app.proofs.BallotLemmas.{extend_stops, line_stops, taken_line}
use Rattle.run_app.proofs.balloting.end_ballot.Goals as goal

pub returns-in-Err-clause-stop : goal.returns-in-Err-clause-stop
returns-in-Err-clause-stop c = λ t h. extend_stops c.args.form t _ _ _ _ _ c.in-Err.stop h c.requires.before c.in-Err.ensures.err

pub returns-in-Err-cast_line-clause-stop : goal.returns-in-Err-cast_line-clause-stop
returns-in-Err-cast_line-clause-stop c = λ t h. line_stops c.args.form t _ _ _ _ _ c.in-Err-cast_line.stop h c.requires.before (c.deref.ensures.value ∙ c.in_default.ensures.line) c.in-Err-cast_line.ensures.stop

pub returns-clause-taken : goal.returns-clause-taken
returns-clause-taken c = λ t h.
    rw c.clear.ensures.items (taken_line c.args.form t _ _ _ _ _ _ h c.requires.before (c.deref.ensures.value ∙ c.in_default.ensures.line) c.in_default-cast_line.ensures.cast)
