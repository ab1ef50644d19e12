use Rattle.run_app.proofs.BallotLemmas.{cast_so, none_so}
use Rattle.run_app.proofs.balloting.cast_line.Goals as goal

pub returns-in-Err-clause-stop : goal.returns-in-Err-clause-stop
returns-in-Err-clause-stop c = rw c.not_read.ensures (none_so c.args.form _ _ c.in-Err.fault c.requires.short c.in-Err.ensures)

pub returns-in-Ok-cast-clause-cast : goal.returns-in-Ok-cast-clause-cast
returns-in-Ok-cast-clause-cast c = cast_so c.args.form _ _ c.in-Ok.ballot _ _ c.requires.short c.in-Ok.ensures c.in-Ok-cast.ensures.cast
