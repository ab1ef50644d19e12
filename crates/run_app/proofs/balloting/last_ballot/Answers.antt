use Rattle.std.proofs.Common.{◌<◌, length, rules}
use Rattle.run_app.proofs.BallotLemmas.{ended_some, ended_stops, line_of_ballots, line_unread}
use Rattle.run_app.proofs.balloting.last_ballot.Goals as goal

pub returns-in-Ok-clause-kept : goal.returns-in-Ok-clause-kept
returns-in-Ok-clause-kept c = λ t h.
    let some : 0 < length c.args.balloting.now.line.items = search rules in
    ended_some c.args.form t _ _ _ _ h some (rw c.deref.ensures.value at c.in-Ok.ensures.cast)

pub returns-in-Err-clause-uncounted : goal.returns-in-Err-clause-uncounted
returns-in-Err-clause-uncounted c = λ t most h.
    let some : 0 < length c.args.balloting.now.line.items = search rules in
    rw c.status_of.ensures (ended_stops c.args.form t _ _ _ c.in-Err.stop most h some (rw c.deref.ensures.value at c.in-Err.ensures.stop))

pub returns-in-Err-clause-of_ballots : goal.returns-in-Err-clause-of_ballots
returns-in-Err-clause-of_ballots c = rw c.status_of.ensures (line_of_ballots c.in-Err.stop _ c.in-Err.ensures.stop)

pub returns-in-Err-clause-read : goal.returns-in-Err-clause-read
returns-in-Err-clause-read c = rw c.status_of.ensures (line_unread c.in-Err.stop _ c.in-Err.ensures.stop)
