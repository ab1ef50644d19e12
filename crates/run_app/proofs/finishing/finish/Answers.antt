use Rattle.run_app.proofs.CountLemmas.{begun_at_end, end_keeps, end_reads, end_undone, missing_so}
use Rattle.run_app.proofs.PartLemmas.{done_status, end_status}
use Rattle.run_app.proofs.finishing.finish.Goals as goal

pub returns-in-Ok-clause-status : goal.returns-in-Ok-clause-status
returns-in-Ok-clause-status g c = λ s stood. done_status c.args.form s _ _ (c.in-Ok.ensures.written s stood)

pub returns-in-Err-clause-status : goal.returns-in-Err-clause-status
returns-in-Err-clause-status g c = λ s stood. rw c.status_at_end.ensures (end_status c.args.form s _ _ c.in-Err.stop (c.in-Err.ensures.stops s stood))

pub returns-in-Err-clause-begun : goal.returns-in-Err-clause-begun
returns-in-Err-clause-begun g c = rw c.status_at_end.ensures (begun_at_end c.in-Err.stop)

pub returns-in-Err-clause-read : goal.returns-in-Err-clause-read
returns-in-Err-clause-read g c = rw c.status_at_end.ensures (end_reads c.in-Err.stop)

pub returns-in-Err-clause-keep : goal.returns-in-Err-clause-keep
returns-in-Err-clause-keep g c = rw c.status_at_end.ensures (end_keeps c.in-Err.stop)

pub returns-in-Ok-clause-missing : goal.returns-in-Ok-clause-missing
returns-in-Ok-clause-missing g c = λ none. let never = c.in-Ok.ensures.missing none in absurd cc

pub returns-in-Err-clause-missing : goal.returns-in-Err-clause-missing
returns-in-Err-clause-missing g c = λ none. rw c.status_at_end.ensures (missing_so c.in-Err.stop 1 _ (c.in-Err.ensures.missing none))

pub returns-in-Ok-clause-writes : goal.returns-in-Ok-clause-writes
returns-in-Ok-clause-writes g c = (c.in-Ok.ensures.writes.0, λ e. c.in-Ok.ensures.writes.1)

pub returns-in-Err-clause-writes : goal.returns-in-Err-clause-writes
returns-in-Err-clause-writes g c = rw c.status_at_end.ensures (c.in-Err.ensures.writes.0, λ e. absurd (end_undone c.in-Err.stop e))
