use Rattle.std.proofs.Common.{◌∙◌, Err, ap}
use Rattle.run_app.proofs.CheckLemmas.{done_ends, may_end_busy, may_end_kept, may_end_undone, unflushed_ends}
use Rattle.run_app.proofs.CountLemmas.{moved_read, moved_write, unkept}
use Rattle.run_app.proofs.checking.check_all.Goals as goal

pub returns-in-Err-clause-busy : goal.returns-in-Err-clause-busy
returns-in-Err-clause-busy g c = may_end_busy c.in-Err.status c.in-Err.ensures.may

pub returns-in-Err-clause-keep : goal.returns-in-Err-clause-keep
returns-in-Err-clause-keep g c = unkept c.in-Err.status (may_end_kept c.in-Err.status c.in-Err.ensures.may)

pub returns-in-Err-clause-reads : goal.returns-in-Err-clause-reads
returns-in-Err-clause-reads g c = moved_read c.in-Err.status _ _ (λ e. c.in-Err.ensures.read_cause (ap Err e)) c.in-Err.ensures.read_quiet

pub returns-in-Err-clause-writes : goal.returns-in-Err-clause-writes
returns-in-Err-clause-writes g c = (
  moved_write c.in-Err.status _ _ (λ e. c.in-Err.ensures.write_cause (ap Err e)) c.in-Err.ensures.write_quiet,
  λ e. absurd (may_end_undone c.in-Err.status c.in-Err.ensures.may e),
)

pub returns-in-Ok-clause-ends : goal.returns-in-Ok-clause-ends
returns-in-Ok-clause-ends g c = done_ends c.args.form _ _ _ _ _ c.in_default.ensures.all c.flush.ensures.same

pub returns-in-Ok-clause-writes : goal.returns-in-Ok-clause-writes
returns-in-Ok-clause-writes g c = (c.in-Ok.ensures.quiet ∙ c.in_default.ensures.write_quiet, λ e. c.in-Ok.ensures.ok)

pub returns-in-Err-flush-clause-ends : goal.returns-in-Err-flush-clause-ends
returns-in-Err-flush-clause-ends g c = unflushed_ends c.args.form _ _ _ _ _ c.in_default.ensures.all c.flush.ensures.same
