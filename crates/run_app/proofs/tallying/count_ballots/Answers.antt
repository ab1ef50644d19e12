use Rattle.std.proofs.Common.{Err, ap, refl}
use Rattle.run_app.proofs.{CountLemmas.{moved_read, moved_write, unkept}, ModeLemmas.quiet_at}
use Rattle.run_app.proofs.TallyLemmas.{counted_all, counted_none, uncounted_busy, uncounted_kept, uncounted_undone, uncounted_unwritten}
use Rattle.run_app.proofs.tallying.count_ballots.Goals as goal

pub returns-in-Ok-clause-counts : goal.returns-in-Ok-clause-counts
returns-in-Ok-clause-counts g c = λ p sound s. counted_all c.args.form _ _ _ _ _ _ _ c.in-Ok.ensures.kept (c.write_tally.ensures.ends p sound s)

pub returns-in-Ok-clause-reads : goal.returns-in-Ok-clause-reads
returns-in-Ok-clause-reads g c = rw c.write_tally.ensures.read c.in-Ok.ensures.quiet

pub returns-clause-counts : goal.returns-clause-counts
returns-clause-counts g c = λ p sound s. counted_none c.args.form _ _ _ _ _ c.in-Err.ensures.uncounted

pub returns-clause-busy : goal.returns-clause-busy
returns-clause-busy g c = uncounted_busy _ c.in-Err.ensures.of_ballots

pub returns-clause-keep : goal.returns-clause-keep
returns-clause-keep g c = unkept c.in-Err.status (uncounted_kept c.in-Err.status c.in-Err.ensures.of_ballots)

pub returns-clause-reads : goal.returns-clause-reads
returns-clause-reads g c = moved_read c.in-Err.status _ _ (λ e. c.in-Err.ensures.cause (ap Err e)) c.in-Err.ensures.quiet

pub returns-clause-writes : goal.returns-clause-writes
returns-clause-writes g c =
    let of = c.in-Err.ensures.of_ballots in
    (moved_write c.in-Err.status _ _ (λ e. absurd (uncounted_unwritten c.in-Err.status of e)) (quiet_at c.in-Err.status _ refl), λ e. absurd (uncounted_undone c.in-Err.status of e))
