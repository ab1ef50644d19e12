use Rattle.run_app.proofs.ModeLemmas.{busy_so, keep_so, read_so, writes_so, written_so}
use Rattle.run_app.proofs.TallyLemmas.{unwritten, written_as}
use Rattle.run_app.proofs.tallying.write_tally.Goals as goal

pub returns-in-Ok-clause-ends : goal.returns-in-Ok-clause-ends
returns-in-Ok-clause-ends g c = λ p sound s.
    written_as c.in-Ok.text.items _ _ _ _ (c.in-Ok.ensures.text p sound s)
    (rw (c.status_of_sink.ensures, ← c.deref.ensures.value) (written_so c.write_text.result _ _ _ c.write_text.ensures.text c.write_text.ensures.front))

pub returns-in-Ok-clause-busy : goal.returns-in-Ok-clause-busy
returns-in-Ok-clause-busy g c = rw c.status_of_sink.ensures (busy_so c.write_text.result)

pub returns-in-Ok-clause-read : goal.returns-in-Ok-clause-read
returns-in-Ok-clause-read g c = rw c.status_of_sink.ensures (read_so c.write_text.result)

pub returns-in-Ok-clause-keep : goal.returns-in-Ok-clause-keep
returns-in-Ok-clause-keep g c = rw c.status_of_sink.ensures (keep_so c.write_text.result)

pub returns-in-Ok-clause-writes : goal.returns-in-Ok-clause-writes
returns-in-Ok-clause-writes g c = rw c.status_of_sink.ensures (writes_so c.write_text.result _ _ _ c.write_text.ensures.clean c.write_text.ensures.cause c.write_text.ensures.quiet)

pub returns-in-Err-clause-ends : goal.returns-in-Err-clause-ends
returns-in-Err-clause-ends g c = λ p sound s. unwritten _ _
