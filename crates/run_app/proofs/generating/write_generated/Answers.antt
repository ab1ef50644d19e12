use Rattle.run_app.proofs.ModeLemmas.{busy_so, keep_so, read_so, writes_so, written_so}
use Rattle.run_app.proofs.generating.write_generated.Goals as goal

pub returns-clause-ends : goal.returns-clause-ends
returns-clause-ends g c = rw c.status_of_sink.ensures (written_so c.write_input.result _ _ _ c.write_input.ensures.text c.write_input.ensures.front)

pub returns-clause-busy : goal.returns-clause-busy
returns-clause-busy g c = rw c.status_of_sink.ensures (busy_so c.write_input.result)

pub returns-clause-read : goal.returns-clause-read
returns-clause-read g c = rw c.status_of_sink.ensures (read_so c.write_input.result)

pub returns-clause-keep : goal.returns-clause-keep
returns-clause-keep g c = rw c.status_of_sink.ensures (keep_so c.write_input.result)

pub returns-clause-writes : goal.returns-clause-writes
returns-clause-writes g c = rw c.status_of_sink.ensures (writes_so c.write_input.result _ _ _ c.write_input.ensures.clean c.write_input.ensures.cause c.write_input.ensures.quiet)
