use Rattle.std.proofs.Common.{refl}
use Rattle.run_app.proofs.ModeLemmas.{busy_so, keep_so, read_so, some_otherwise, told_otherwise, writes_so, written_so}
use Rattle.run_app.proofs.ResumeLemmas.{answered_none, answered_some, answered_without_memory}
use Rattle.run_app.proofs.resuming.write_told.Goals as goal

pub returns-in-Ok-Some-clause-ends : goal.returns-in-Ok-Some-clause-ends
returns-in-Ok-Some-clause-ends g c = λ due is.
    answered_some due c.in-Ok-Some.text.items _ _ _ (rw (c.in-Ok-Some.is, c.in-Ok-Some.field-0-is) at is)
    (rw (c.status_of_sink.ensures, ← c.deref.ensures.value) (written_so c.write_text.result _ _ _ c.write_text.ensures.text c.write_text.ensures.front))

pub returns-in-Ok-Some-clause-busy : goal.returns-in-Ok-Some-clause-busy
returns-in-Ok-Some-clause-busy g c = rw c.status_of_sink.ensures (busy_so c.write_text.result)

pub returns-in-Ok-Some-clause-read : goal.returns-in-Ok-Some-clause-read
returns-in-Ok-Some-clause-read g c = rw c.status_of_sink.ensures (read_so c.write_text.result)

pub returns-in-Ok-Some-clause-keep : goal.returns-in-Ok-Some-clause-keep
returns-in-Ok-Some-clause-keep g c = rw c.status_of_sink.ensures (keep_so c.write_text.result)

pub returns-in-Ok-Some-clause-writes : goal.returns-in-Ok-Some-clause-writes
returns-in-Ok-Some-clause-writes g c = rw c.status_of_sink.ensures (writes_so c.write_text.result _ _ _ c.write_text.ensures.clean c.write_text.ensures.cause c.write_text.ensures.quiet)

pub returns-in-Ok-None-clause-ends : goal.returns-in-Ok-None-clause-ends
returns-in-Ok-None-clause-ends g c = λ due is. answered_none due _ (rw (c.in-Ok-None.is, c.in-Ok-None.field-0-is) at is)

pub returns-in-Err-clause-ends : goal.returns-in-Err-clause-ends
returns-in-Err-clause-ends g c = λ due is. answered_without_memory due _

pub returns-in-Ok-Some-clause-none : goal.returns-in-Ok-Some-clause-none
returns-in-Ok-Some-clause-none g c = λ is. some_otherwise c.args.told _ _ _ c.in-Ok-Some.is c.in-Ok-Some.field-0-is is

pub returns-in-Ok-None-clause-none : goal.returns-in-Ok-None-clause-none
returns-in-Ok-None-clause-none g c = λ is. refl

pub returns-in-Err-clause-none : goal.returns-in-Err-clause-none
returns-in-Err-clause-none g c = λ is. told_otherwise c.args.told _ _ _ is c.in-Err.is
