use Rattle.std.proofs.Common.{refl}
use Rattle.run_app.proofs.ModeLemmas.{nothing}
use Rattle.run_app.proofs.ResumeLemmas.{asked, no_rows_found, not_asked, unresumed_busy, unresumed_keeps, unresumed_unread, unresumed_writes}
use Rattle.run_app.proofs.resuming.answer.Goals as goal

pub returns-in-Ok-clause-ends : goal.returns-in-Ok-clause-ends
returns-in-Ok-clause-ends g c =
    let e = c.restore.ensures in
    asked c.args.form _ _ _ _ _ _ _ _ _ _ c.in-Ok.ensures.chain e.same e.stop c.write_answer.ensures.ends

pub returns-in-Ok-clause-keeps : goal.returns-in-Ok-clause-keeps
returns-in-Ok-clause-keeps g c = rw c.write_answer.ensures.keep c.in-Ok.ensures.quiet

pub returns-in-Err-clause-ends : goal.returns-in-Err-clause-ends
returns-in-Err-clause-ends g c =
    let e = c.restore.ensures in
    rw c.status_of_restore.ensures (not_asked c.args.form c.in-Err.fault _ _ _ _ _ _ _ c.in-Err.ensures.fault e.same e.stop)

pub returns-in-Err-clause-busy : goal.returns-in-Err-clause-busy
returns-in-Err-clause-busy g c = rw c.status_of_restore.ensures (unresumed_busy c.in-Err.fault)

pub returns-in-Err-clause-read : goal.returns-in-Err-clause-read
returns-in-Err-clause-read g c = rw c.status_of_restore.ensures (unresumed_unread c.in-Err.fault)

pub returns-in-Err-clause-writes : goal.returns-in-Err-clause-writes
returns-in-Err-clause-writes g c = rw c.status_of_restore.ensures (unresumed_writes c.in-Err.fault _ _)

pub returns-in-Err-clause-keeps : goal.returns-in-Err-clause-keeps
returns-in-Err-clause-keeps g c = rw c.status_of_restore.ensures (unresumed_keeps c.in-Err.fault _ _ c.in-Err.ensures.cause c.in-Err.ensures.quiet)

pub returns-in-Ok-clause-unkept : goal.returns-in-Ok-clause-unkept
returns-in-Ok-clause-unkept g c = λ off. absurd (c.in-Ok.ensures.unkept off)

pub returns-in-Err-clause-unkept : goal.returns-in-Err-clause-unkept
returns-in-Err-clause-unkept g c = rw c.status_of_restore.ensures (λ off. (no_rows_found c.in-Err.fault (c.in-Err.ensures.unkept off), nothing _ _ refl))
