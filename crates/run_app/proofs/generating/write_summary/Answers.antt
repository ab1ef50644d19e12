use Rattle.std.proofs.Common.{◌≡◌, ◌∙◌, ap, sym, subst}
use Rattle.run_app.specs.{Machine.not_applied, Modes.Tries, Ending.status_of}
use Rattle.run_app.proofs.ModeLemmas.{busy_so, keep_so, no_block, read_so, stopped_so, told_otherwise, tried, tried_at_block, tried_without_memory, writes_so, written_so}
use Rattle.run_app.proofs.generating.write_summary.Goals as goal

pub returns-in-Ok-clause-ends : goal.returns-in-Ok-clause-ends
returns-in-Ok-clause-ends g c = λ due made failed.
    tried due _ _ c.in-Ok.summary.items _ (rw c.in-Ok.is at made)
    (rw (c.status_of_sink.ensures, ← c.deref.ensures.value) (written_so c.write_text.result _ _ _ c.write_text.ensures.text c.write_text.ensures.front))

pub returns-in-Ok-clause-stopped : goal.returns-in-Ok-clause-stopped
returns-in-Ok-clause-stopped g c = λ line fault is. told_otherwise c.args.tried _ _ _ c.in-Ok.is is

pub returns-in-Ok-clause-busy : goal.returns-in-Ok-clause-busy
returns-in-Ok-clause-busy g c = rw c.status_of_sink.ensures (busy_so c.write_text.result)

pub returns-in-Ok-clause-read : goal.returns-in-Ok-clause-read
returns-in-Ok-clause-read g c = rw c.status_of_sink.ensures (read_so c.write_text.result)

pub returns-in-Ok-clause-keep : goal.returns-in-Ok-clause-keep
returns-in-Ok-clause-keep g c = rw c.status_of_sink.ensures (keep_so c.write_text.result)

pub returns-in-Ok-clause-writes : goal.returns-in-Ok-clause-writes
returns-in-Ok-clause-writes g c = rw c.status_of_sink.ensures (writes_so c.write_text.result _ _ _ c.write_text.ensures.clean c.write_text.ensures.cause c.write_text.ensures.quiet)

pub returns-in-Err-Block-clause-ends : goal.returns-in-Err-Block-clause-ends
returns-in-Err-Block-clause-ends g c = λ due made failed.
    let w = g.K.Sink.written c.args.sink.now in
    let ended : c.status_of.result ≡ status_of (not_applied c.in-Err-Block.line c.in-Err-Block.fault) = c.status_of.ensures ∙ ap status_of c.not_applied.ensures in
    subst (Tries due w w) (sym ended) (tried_at_block due w _ c.in-Err-Block.line c.in-Err-Block.fault c.in-Err-Block.field-0-is (rw c.in-Err-Block.is at failed))

pub returns-in-Err-Block-clause-stopped : goal.returns-in-Err-Block-clause-stopped
returns-in-Err-Block-clause-stopped g c = λ line fault is.
    stopped_so c.args.tried _ c.in-Err-Block.line line c.in-Err-Block.fault fault c.status_of.result c.in-Err-Block.is c.in-Err-Block.field-0-is is (c.status_of.ensures ∙ ap status_of c.not_applied.ensures)

pub returns-in-Err-NoMemory-clause-ends : goal.returns-in-Err-NoMemory-clause-ends
returns-in-Err-NoMemory-clause-ends g c = λ due made failed. tried_without_memory due (g.K.Sink.written c.args.sink.now)

pub returns-in-Err-NoMemory-clause-stopped : goal.returns-in-Err-NoMemory-clause-stopped
returns-in-Err-NoMemory-clause-stopped g c = λ line fault is. no_block c.args.tried _ line fault _ c.in-Err-NoMemory.is c.in-Err-NoMemory.field-0-is is
