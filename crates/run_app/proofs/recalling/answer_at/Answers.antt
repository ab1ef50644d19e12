use Rattle.std.proofs.Common.{inl, inr, refl}
use Rattle.run_app.proofs.ModeLemmas.{nothing}
use Rattle.run_app.proofs.PastLemmas.{asked_at, chain_unkept, past_busy, past_unkept, past_unread, past_writes, refused_chain, refused_past}
use Rattle.run_app.proofs.ResumeLemmas.{unresumed_busy, unresumed_unread, unresumed_writes}
use Rattle.run_app.proofs.recalling.answer_at.Goals as goal

-- ---- rows that tell nothing of the height

pub returns-in-Err-clause-answers : goal.returns-in-Err-clause-answers
returns-in-Err-clause-answers g c = rw c.status_of_past.ensures (inr (refused_past c.args.height _ c.in-Err.fault c.in-Err.ensures, nothing _ _ refl))

pub returns-in-Err-clause-busy : goal.returns-in-Err-clause-busy
returns-in-Err-clause-busy g c = rw c.status_of_past.ensures (past_busy c.in-Err.fault)

pub returns-in-Err-clause-read : goal.returns-in-Err-clause-read
returns-in-Err-clause-read g c = rw c.status_of_past.ensures (past_unread c.in-Err.fault)

pub returns-in-Err-clause-keep : goal.returns-in-Err-clause-keep
returns-in-Err-clause-keep g c = rw c.status_of_past.ensures (past_unkept c.in-Err.fault)

pub returns-in-Err-clause-writes : goal.returns-in-Err-clause-writes
returns-in-Err-clause-writes g c = rw c.status_of_past.ensures (past_writes c.in-Err.fault _ _)

-- ---- past rows

pub returns-in-Ok-chain_of_rows-clause-answers : goal.returns-in-Ok-chain_of_rows-clause-answers
returns-in-Ok-chain_of_rows-clause-answers g c =
    let chain = rw c.deref.ensures.value at c.in-Ok-chain_of_rows.ensures.chain in
    inl (asked_at c.args.form c.args.height c.args.what.now _ _ _ _ _ c.write_answer.result c.in-Ok.ensures chain c.write_answer.ensures.ends)

pub returns-clause-answers : goal.returns-clause-answers
returns-clause-answers g c =
    let none = rw c.deref.ensures.value at c.in-Err-chain_of_rows.ensures.fault in
    rw c.status_of_restore.ensures (inr (refused_chain c.args.height _ _ c.in-Err-chain_of_rows.fault c.in-Ok.ensures none, nothing _ _ refl))

pub returns-clause-busy : goal.returns-clause-busy
returns-clause-busy g c = rw c.status_of_restore.ensures (unresumed_busy c.in-Err-chain_of_rows.fault)

pub returns-clause-read : goal.returns-clause-read
returns-clause-read g c = rw c.status_of_restore.ensures (unresumed_unread c.in-Err-chain_of_rows.fault)

pub returns-clause-keep : goal.returns-clause-keep
returns-clause-keep g c = rw c.status_of_restore.ensures (chain_unkept _ c.in-Err-chain_of_rows.fault c.in-Err-chain_of_rows.ensures.fault)

pub returns-clause-writes : goal.returns-clause-writes
returns-clause-writes g c = rw c.status_of_restore.ensures (unresumed_writes c.in-Err-chain_of_rows.fault _ _)
