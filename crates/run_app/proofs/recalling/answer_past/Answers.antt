use Rattle.std.proofs.Common.{inr, map, refl}
use Rattle.base_io.specs.Changes.{pair_of}
use Rattle.run_app.proofs.{ModeLemmas.{nothing, rows_left}, PastLemmas.{not_loaded, past_loaded}}
use Rattle.run_app.proofs.ResumeLemmas.{no_rows_found, unresumed_busy, unresumed_keeps, unresumed_unread, unresumed_writes}
use Rattle.run_app.proofs.recalling.answer_past.Goals as goal

-- ---- rows that were not loaded, or are none

pub returns-in-Err-clause-ends : goal.returns-in-Err-clause-ends
returns-in-Err-clause-ends g c =
    let e = c.load_rows.ensures in
    rw c.status_of_restore.ensures
    (rows_left _ _ _ _ _ e.same e.stop, inr (not_loaded c.args.height c.in-Err.fault _ _ _ c.in-Err.ensures.unjudged c.in-Err.ensures.fault, nothing _ _ refl))

pub returns-in-Err-clause-busy : goal.returns-in-Err-clause-busy
returns-in-Err-clause-busy g c = rw c.status_of_restore.ensures (unresumed_busy c.in-Err.fault)

pub returns-in-Err-clause-read : goal.returns-in-Err-clause-read
returns-in-Err-clause-read g c = rw c.status_of_restore.ensures (unresumed_unread c.in-Err.fault)

pub returns-in-Err-clause-unkept : goal.returns-in-Err-clause-unkept
returns-in-Err-clause-unkept g c = rw c.status_of_restore.ensures (λ off. (no_rows_found c.in-Err.fault (c.in-Err.ensures.unkept off), nothing _ _ refl))

pub returns-in-Err-clause-writes : goal.returns-in-Err-clause-writes
returns-in-Err-clause-writes g c = rw c.status_of_restore.ensures (unresumed_writes c.in-Err.fault _ _)

pub returns-in-Err-clause-keeps : goal.returns-in-Err-clause-keeps
returns-in-Err-clause-keeps g c = rw c.status_of_restore.ensures (unresumed_keeps c.in-Err.fault _ _ c.in-Err.ensures.cause c.in-Err.ensures.quiet)

-- ---- rows that are asked

pub returns-clause-ends : goal.returns-clause-ends
returns-clause-ends g c =
    let e = c.load_rows.ensures in
    let answers = rw c.deref.ensures.value at c.answer_at.ensures.answers in (
      rows_left _ _ _ _ _ e.same e.stop,
      past_loaded _ _ _ (map pair_of c.in-Ok.rows.items) c.in-Ok.ensures.rows e.ascending c.in-Ok.ensures.told c.args.form c.args.height c.args.what.now _ _ c.answer_at.result c.in-Ok.ensures.some answers,
    )

pub returns-clause-unkept : goal.returns-clause-unkept
returns-clause-unkept g c = λ off. absurd (c.in-Ok.ensures.unkept off)

pub returns-clause-keeps : goal.returns-clause-keeps
returns-clause-keeps g c = rw c.answer_at.ensures.keep c.in-Ok.ensures.quiet
