use Rattle.std.proofs.Common.{inl, inr, refl, sym, ap, ◌∙◌, true≢false, Ok}
use Rattle.run_app.{specs.Kept.on_none, proofs.{DriveLemmas.{begun_busy, begun_unkept}, KeepLemmas.begins_on_none}}
use Rattle.run_app.proofs.ModeLemmas.{nothing_done, rows_left}
use Rattle.run_app.proofs.running.replay.Goals as goal

pub drive-requires : goal.drive-requires
drive-requires g c =
    let e = c.has_rows.ensures in
    record { every = c.requires.every; kept = (on_none _, begins_on_none _ _ _ _ (e.none (c.in-Ok-false.is ∙ ap Ok c.in-Ok-false.field-0-test)) e.same c.in-Ok-false.ensures.told e.settled) }

pub returns-in-Ok-false-clause-ends : goal.returns-in-Ok-false-clause-ends
returns-in-Ok-false-clause-ends g c =
    let e = c.has_rows.ensures in
    inl (c.drive.ensures.ends (on_none _) (begins_on_none _ _ _ _ (e.none (c.in-Ok-false.is ∙ ap Ok c.in-Ok-false.field-0-test)) e.same c.in-Ok-false.ensures.told e.settled))

pub returns-in-Ok-true-clause-ends : goal.returns-in-Ok-true-clause-ends
returns-in-Ok-true-clause-ends g c =
    let e = c.has_rows.ensures in
    inr ((refl, record { some = e.some (c.in-Ok-true.is ∙ ap Ok c.in-Ok-true.field-0-test); told = c.in-Ok-true.ensures.told }), nothing_done _ _, rows_left _ _ _ _ _ e.same e.stop)

pub returns-in-Err-Failed-clause-ends : goal.returns-in-Err-Failed-clause-ends
returns-in-Err-Failed-clause-ends g c =
    let e = c.has_rows.ensures in
    inr (tt, nothing_done _ _, rows_left _ _ _ _ _ e.same e.stop)

pub returns-in-Err-NoMemory-clause-ends : goal.returns-in-Err-NoMemory-clause-ends
returns-in-Err-NoMemory-clause-ends g c =
    let e = c.has_rows.ensures in
    inr (tt, nothing_done _ _, rows_left _ _ _ _ _ e.same e.stop)

pub returns-in-Ok-false-clause-unkept : goal.returns-in-Ok-false-clause-unkept
returns-in-Ok-false-clause-unkept g c = λ off. begun_unkept c.drive.result c.drive.ensures.begun

pub returns-in-Ok-true-clause-unkept : goal.returns-in-Ok-true-clause-unkept
returns-in-Ok-true-clause-unkept g c =
    let e = c.has_rows.ensures in
    λ off _. absurd (true≢false (sym (e.kept (c.in-Ok-true.is ∙ ap Ok c.in-Ok-true.field-0-test)) ∙ off))

pub returns-in-Ok-false-clause-busy : goal.returns-in-Ok-false-clause-busy
returns-in-Ok-false-clause-busy g c = begun_busy c.drive.result c.drive.ensures.begun

pub returns-in-Ok-false-clause-keeps : goal.returns-in-Ok-false-clause-keeps
returns-in-Ok-false-clause-keeps g c = rw (← c.in-Ok-false.ensures.quiet) c.drive.ensures.keeps
