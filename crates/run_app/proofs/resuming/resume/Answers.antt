use Rattle.std.proofs.Common.{inl, inr, refl, ap, Err}
use Rattle.run_app.{specs.Resumes.status_of_restore, proofs.{CountLemmas.quiet_read, DriveLemmas.begun_busy}}
use Rattle.run_app.proofs.{PartLemmas.rose_later, ModeLemmas.nothing_done}
use Rattle.run_app.proofs.ResumeLemmas.{all_taken, each_changes, leads_first, never_none, no_rows_found, not_brought, not_resumed, resumed_first, unresumed_busy, unresumed_keeps, unresumed_unread, unresumed_writes, went_on}
use Rattle.run_app.proofs.resuming.resume.Goals as goal

pub commit_migration-requires-clause-ordinary : goal.commit_migration-requires-clause-ordinary
commit_migration-requires-clause-ordinary g c =
    let e = c.restore_with_changes.ensures in
    rw c.deref.ensures.value (all_taken c.args.form _ _ _ _ _ c.in-Ok.ensures.restored e.same)

pub commit_migration-requires-clause-changing : goal.commit_migration-requires-clause-changing
commit_migration-requires-clause-changing g c =
    let e = c.restore_with_changes.ensures in
    rw c.deref.ensures.value (each_changes c.args.form _ _ _ _ _ c.in-Ok.ensures.restored e.same)

pub drive-requires : goal.drive-requires
drive-requires g c =
    let e = c.restore_with_changes.ensures in
    let commits = rw c.deref.ensures.value at c.in-Ok-commit_migration.ensures.commits in
    record { every = c.requires.every; kept = (_, resumed_first c.args.form _ _ _ _ _ c.in-Ok.ensures.restored e.same _ _ _ _ e.settled commits) }

pub returns-in-Ok-commit_migration-clause-ends : goal.returns-in-Ok-commit_migration-clause-ends
returns-in-Ok-commit_migration-clause-ends g c =
    let e = c.restore_with_changes.ensures in
    let commits = rw c.deref.ensures.value at c.in-Ok-commit_migration.ensures.commits in
    inl (went_on c.args.form _ _ _ _ _ c.in-Ok.ensures.restored e.same _ _ _ _ e.settled commits c.args.every _ _ _ _ _ _ _ _ c.drive.ensures.honest c.commit_migration.ensures.honest c.drive.ensures.ends)

pub returns-in-Err-Failed-clause-ends : goal.returns-in-Err-Failed-clause-ends
returns-in-Err-Failed-clause-ends g c =
    let e = c.restore_with_changes.ensures in
    let commits = rw c.deref.ensures.value at c.in-Err-Failed.ensures.commits in
    let none = rw c.deref.ensures.value at c.in-Err-Failed.ensures.none in
    not_brought c.args.form _ _ _ _ _ c.in-Ok.ensures.restored e.same _ _ _ _ c.args.every _ _ _ _ _ (inl refl) (never_none _ _ none) (commits _ (leads_first c.args.form _ _ _ _ _ c.in-Ok.ensures.restored e.same)) e.stop

pub returns-clause-ends : goal.returns-clause-ends
returns-clause-ends g c =
    let e = c.restore_with_changes.ensures in
    let commits = rw c.deref.ensures.value at c.in-Err-NoMemory.ensures.commits in
    let none = rw c.deref.ensures.value at c.in-Err-NoMemory.ensures.none in
    not_brought c.args.form _ _ _ _ _ c.in-Ok.ensures.restored e.same _ _ _ _ c.args.every _ _ _ _ _ (inr refl) (never_none _ _ none) (commits _ (leads_first c.args.form _ _ _ _ _ c.in-Ok.ensures.restored e.same)) e.stop

pub returns-in-Err-clause-ends : goal.returns-in-Err-clause-ends
returns-in-Err-clause-ends g c =
    let e = c.restore_with_changes.ensures in
    rw c.status_of_restore.ensures (not_resumed c.args.form c.args.every c.in-Err.fault _ _ _ _ _ _ _ c.in-Err.ensures.fault e.same e.stop)

pub returns-in-Err-clause-busy : goal.returns-in-Err-clause-busy
returns-in-Err-clause-busy g c = rw c.status_of_restore.ensures (unresumed_busy c.in-Err.fault)

pub returns-in-Err-clause-reads : goal.returns-in-Err-clause-reads
returns-in-Err-clause-reads g c = rw c.status_of_restore.ensures (quiet_read c.args.every (status_of_restore c.in-Err.fault) _ _ (unresumed_unread c.in-Err.fault) refl)

pub returns-in-Err-clause-writes : goal.returns-in-Err-clause-writes
returns-in-Err-clause-writes g c = rw c.status_of_restore.ensures (unresumed_writes c.in-Err.fault _ _)

pub returns-in-Err-clause-keeps : goal.returns-in-Err-clause-keeps
returns-in-Err-clause-keeps g c = rw c.status_of_restore.ensures (unresumed_keeps c.in-Err.fault _ _ c.in-Err.ensures.cause c.in-Err.ensures.quiet)

pub returns-in-Ok-commit_migration-clause-unkept : goal.returns-in-Ok-commit_migration-clause-unkept
returns-in-Ok-commit_migration-clause-unkept g c = λ off. absurd (c.in-Ok.ensures.unkept off)

pub returns-in-Err-Failed-clause-unkept : goal.returns-in-Err-Failed-clause-unkept
returns-in-Err-Failed-clause-unkept g c = λ off. absurd (c.in-Ok.ensures.unkept off)

pub returns-clause-unkept : goal.returns-clause-unkept
returns-clause-unkept g c = λ off. absurd (c.in-Ok.ensures.unkept off)

pub returns-in-Err-clause-unkept : goal.returns-in-Err-clause-unkept
returns-in-Err-clause-unkept g c = rw c.status_of_restore.ensures (λ off. (no_rows_found c.in-Err.fault (c.in-Err.ensures.unkept off), nothing_done _ _))

pub returns-in-Ok-commit_migration-clause-busy : goal.returns-in-Ok-commit_migration-clause-busy
returns-in-Ok-commit_migration-clause-busy g c = begun_busy c.drive.result c.drive.ensures.begun

pub returns-in-Ok-commit_migration-clause-keeps : goal.returns-in-Ok-commit_migration-clause-keeps
returns-in-Ok-commit_migration-clause-keeps g c = rw (← c.in-Ok.ensures.quiet, ← c.in-Ok-commit_migration.ensures.quiet) c.drive.ensures.keeps

pub returns-in-Err-Failed-clause-keeps : goal.returns-in-Err-Failed-clause-keeps
returns-in-Err-Failed-clause-keeps g c = rose_later _ _ _ c.restore_with_changes.ensures.later (c.in-Err-Failed.ensures.cause (ap Err c.in-Err-Failed.field-0-is))

pub returns-in-Ok-commit_migration-clause-honest : goal.returns-in-Ok-commit_migration-clause-honest
returns-in-Ok-commit_migration-clause-honest g c = λ h.
    c.restore_with_changes.ensures.honest (c.commit_migration.ensures.honest (c.drive.ensures.honest h))
