use Rattle.std.proofs.Common.{◌∙◌, ◌<◌, ℕ, arith}
use Rattle.run_app.specs.Parts.{Stands}
use Rattle.run_app.proofs.CountLemmas.{begun_by, lost_read, part_keeps, part_undone, part_writes, paused_begun, paused_keeps, paused_undone, paused_writes, quiet_read, still_read, stopped_begun, stopped_undone}
use Rattle.run_app.proofs.{DriveLemmas.{ends_from, pause_ends, pause_first, pause_lost}, PartLemmas.finish_ends}
use Rattle.run_app.proofs.WaitLemmas.{all_written, stands_more}
use Rattle.run_app.proofs.running.drive.Goals as goal

pub take_all-requires-clause-kept : goal.take_all-requires-clause-kept
take_all-requires-clause-kept g c = c.requires.kept

pub returns-in-Err-clause-ends : goal.returns-in-Err-clause-ends
returns-in-Err-clause-ends g c = c.in-Err.ensures.ends

pub release-requires : goal.release-requires
release-requires g c =
    let r = c.requires.kept in
    let p = pause_first c.args.form _ _ (λ lines last. Stands c.args.form c.args.every r.0 lines last c.take_all.new.progress.number c.take_all.new.progress.chain c.take_all.new.progress.waiting c.take_all.new.progress.held.items (g.K.Sink.written c.args.sink.now) (g.K.Sink.written c.take_all.new.sink) (g.D.Keeper.rows c.take_all.new.keeper) (g.D.Keeper.is_honest c.take_all.new.keeper) (g.D.Keeper.may_leave c.take_all.new.keeper)) c.in-Ok.ending (c.in-Ok.ensures.ends r.0 r.1) in
    record { stands = (c.args.form, c.args.every, r.0, p.0, p.1, _, stands_more c.args.form c.args.every r.0 p.0 p.1 _ _ _ _ _ _ _ _ _ p.2) }

pub returns-in-Err-release-clause-ends : goal.returns-in-Err-release-clause-ends
returns-in-Err-release-clause-ends g c = λ b k.
    rw c.status_of.ensures (pause_lost c.args.form c.args.every b.first _ _ _ _ _ _ c.in-Err-release.stop c.in-Ok.ending (c.in-Ok.ensures.ends b k) (λ lines end s. c.in-Err-release.ensures.stops c.args.form c.args.every b lines end _ (stands_more c.args.form c.args.every b lines end _ _ _ _ _ _ _ _ _ s)))

pub returns-in-Before-clause-ends : goal.returns-in-Before-clause-ends
returns-in-Before-clause-ends g c = λ b k.
    let p = rw c.in-Before.is at (c.in-Ok.ensures.ends b k) in
    pause_ends c.args.form c.args.every b.first _ _ _ _ _ _ c.in-Before.status p (λ lines end s. all_written c.args.form 1 b lines end _ _ _ _ _ _ _ _ _ (c.in_default.ensures.ok c.args.form c.args.every b lines end _ (stands_more c.args.form c.args.every b lines end _ _ _ _ _ _ _ _ _ s)))

pub returns-clause-ends : goal.returns-clause-ends
returns-clause-ends g c = λ b k.
    let p = rw c.in-End.is at (c.in-Ok.ensures.ends b k) in
    let s = c.in_default.ensures.ok c.args.form c.args.every b _ p.3.2 _ (stands_more c.args.form c.args.every b _ p.3.2 _ _ _ _ _ _ _ _ _ p.3.3) in
    let a = all_written c.args.form 1 b _ p.3.2 _ _ _ _ _ _ _ _ _ s in
    ends_from c.args.form c.args.every b.first _ _ _ _ _ p.0 _ c.finish.result (rw p.3.0 at p.2) (finish_ends c.args.form c.args.every _ b.first p.3.2 p.0 a.0 p.3.1 a.2 a.3 _ _ _ c.finish.result a.1 (c.finish.ensures.status p.3.2 s.kept.stands))

pub returns-in-Err-clause-begun : goal.returns-in-Err-clause-begun
returns-in-Err-clause-begun g c = stopped_begun c.in-Err.status c.in-Err.ensures.stopped

pub returns-in-Err-release-clause-begun : goal.returns-in-Err-release-clause-begun
returns-in-Err-release-clause-begun g c = rw c.status_of.ensures (begun_by c.in-Err-release.stop)

pub returns-in-Before-clause-begun : goal.returns-in-Before-clause-begun
returns-in-Before-clause-begun g c = paused_begun c.in-Before.status (rw c.in-Before.is at c.in-Ok.ensures.stopped)

pub returns-in-Err-clause-reads : goal.returns-in-Err-clause-reads
returns-in-Err-clause-reads g c = still_read c.args.every c.in-Err.status _ _ c.in-Err.ensures.reads

more_than_one : (waiting every : ℕ) → 0 < waiting → waiting < every → 1 < every
more_than_one waiting every some few = omega (arith, some, few)

pub returns-in-Err-release-clause-reads : goal.returns-in-Err-release-clause-reads
returns-in-Err-release-clause-reads g c =
    let r = c.requires.kept in
    let p = pause_first c.args.form _ _ (λ lines last. Stands c.args.form c.args.every r.0 lines last c.take_all.new.progress.number c.take_all.new.progress.chain c.take_all.new.progress.waiting c.take_all.new.progress.held.items (g.K.Sink.written c.args.sink.now) (g.K.Sink.written c.take_all.new.sink) (g.D.Keeper.rows c.take_all.new.keeper) (g.D.Keeper.is_honest c.take_all.new.keeper) (g.D.Keeper.may_leave c.take_all.new.keeper)) c.in-Ok.ending (c.in-Ok.ensures.ends r.0 r.1) in
    rw c.status_of.ensures (lost_read c.args.every c.in-Err-release.stop c.in-Ok.ending _ _ c.in-Err-release.ensures.loss (more_than_one _ _ c.in-Err-release.ensures.some p.2.waits.few) c.in-Ok.ensures.reads)

pub returns-in-Before-clause-reads : goal.returns-in-Before-clause-reads
returns-in-Before-clause-reads g c = still_read c.args.every c.in-Before.status _ _ (rw c.in-Before.is at c.in-Ok.ensures.reads)

pub returns-clause-reads : goal.returns-clause-reads
returns-clause-reads g c = quiet_read c.args.every c.finish.result _ _ c.finish.ensures.read (rw c.in-End.is at c.in-Ok.ensures.reads)

pub returns-in-Err-clause-writes : goal.returns-in-Err-clause-writes
returns-in-Err-clause-writes g c = (c.in-Err.ensures.writes, λ e. absurd (stopped_undone c.in-Err.status c.in-Err.ensures.stopped e))

pub returns-in-Err-release-clause-writes : goal.returns-in-Err-release-clause-writes
returns-in-Err-release-clause-writes g c =
    rw (c.status_of.ensures, ← c.in-Ok.ensures.writes) (part_writes (Unit {0}) c.in-Err-release.stop _ _ c.in-Err-release.ensures.writes, λ e. absurd (part_undone c.in-Err-release.stop e))

pub returns-in-Before-clause-writes : goal.returns-in-Before-clause-writes
returns-in-Before-clause-writes g c =
    let pause = rw c.in-Before.is at c.in-Ok.ensures.stopped in
    (rw (paused_writes c.in-Before.status pause) (c.in_default.ensures.writes ∙ c.in-Ok.ensures.writes), λ e. absurd (paused_undone c.in-Before.status pause e))

pub returns-clause-writes : goal.returns-clause-writes
returns-clause-writes g c = rw (← c.in-Ok.ensures.writes, ← c.in_default.ensures.writes) c.finish.ensures.writes

pub returns-in-Err-release-clause-keeps : goal.returns-in-Err-release-clause-keeps
returns-in-Err-release-clause-keeps g c = rw (c.status_of.ensures, ← c.in-Ok.ensures.keeps) (part_keeps (Unit {0}) c.in-Err-release.stop _ _ c.in-Err-release.ensures.keeps)

pub returns-in-Before-clause-keeps : goal.returns-in-Before-clause-keeps
returns-in-Before-clause-keeps g c = rw (paused_keeps c.in-Before.status (rw c.in-Before.is at c.in-Ok.ensures.stopped)) (c.in_default.ensures.keeps ∙ c.in-Ok.ensures.keeps)

pub returns-clause-keeps : goal.returns-clause-keeps
returns-clause-keeps g c = rw c.finish.ensures.keep (c.in_default.ensures.keeps ∙ c.in-Ok.ensures.keeps)
