use Rattle.run_app.proofs.KeepLemmas.{stands_some}
use Rattle.run_app.proofs.LineLemmas.{begin_stops, fault_long, fault_moved, fault_unwritten, first_taken, first_unkept, first_unwritten, keeper_long, none_held, not_kept_is, not_kept_moved, sink_long}
use Rattle.run_app.proofs.line.start.Goals as goal

pub returns-in-Err-clause-stops : goal.returns-in-Err-clause-stops
returns-in-Err-clause-stops g c = λ every b lines end from k.
    begin_stops c.args.form every b lines end _ _ _ _ _ from _ _ _ _ k c.requires.short c.requires.none _ c.in-Err.stop (rw c.deref.ensures.value at c.in-Err.ensures.err) c.in-Err.ensures.stays

pub returns-in-Err-clause-long : goal.returns-in-Err-clause-long
returns-in-Err-clause-long g c = fault_long c.in-Err.stop _ _ c.in-Err.ensures.err

pub returns-in-Err-clause-writes : goal.returns-in-Err-clause-writes
returns-in-Err-clause-writes g c = fault_unwritten (Unit {0}) c.in-Err.stop _ _ c.in-Err.ensures.err

pub returns-in-Err-clause-keeps : goal.returns-in-Err-clause-keeps
returns-in-Err-clause-keeps g c = fault_moved (Unit {0}) c.in-Err.stop _ _ c.in-Err.ensures.err

pub commit_first-requires-clause-holds : goal.commit_first-requires-clause-holds
commit_first-requires-clause-holds g c =
    let r = c.requires.stands in
    none_held c.args.form r.0 r.1 r.2 r.3 _ _ _ _ _ r.4 _ _ _ _ r.5 c.requires.short c.requires.none

pub commit_first-requires-clause-stands : goal.commit_first-requires-clause-stands
commit_first-requires-clause-stands g c =
    let q = stands_some c.in-Ok.chain _ c.in-Ok.ensures.ok.3 in
    (q.0, q.2)

pub returns-in-Err-commit_first-clause-stops : goal.returns-in-Err-commit_first-clause-stops
returns-in-Err-commit_first-clause-stops g c = λ every b lines end from k.
    rw c.not_kept.ensures (first_unkept c.args.form every b lines end _ _ _ _ _ from _ _ _ _ k c.requires.short c.requires.none _ c.in-Ok.chain (rw c.deref.ensures.value at c.in-Ok.ensures.ok) _ _ _ c.in-Err-commit_first.fault c.in-Err-commit_first.ensures.commits _ _)

pub returns-in-Err-commit_first-clause-long : goal.returns-in-Err-commit_first-clause-long
returns-in-Err-commit_first-clause-long g c = rw c.not_kept.ensures (keeper_long _ _ (not_kept_is c.in-Err-commit_first.fault))

pub returns-in-Err-commit_first-clause-keeps : goal.returns-in-Err-commit_first-clause-keeps
returns-in-Err-commit_first-clause-keeps g c = rw c.not_kept.ensures (not_kept_moved (Unit {0}) c.in-Err-commit_first.fault _ _ c.in-Err-commit_first.ensures.cause c.in-Err-commit_first.ensures.quiet)

pub returns-in-Err-write_held-clause-stops : goal.returns-in-Err-write_held-clause-stops
returns-in-Err-write_held-clause-stops g c = λ every b lines end from k.
    first_unwritten c.args.form every b lines end _ _ _ _ _ from _ _ _ _ k c.requires.short c.requires.none _ c.in-Ok.chain (rw c.deref.ensures.value at c.in-Ok.ensures.ok) _ _ _ c.in-Ok.ensures.settled c.in_default.ensures.commits _ c.in-Err-write_held.stop c.in-Err-write_held.ensures.err c.in-Err-write_held.ensures.stop _ _

pub returns-in-Err-write_held-clause-long : goal.returns-in-Err-write_held-clause-long
returns-in-Err-write_held-clause-long g c = sink_long c.in-Err-write_held.stop _ c.in-Err-write_held.ensures.stop

pub returns-clause-took : goal.returns-clause-took
returns-clause-took g c = λ every b lines end from k.
    first_taken c.args.form every b lines end _ _ _ _ _ from _ _ _ _ k c.requires.short c.requires.none _ c.in-Ok.chain (rw c.deref.ensures.value at c.in-Ok.ensures.ok) _ _ _ c.in-Ok.ensures.settled c.in_default.ensures.commits _ _ _ c.in_default-write_held.ensures.ok c.in_default-write_held.ensures.none c.in_default-write_held.ensures.empty
