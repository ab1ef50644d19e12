use Rattle.std.proofs.Common.{◌≡◌, ◌<◌, ℕ, arith}
use Rattle.run_app.{specs.Kept.LeftIn, proofs.CountLemmas.{keeper_loss, keeper_moved, on_stop, sink_loss, sink_moved}}
use Rattle.run_app.proofs.WaitLemmas.{has_grown, keep_loses, stands_fewer, stands_released, stands_unwritten}
use Rattle.run_app.proofs.releasing.release.Goals as goal

some_wait : (waiting : ℕ) → (waiting ≡ 0 → ⊥) → 0 < waiting
some_wait waiting ne = omega (arith, ne)

none_wait : (waiting : ℕ) → waiting ≡ 0 → waiting < 1
none_wait waiting none = omega (arith, none)

pub returns-then-progress-eq0-clause-ok : goal.returns-then-progress-eq0-clause-ok
returns-then-progress-eq0-clause-ok g c = λ form every b lines end from k.
    stands_fewer form _ b lines end _ _ _ _ from _ _ _ _ 1 (none_wait _ c.if-progress-eq0.true) k

pub commit-requires : goal.commit-requires
commit-requires g c =
    let r = c.requires.stands in
    let k = r.6 in
    record { kept = (r.2, k.settled, r.4, k.kept, has_grown r.0 _ r.2.first r.3 k.settled r.4 _ _ r.5 _ _ k.kept.same (some_wait _ c.if-progress-eq0.false) k.waits) }

pub returns-in-Err-clause-stops : goal.returns-in-Err-clause-stops
returns-in-Err-clause-stops g c = λ form every b lines end from k.
    keep_loses form every b.first lines k.settled end _ _ from _ k.waits (some_wait _ c.if-progress-eq0.false) (LeftIn b (g.D.Keeper.rows c.commit.new.keeper) (g.D.Keeper.is_honest c.commit.new.keeper) (g.D.Keeper.may_leave c.commit.new.keeper)) c.in-Err.stop c.in-Err.ensures.stop (c.in-Err.ensures.err b k.settled end k.kept)

pub returns-in-Err-clause-loss : goal.returns-in-Err-clause-loss
returns-in-Err-clause-loss g c = keeper_loss c.in-Err.stop c.in-Err.ensures.stop

pub returns-in-Err-clause-some : goal.returns-in-Err-clause-some
returns-in-Err-clause-some g c = some_wait _ c.if-progress-eq0.false

pub returns-in-Err-clause-writes : goal.returns-in-Err-clause-writes
returns-in-Err-clause-writes g c = keeper_moved (Unit {0}) c.in-Err.stop _ c.in-Err.ensures.stop

pub returns-clause-ok : goal.returns-clause-ok
returns-clause-ok g c = λ form every b lines end from k.
    stands_released form every b lines end _ _ _ _ from _ _ _ _ _ _ _ _ k (c.in_default.ensures.ok b k.settled end k.kept) c.write_held.result _ _ _ c.write_held.ensures.ok c.write_held.ensures.empty c.write_held.ensures.none

pub returns-clause-stops : goal.returns-clause-stops
returns-clause-stops g c = λ form every b lines end from k.
    stands_unwritten form every b lines end _ _ _ _ from _ _ _ _ _ _ _ _ k (c.in_default.ensures.ok b k.settled end k.kept) c.write_held.result _ (some_wait _ c.if-progress-eq0.false) c.write_held.ensures.err c.write_held.ensures.stop

pub returns-clause-some : goal.returns-clause-some
returns-clause-some g c = on_stop c.write_held.result _ (some_wait _ c.if-progress-eq0.false)

pub returns-clause-loss : goal.returns-clause-loss
returns-clause-loss g c = sink_loss c.write_held.result c.write_held.ensures.stop

pub returns-clause-keeps : goal.returns-clause-keeps
returns-clause-keeps g c = rw (← c.in_default.ensures.keeps) (sink_moved c.write_held.result _ c.write_held.ensures.stop)
