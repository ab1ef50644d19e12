use Rattle.std.proofs.Common.{◌≡◌, ◌<◌, [], inr, length, refl, rules, sym}
use Rattle.run_app.specs.{Kept.LeftIn, Parts.Stands}
use Rattle.run_app.proofs.CountLemmas.{ending_keeps, ending_reads, ending_stopped, ending_writes}
use Rattle.run_app.proofs.DriveLemmas.{last_stops, stop_paused, with_last, without_last}
use Rattle.run_app.proofs.running.last_line.Goals as goal

pub returns-then-is_empty-clause-ends : goal.returns-then-is_empty-clause-ends
returns-then-is_empty-clause-ends g c =
    let none : length c.args.progress.now.line.items ≡ 0 = search rules in
    λ b taken end from short k. (refl, short, end, rw (without_last taken _ k.line_is none) k.stands)

pub take_line-requires-clause-stands : goal.take_line-requires-clause-stands
take_line-requires-clause-stands g c =
    let r = c.requires.fed in
    (r.0, _, r.2, r.3, r.4.stands)

pub returns-in-Ok-clause-ends : goal.returns-in-Ok-clause-ends
returns-in-Ok-clause-ends g c =
    let some : 0 < length c.args.progress.now.line.items = search rules in
    λ b taken end from short k.
    let t = c.in-Ok.ensures.took b _ end from k.stands in
    (refl, short, t.0, rw (with_last taken _ k.line_is some) t.1)

pub returns-in-Err-clause-ends : goal.returns-in-Err-clause-ends
returns-in-Err-clause-ends g c =
    let some : 0 < length c.args.progress.now.line.items = search rules in
    λ b taken end from short k.
    rw c.ending_of.ensures (stop_paused c.args.form c.args.every b.first (LeftIn b (g.D.Keeper.rows c.take_line.new.keeper) (g.D.Keeper.is_honest c.take_line.new.keeper) (g.D.Keeper.may_leave c.take_line.new.keeper)) (λ lines last. Stands c.args.form c.args.every b lines last c.take_line.new.progress.number c.take_line.new.progress.chain c.take_line.new.progress.waiting c.take_line.new.progress.held.items from (g.K.Sink.written c.take_line.new.sink) (g.D.Keeper.rows c.take_line.new.keeper) (g.D.Keeper.is_honest c.take_line.new.keeper) (g.D.Keeper.may_leave c.take_line.new.keeper)) taken [] _ from (g.K.Sink.written c.take_line.new.sink) short (inr (refl, sym (with_last taken _ k.line_is some))) c.in-Err.stop
    (last_stops c.args.form c.args.every b.first (LeftIn b (g.D.Keeper.rows c.take_line.new.keeper) (g.D.Keeper.is_honest c.take_line.new.keeper) (g.D.Keeper.may_leave c.take_line.new.keeper)) (λ lines last. Stands c.args.form c.args.every b lines last c.take_line.new.progress.number c.take_line.new.progress.chain c.take_line.new.progress.waiting c.take_line.new.progress.held.items from (g.K.Sink.written c.take_line.new.sink) (g.D.Keeper.rows c.take_line.new.keeper) (g.D.Keeper.is_honest c.take_line.new.keeper) (g.D.Keeper.may_leave c.take_line.new.keeper)) taken _ _ _ from _ c.in-Err.stop k.short c.in-Err.ensures.long (c.in-Err.ensures.stops b _ end from k.stands)))

pub returns-in-Err-clause-stopped : goal.returns-in-Err-clause-stopped
returns-in-Err-clause-stopped g c = rw c.ending_of.ensures (ending_stopped c.in-Err.stop)

pub returns-in-Err-clause-read : goal.returns-in-Err-clause-read
returns-in-Err-clause-read g c = rw c.ending_of.ensures (ending_reads c.in-Err.stop)

pub returns-in-Err-clause-writes : goal.returns-in-Err-clause-writes
returns-in-Err-clause-writes g c = rw c.ending_of.ensures (ending_writes (Unit {0}) c.in-Err.stop _ _ c.in-Err.ensures.writes)

pub returns-in-Err-clause-keeps : goal.returns-in-Err-clause-keeps
returns-in-Err-clause-keeps g c = rw c.ending_of.ensures (ending_keeps (Unit {0}) c.in-Err.stop _ _ c.in-Err.ensures.keeps)
