use Rattle.std.proofs.Common.{rules, arith, refl, inl, ◌≡◌, ◌∙◌, ◌≤◌, ◌+◌, ◌++◌, [], ℕ, List, length, take, length-append, length-take-le}
use Rattle.run_app.specs.{Kept.LeftIn, Outcome.most_bytes, Parts.Stands}
use Rattle.run_app.proofs.CountLemmas.{ending_keeps, ending_reads, ending_stopped, ending_writes}
use Rattle.run_app.proofs.DriveLemmas.{fed_first, paused_from, read_paused, stop_paused, told_all, told_first, told_more, told_rest, told_still}
use Rattle.run_app.proofs.PartLemmas.{number_fits}
use Rattle.run_app.proofs.running.take_all.Goals as goal

pub loop-taken-init : goal.loop-taken-init
loop-taken-init g c = record {
  room = search rules;
  most = omega arith;
  number = omega (arith, c.requires.number);
  at = λ b k. ([], b.first, refl, told_first _, fed_first c.args.form c.args.every b _ _ _ _ _ _ _ _ _ c.requires.every c.requires.number c.requires.line c.requires.none c.requires.empty k);
  honest = λ h. h;
  read_quiet = refl;
  write_quiet = refl;
  keep_quiet = refl;
}

pub returns-in-Err-clause-ends : goal.returns-in-Err-clause-ends
returns-in-Err-clause-ends g c = λ b k.
    let a = c.loop-taken.invariant.at b k in
    let r = told_rest _ a.0 _ (told_still _ a.0 _ _ a.3 c.in-Err.ensures.err) in
    (a.0, r.0, r.1, read_paused c.args.form _ a.0 r.0 a.1 (omega (arith, a.2, c.loop-taken.invariant.most)) a.4.stands)

pub last_line-requires-clause-fed : goal.last_line-requires-clause-fed
last_line-requires-clause-fed g c =
    let k = c.requires.kept in
    let a = c.loop-taken.invariant.at k.0 k.1 in
    (k.0, a.0, a.1, _, a.4)

pub returns-in-Ok-eq0-clause-ends : goal.returns-in-Ok-eq0-clause-ends
returns-in-Ok-eq0-clause-ends g c = λ b k.
    let read = rw c.in-Ok-eq0.field-0-test at c.in-Ok-eq0.ensures in
    let a = c.loop-taken.invariant.at b k in
    paused_from c.args.form c.args.every b.first (LeftIn b (g.D.Keeper.rows c.last_line.new.keeper) (g.D.Keeper.is_honest c.last_line.new.keeper) (g.D.Keeper.may_leave c.last_line.new.keeper)) (λ lines last. Stands c.args.form c.args.every b lines last c.last_line.new.progress.number c.last_line.new.progress.chain c.last_line.new.progress.waiting c.last_line.new.progress.held.items (g.K.Sink.written c.args.sink.now) (g.K.Sink.written c.last_line.new.sink) (g.D.Keeper.rows c.last_line.new.keeper) (g.D.Keeper.is_honest c.last_line.new.keeper) (g.D.Keeper.may_leave c.last_line.new.keeper)) _ _ (g.K.Sink.written c.args.sink.now) (g.K.Sink.written c.last_line.new.sink) a.0 [] c.last_line.result (told_all _ a.0 _ _ _ a.3 (read.end refl) read.moved)
    (c.last_line.ensures.ends b a.0 a.1 _ (omega (arith, a.2, c.loop-taken.invariant.most)) a.4)

pub feed-requires-clause-fed : goal.feed-requires-clause-fed
feed-requires-clause-fed g c =
    let k = c.requires.kept in
    let a = c.loop-taken.invariant.at k.0 k.1 in
    (k.0, a.0, a.1, _, a.4)

pub returns-in-Err-feed-clause-ends : goal.returns-in-Err-feed-clause-ends
returns-in-Err-feed-clause-ends g c = λ b k.
    let a = c.loop-taken.invariant.at b k in
    let there : c.in-Ok.n ≤ length c.read_at_most.new.piece = omega (arith, c.in-Ok.ensures.within, c.room.ensures.within, c.read_at_most.auto.piece, c.loop-taken.invariant.room) in
    let t : List ℕ = a.0 ++ take c.in-Ok.n c.read_at_most.new.piece in
    let r = told_rest _ t _ (told_more _ a.0 _ _ c.in-Ok.n c.read_at_most.new.piece a.3 c.in-Ok.ensures.moved) in
    let size : length t ≤ most_bytes = omega (arith, a.2, length-append a.0 (take c.in-Ok.n c.read_at_most.new.piece), length-take-le c.in-Ok.n c.read_at_most.new.piece there, c.in-Ok.ensures.within, c.room.ensures.fits) in
    rw c.ending_of.ensures (paused_from c.args.form c.args.every b.first (LeftIn b (g.D.Keeper.rows c.feed.new.keeper) (g.D.Keeper.is_honest c.feed.new.keeper) (g.D.Keeper.may_leave c.feed.new.keeper)) (λ lines last. Stands c.args.form c.args.every b lines last c.feed.new.progress.number c.feed.new.progress.chain c.feed.new.progress.waiting c.feed.new.progress.held.items (g.K.Sink.written c.args.sink.now) (g.K.Sink.written c.feed.new.sink) (g.D.Keeper.rows c.feed.new.keeper) (g.D.Keeper.is_honest c.feed.new.keeper) (g.D.Keeper.may_leave c.feed.new.keeper)) _ _ (g.K.Sink.written c.args.sink.now) (g.K.Sink.written c.feed.new.sink) t r.0 _ r.1 (stop_paused c.args.form c.args.every b.first (LeftIn b (g.D.Keeper.rows c.feed.new.keeper) (g.D.Keeper.is_honest c.feed.new.keeper) (g.D.Keeper.may_leave c.feed.new.keeper)) (λ lines last. Stands c.args.form c.args.every b lines last c.feed.new.progress.number c.feed.new.progress.chain c.feed.new.progress.waiting c.feed.new.progress.held.items (g.K.Sink.written c.args.sink.now) (g.K.Sink.written c.feed.new.sink) (g.D.Keeper.rows c.feed.new.keeper) (g.D.Keeper.is_honest c.feed.new.keeper) (g.D.Keeper.may_leave c.feed.new.keeper)) t r.0 _ (g.K.Sink.written c.args.sink.now) (g.K.Sink.written c.feed.new.sink) size (inl refl) c.in-Err-feed.stop (c.in-Err-feed.ensures.stops b a.0 a.1 _ a.4)))

pub loop-taken-preserved : goal.loop-taken-preserved
loop-taken-preserved g c =
    let piece : List ℕ = take c.in-Ok.n c.read_at_most.new.piece in
    let within : c.in-Ok.n ≤ c.room.result = c.in-Ok.ensures.within in
    let there : c.in-Ok.n ≤ length c.read_at_most.new.piece = omega (arith, within, c.room.ensures.within, c.read_at_most.auto.piece, c.loop-taken.invariant.room) in
    let size : length piece ≡ c.in-Ok.n = length-take-le c.in-Ok.n c.read_at_most.new.piece there in
    let k0 = c.requires.kept in
    let a0 = c.loop-taken.invariant.at k0.0 k0.1 in
    let f0 = c.in_default.ensures.fed k0.0 a0.0 a0.1 _ a0.4 in
    let number = number_fits (a0.0 ++ piece) _ f0.1.stands.number_is in
    record {
      room = omega (arith, c.read_at_most.auto.piece, c.loop-taken.invariant.room);
      most = omega (arith, c.room.ensures.fits, within);
      number = omega (arith, number, a0.2, length-append a0.0 piece, size);
      at = λ b k.
          let a = c.loop-taken.invariant.at b k in
          let f = c.in_default.ensures.fed b a.0 a.1 _ a.4 in
          (a.0 ++ piece, f.0, omega (arith, a.2, length-append a.0 piece, size), told_more _ a.0 _ _ c.in-Ok.n c.read_at_most.new.piece a.3 c.in-Ok.ensures.moved, f.1);
      honest = λ h. c.loop-taken.invariant.honest (c.feed.ensures.honest h);
      read_quiet = c.in-Ok.ensures.quiet ∙ c.loop-taken.invariant.read_quiet;
      write_quiet = c.in_default.ensures.writes ∙ c.loop-taken.invariant.write_quiet;
      keep_quiet = c.in_default.ensures.keeps ∙ c.loop-taken.invariant.keep_quiet;
    }

pub at_limit-requires-clause-fed : goal.at_limit-requires-clause-fed
at_limit-requires-clause-fed g c =
    let k = c.requires.kept in
    let a = c.loop-taken.invariant.at k.0 k.1 in
    (k.0, a.0, a.1, _, a.4)

pub returns-clause-ends : goal.returns-clause-ends
returns-clause-ends g c = λ b k.
    let a = c.loop-taken.invariant.at b k in
    c.at_limit.ensures.ends b a.0 a.1 _ _ (omega (arith, a.2, c.loop-taken.invariant.most, c.loop-taken-test.false)) a.3 a.4

pub returns-in-Err-feed-clause-stopped : goal.returns-in-Err-feed-clause-stopped
returns-in-Err-feed-clause-stopped g c = rw c.ending_of.ensures (ending_stopped c.in-Err-feed.stop)

pub returns-in-Ok-eq0-clause-reads : goal.returns-in-Ok-eq0-clause-reads
returns-in-Ok-eq0-clause-reads g c = rw c.last_line.ensures.read (c.in-Ok-eq0.ensures.quiet ∙ c.loop-taken.invariant.read_quiet)

pub returns-in-Ok-eq0-clause-writes : goal.returns-in-Ok-eq0-clause-writes
returns-in-Ok-eq0-clause-writes g c = rw (← c.loop-taken.invariant.write_quiet) c.last_line.ensures.writes

pub returns-in-Ok-eq0-clause-keeps : goal.returns-in-Ok-eq0-clause-keeps
returns-in-Ok-eq0-clause-keeps g c = rw (← c.loop-taken.invariant.keep_quiet) c.last_line.ensures.keeps

pub returns-in-Err-feed-clause-reads : goal.returns-in-Err-feed-clause-reads
returns-in-Err-feed-clause-reads g c = rw (c.ending_of.ensures, ending_reads c.in-Err-feed.stop) (c.in-Ok.ensures.quiet ∙ c.loop-taken.invariant.read_quiet)

pub returns-in-Err-feed-clause-writes : goal.returns-in-Err-feed-clause-writes
returns-in-Err-feed-clause-writes g c = rw (c.ending_of.ensures, ← c.loop-taken.invariant.write_quiet) (ending_writes (Unit {0}) c.in-Err-feed.stop _ _ c.in-Err-feed.ensures.writes)

pub returns-in-Err-feed-clause-keeps : goal.returns-in-Err-feed-clause-keeps
returns-in-Err-feed-clause-keeps g c = rw (c.ending_of.ensures, ← c.loop-taken.invariant.keep_quiet) (ending_keeps (Unit {0}) c.in-Err-feed.stop _ _ c.in-Err-feed.ensures.keeps)

pub returns-clause-reads : goal.returns-clause-reads
returns-clause-reads g c = rw (← c.loop-taken.invariant.read_quiet) c.at_limit.ensures.reads

pub returns-clause-writes : goal.returns-clause-writes
returns-clause-writes g c = rw (← c.loop-taken.invariant.write_quiet) c.at_limit.ensures.writes

pub returns-clause-keeps : goal.returns-clause-keeps
returns-clause-keeps g c = rw (← c.loop-taken.invariant.keep_quiet) c.at_limit.ensures.keeps
