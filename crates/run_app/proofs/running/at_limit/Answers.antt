use Rattle.std.proofs.Common.{rules, arith, refl, inl, inr, ◌≡◌, ◌⊎◌, ◌≢◌, ◌<◌, ◌≤◌, ℕ, [], length, slice_index_or}
use Rattle.run_app.specs.{Kept.LeftIn, Machine.longest, Parts.Stands}
use Rattle.run_app.proofs.CountLemmas.{loss_stopped, part_keeps, part_reads, part_writes}
use Rattle.run_app.proofs.DriveLemmas.{byte_or, fed_fewer, fed_more, fed_released, first_of, limit_lost, long_ends, pass_ends, paused_from, read_ends, told_all}
use Rattle.run_app.proofs.running.at_limit.Goals.{else-piece-ne10-via-then-piece-ne10+else-len-eq-LONGEST, else-piece-ne10-via-else-piece-ne10}
use Rattle.run_app.proofs.running.at_limit.Goals as goal

one_is : (n : ℕ) → n ≤ 1 → (n ≡ 0 → ⊥) → n ≡ 1
one_is n h ne = omega (arith, h, ne)

pub release-requires : goal.release-requires
release-requires g c =
    let r = c.requires.fed in
    record { stands = (c.args.form, c.args.every, r.0, _, r.2, r.3, (fed_more c.args.form c.args.every r.0 r.1 r.2 _ _ _ _ _ r.3 _ _ _ _ r.4).stands) }

pub returns-in-Err-clause-ends : goal.returns-in-Err-clause-ends
returns-in-Err-clause-ends g c = λ b taken end from first full told k.
    rw c.status_of.ensures (limit_lost c.args.form c.args.every b.first _ taken first _ from _ c.in-Err.stop full told
    (c.in-Err.ensures.stops c.args.form c.args.every b _ end from (fed_more c.args.form c.args.every b taken end _ _ _ _ _ from _ _ _ _ k).stands))

pub returns-in-Err-read_at_most-clause-ends : goal.returns-in-Err-read_at_most-clause-ends
returns-in-Err-read_at_most-clause-ends g c = λ b taken end from first full told k.
    let m = fed_more c.args.form c.args.every b taken end _ _ _ _ _ from _ _ _ _ k in
    let s = fed_released c.args.form c.args.every b taken end _ _ _ _ _ from _ _ _ _ k _ _ _ _ _ _ _ _ _ c.release.ensures.line (c.in_default.ensures.ok c.args.form c.args.every b _ end from m.stands) in
    read_ends c.args.form c.args.every b taken end _ _ _ _ _ from _ _ _ _ full s first _ _ told c.in-Err-read_at_most.ensures.err

pub last_line-requires-clause-fed : goal.last_line-requires-clause-fed
last_line-requires-clause-fed g c =
    let r = c.requires.fed in
    let m = fed_more c.args.form c.args.every r.0 r.1 r.2 _ _ _ _ _ r.3 _ _ _ _ r.4 in
    let s = fed_released c.args.form c.args.every r.0 r.1 r.2 _ _ _ _ _ r.3 _ _ _ _ r.4 _ _ _ _ _ _ _ _ _ c.release.ensures.line (c.in_default.ensures.ok c.args.form c.args.every r.0 _ r.2 r.3 m.stands) in
    (r.0, r.1, r.2, r.3, fed_fewer c.args.form c.args.every r.0 r.1 r.2 _ _ _ _ _ r.3 _ _ _ _ c.requires.every s)

pub returns-in-Ok-eq0-clause-ends : goal.returns-in-Ok-eq0-clause-ends
returns-in-Ok-eq0-clause-ends g c = λ b taken end from first full told k.
    let read = rw c.in-Ok-eq0.field-0-test at c.in-Ok-eq0.ensures in
    let m = fed_more c.args.form c.args.every b taken end _ _ _ _ _ from _ _ _ _ k in
    let s = fed_released c.args.form c.args.every b taken end _ _ _ _ _ from _ _ _ _ k _ _ _ _ _ _ _ _ _ c.release.ensures.line (c.in_default.ensures.ok c.args.form c.args.every b _ end from m.stands) in
    paused_from c.args.form c.args.every b.first (LeftIn b (g.D.Keeper.rows c.last_line.new.keeper) (g.D.Keeper.is_honest c.last_line.new.keeper) (g.D.Keeper.may_leave c.last_line.new.keeper)) (λ lines last. Stands c.args.form c.args.every b lines last c.last_line.new.progress.number c.last_line.new.progress.chain c.last_line.new.progress.waiting c.last_line.new.progress.held.items from (g.K.Sink.written c.last_line.new.sink) (g.D.Keeper.rows c.last_line.new.keeper) (g.D.Keeper.is_honest c.last_line.new.keeper) (g.D.Keeper.may_leave c.last_line.new.keeper)) first _ from (g.K.Sink.written c.last_line.new.sink) taken [] c.last_line.result (told_all first taken _ _ _ told (read.end refl) read.moved)
    (c.last_line.ensures.ends b taken end from (omega (arith, full)) (fed_fewer c.args.form c.args.every b taken end _ _ _ _ _ from _ _ _ _ c.requires.every s))

pub returns-then-len-eq-LONGEST-clause-ends : goal.returns-then-len-eq-LONGEST-clause-ends
returns-then-len-eq-LONGEST-clause-ends g c = λ b taken end from first full told k.
    let one : c.in-Ok.field-0 ≡ 1 = one_is c.in-Ok.field-0 c.in-Ok.ensures.within c.in-Ok.field-0-test.1 in
    let moved = rw one at c.in-Ok.ensures.moved in
    let room : 0 < length c.read_at_most.new.piece = omega (arith, c.read_at_most.auto.piece) in
    let most : length c.release.new.progress.line.items ≡ longest = search rules in
    let m = fed_more c.args.form c.args.every b taken end _ _ _ _ _ from _ _ _ _ k in
    let s = fed_released c.args.form c.args.every b taken end _ _ _ _ _ from _ _ _ _ k _ _ _ _ _ _ _ _ _ c.release.ensures.line (c.in_default.ensures.ok c.args.form c.args.every b _ end from m.stands) in
    long_ends c.args.form c.args.every b taken end _ _ _ _ _ from _ _ _ _ full s first _ _ c.read_at_most.new.piece _ told moved (first_of c.read_at_most.new.piece 0 room) c.if-piece-ne10.true most

pub returns-else-piece-ne10-clause-ends : goal.returns-else-piece-ne10-clause-ends
returns-else-piece-ne10-clause-ends g c = λ b taken end from first full told k.
    let one : c.in-Ok.field-0 ≡ 1 = one_is c.in-Ok.field-0 c.in-Ok.ensures.within c.in-Ok.field-0-test.1 in
    let moved = rw one at c.in-Ok.ensures.moved in
    let room : 0 < length c.read_at_most.new.piece = omega (arith, c.read_at_most.auto.piece) in
    let short : (slice_index_or c.read_at_most.new.piece 0 0 ≡ 10) ⊎ (length c.release.new.progress.line.items ≢ longest) =
    elim c.else-piece-ne10.branch [
      | else-piece-ne10-via-then-piece-ne10+else-len-eq-LONGEST w ↦ let ne : length c.release.new.progress.line.items ≢ longest = search rules in inr ne
      | else-piece-ne10-via-else-piece-ne10 w ↦ let ten : slice_index_or c.read_at_most.new.piece 0 0 ≡ 10 = search rules in inl ten
    ] in
    let m = fed_more c.args.form c.args.every b taken end _ _ _ _ _ from _ _ _ _ k in
    let s = fed_released c.args.form c.args.every b taken end _ _ _ _ _ from _ _ _ _ k _ _ _ _ _ _ _ _ _ c.release.ensures.line (c.in_default.ensures.ok c.args.form c.args.every b _ end from m.stands) in
    pass_ends c.args.form c.args.every b taken end _ _ _ _ _ from _ _ _ _ full s first _ _ c.read_at_most.new.piece _ told moved (first_of c.read_at_most.new.piece 0 room) (byte_or _ _ short s.short)

pub returns-in-Err-clause-stopped : goal.returns-in-Err-clause-stopped
returns-in-Err-clause-stopped g c = rw c.status_of.ensures (loss_stopped c.in-Err.stop c.in-Err.ensures.loss)

pub returns-in-Err-clause-reads : goal.returns-in-Err-clause-reads
returns-in-Err-clause-reads g c = rw (c.status_of.ensures, part_reads c.in-Err.stop) refl

pub returns-in-Err-clause-writes : goal.returns-in-Err-clause-writes
returns-in-Err-clause-writes g c = rw c.status_of.ensures (part_writes (Unit {0}) c.in-Err.stop _ _ c.in-Err.ensures.writes)

pub returns-in-Err-clause-keeps : goal.returns-in-Err-clause-keeps
returns-in-Err-clause-keeps g c = rw c.status_of.ensures (part_keeps (Unit {0}) c.in-Err.stop _ _ c.in-Err.ensures.keeps)

pub returns-in-Ok-eq0-clause-reads : goal.returns-in-Ok-eq0-clause-reads
returns-in-Ok-eq0-clause-reads g c = rw c.last_line.ensures.read c.in-Ok-eq0.ensures.quiet

pub returns-in-Ok-eq0-clause-writes : goal.returns-in-Ok-eq0-clause-writes
returns-in-Ok-eq0-clause-writes g c = rw (← c.in_default.ensures.writes) c.last_line.ensures.writes

pub returns-in-Ok-eq0-clause-keeps : goal.returns-in-Ok-eq0-clause-keeps
returns-in-Ok-eq0-clause-keeps g c = rw (← c.in_default.ensures.keeps) c.last_line.ensures.keeps
