use Rattle.std.proofs.Common.{◌<◌, ◌≤◌, ℕ, arith, length, rules}
use Rattle.std.proofs.lemmas.Result.{on_ok_weaker}
use Rattle.run_app.specs.Machine.{longest}
use Rattle.run_app.proofs.LineLemmas.{block_stands, block_stops, fault_long, fault_moved, fault_unwritten, loses_stops, loss_long, none_there, over_limit, stood}
use Rattle.run_app.proofs.WaitLemmas.{stands_fewer}
use Rattle.run_app.proofs.line.take_line.Goals as goal

below : (waiting every : ℕ) → waiting < 1 → 0 < every → waiting < every
below waiting every few some = omega (arith, few, some)

pub returns-then-len-gt-LONGEST-clause-stops : goal.returns-then-len-gt-LONGEST-clause-stops
returns-then-len-gt-LONGEST-clause-stops g c =
    let long : longest < length c.args.progress.now.line.items = search rules in
    λ b lines end from k.
    over_limit c.args.form c.args.every b lines end _ c.args.progress.now.line.items _ _ _ from _ _ _ _ long k

pub start-requires-clause-none : goal.start-requires-clause-none
start-requires-clause-none g c = none_there _ c.in_default.not-Some

pub start-requires-clause-stands : goal.start-requires-clause-stands
start-requires-clause-stands g c =
    let r = c.requires.stands in
    (c.args.every, r.0, r.1, r.2, r.3, r.4)

pub returns-in_default-clause-took : goal.returns-in_default-clause-took
returns-in_default-clause-took g c = λ b lines end from k.
    on_ok_weaker c.start.result (λ r. (r.0, stands_fewer c.args.form 1 b _ r.0 _ _ _ _ from _ _ _ _ c.args.every (below _ _ r.1.waits.few c.requires.every) r.1)) (c.start.ensures.took c.args.every b lines end from k)

pub returns-in_default-clause-stops : goal.returns-in_default-clause-stops
returns-in_default-clause-stops g c = λ b lines end from k. c.start.ensures.stops c.args.every b lines end from k

pub returns-in-Err-clause-stops : goal.returns-in-Err-clause-stops
returns-in-Err-clause-stops g c =
    let short : length c.args.progress.now.line.items ≤ longest = search rules in
    λ b lines end from k.
    let p = stood c.args.form c.args.every b lines end _ c.args.progress.now.line.items _ _ _ from _ _ _ _ k short c.in-Some.chain c.in-Some.is in
    block_stops c.args.form c.args.every b lines end _ c.args.progress.now.line.items _ _ _ from _ _ _ _ k short c.in-Some.chain c.in-Some.is c.advance.new.chain _ c.in-Err.stop _ c.deref.ensures.value (c.in-Err.ensures.err p.0 p.2) c.in-Err.ensures.stays

pub returns-in-Err-clause-long : goal.returns-in-Err-clause-long
returns-in-Err-clause-long g c =
    let short : length c.args.progress.now.line.items ≤ longest = search rules in
    let r = c.requires.stands in
    let p = stood c.args.form c.args.every r.0 r.1 r.2 _ c.args.progress.now.line.items _ _ _ r.3 _ _ _ _ r.4 short c.in-Some.chain c.in-Some.is in
    fault_long c.in-Err.stop _ _ (c.in-Err.ensures.err p.0 p.2)

pub returns-in-Err-clause-writes : goal.returns-in-Err-clause-writes
returns-in-Err-clause-writes g c =
    let short : length c.args.progress.now.line.items ≤ longest = search rules in
    let r = c.requires.stands in
    let p = stood c.args.form c.args.every r.0 r.1 r.2 _ c.args.progress.now.line.items _ _ _ r.3 _ _ _ _ r.4 short c.in-Some.chain c.in-Some.is in
    fault_unwritten (Unit {0}) c.in-Err.stop _ _ (c.in-Err.ensures.err p.0 p.2)

pub returns-in-Err-clause-keeps : goal.returns-in-Err-clause-keeps
returns-in-Err-clause-keeps g c =
    let short : length c.args.progress.now.line.items ≤ longest = search rules in
    let r = c.requires.stands in
    let p = stood c.args.form c.args.every r.0 r.1 r.2 _ c.args.progress.now.line.items _ _ _ r.3 _ _ _ _ r.4 short c.in-Some.chain c.in-Some.is in
    fault_moved (Unit {0}) c.in-Err.stop _ _ (c.in-Err.ensures.err p.0 p.2)

pub settle-requires-clause-stands : goal.settle-requires-clause-stands
settle-requires-clause-stands g c =
    let short : length c.args.progress.now.line.items ≤ longest = search rules in
    let r = c.requires.stands in
    let p = stood c.args.form c.args.every r.0 r.1 r.2 _ c.args.progress.now.line.items _ _ _ r.3 _ _ _ _ r.4 short c.in-Some.chain c.in-Some.is in
    let s = block_stands c.args.form c.args.every r.0 r.1 r.2 _ c.args.progress.now.line.items _ _ _ r.3 _ _ _ _ r.4 short c.in-Some.chain c.in-Some.is c.advance.new.chain _ _ c.deref.ensures.value (c.in_default-advance.ensures.ok p.0 p.2) c.in_default-advance.ensures.settled in
    (c.args.form, r.0, _, s.0, r.3, s.1)

pub returns-clause-took : goal.returns-clause-took
returns-clause-took g c =
    let short : length c.args.progress.now.line.items ≤ longest = search rules in
    λ b lines end from k.
    let p = stood c.args.form c.args.every b lines end _ c.args.progress.now.line.items _ _ _ from _ _ _ _ k short c.in-Some.chain c.in-Some.is in
    let s = block_stands c.args.form c.args.every b lines end _ c.args.progress.now.line.items _ _ _ from _ _ _ _ k short c.in-Some.chain c.in-Some.is c.advance.new.chain _ _ c.deref.ensures.value (c.in_default-advance.ensures.ok p.0 p.2) c.in_default-advance.ensures.settled in
    on_ok_weaker c.settle.result (λ r. (s.0, r)) (c.settle.ensures.ok c.args.form b _ s.0 from s.1)

pub returns-clause-stops : goal.returns-clause-stops
returns-clause-stops g c =
    let short : length c.args.progress.now.line.items ≤ longest = search rules in
    λ b lines end from k.
    let p = stood c.args.form c.args.every b lines end _ c.args.progress.now.line.items _ _ _ from _ _ _ _ k short c.in-Some.chain c.in-Some.is in
    let s = block_stands c.args.form c.args.every b lines end _ c.args.progress.now.line.items _ _ _ from _ _ _ _ k short c.in-Some.chain c.in-Some.is c.advance.new.chain _ _ c.deref.ensures.value (c.in_default-advance.ensures.ok p.0 p.2) c.in_default-advance.ensures.settled in
    loses_stops c.args.form c.args.every b.first _ _ _ _ from _ c.settle.result (c.settle.ensures.stops c.args.form b _ s.0 from s.1)

pub returns-clause-long : goal.returns-clause-long
returns-clause-long g c = loss_long c.settle.result _ c.settle.ensures.loss
