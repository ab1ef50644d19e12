use Rattle.std.proofs.Common.{arith}
use Rattle.run_app.specs.Parts.{HasNoEnd}
use Rattle.run_app.proofs.BallotLemmas.{fed_end, fed_end_stops, fed_first, fed_line, fed_number, fed_stops}
use Rattle.run_app.proofs.balloting.feed_ballots.Goals as goal

pub loop-end-init : goal.loop-end-init
loop-end-init c = λ t h. fed_first c.args.form t _ _ _ _ h

pub end_ballot-requires-clause-number : goal.end_ballot-requires-clause-number
end_ballot-requires-clause-number c =
    let h = c.requires.taken in
    let most = fed_number c.args.form h.0 _ _ _ _ _ _ _ _ h.1 (c.loop-end.invariant h.0 h.1) in
    omega (arith, c.requires.number, most)

pub end_ballot-requires-clause-short : goal.end_ballot-requires-clause-short
end_ballot-requires-clause-short c =
    let h = c.requires.taken in
    (c.loop-end.invariant h.0 h.1).taken.short

pub returns-in-Err-clause-stop : goal.returns-in-Err-clause-stop
returns-in-Err-clause-stop c = λ t h.
    let f = c.loop-end.invariant t h in
    fed_stops c.args.form t _ _ _ _ _ _ c.in-Err.stop f c.in-Some.ensures.end (c.in-Err.ensures.stop _ f.taken)

pub loop-end-preserved : goal.loop-end-preserved
loop-end-preserved c = λ t h.
    let f = c.loop-end.invariant t h in
    rw c.after-rest.ensures (fed_line c.args.form t _ _ _ _ _ _ _ _ _ f c.in-Some.ensures.end (c.in_default-end_ballot.ensures.taken _ f.taken))

pub extend-requires : goal.extend-requires
extend-requires c =
    let h = c.requires.taken in
    record { short = (c.loop-end.invariant h.0 h.1).taken.short }

pub returns-clause-taken : goal.returns-clause-taken
returns-clause-taken c = λ t h.
    let none : HasNoEnd c.loop-end.rest.now = rw c.in_default.is at c.end_of_line.ensures.none in
    fed_end c.args.form c.extend.result t _ _ _ _ _ _ (c.loop-end.invariant t h) none c.extend.ensures.line c.extend.ensures.short

pub returns-clause-stop : goal.returns-clause-stop
returns-clause-stop c = λ t h.
    let none : HasNoEnd c.loop-end.rest.now = rw c.in_default.is at c.end_of_line.ensures.none in
    fed_end_stops c.args.form c.extend.result t _ _ _ _ _ (c.loop-end.invariant t h) none c.extend.ensures.err
