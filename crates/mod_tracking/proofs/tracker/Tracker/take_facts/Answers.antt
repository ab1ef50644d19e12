use Rattle.std.proofs.Common.{◌+◌, ◌≤◌, ◌++◌, ℕ, List, drop, subst}
use Rattle.std.proofs.lemmas.{List.drop_all, Result.err_from_is_err_and}
use Rattle.base_roles.specs.declared.facts.Fact.{Fact}
use Rattle.mod_tracking.{specs.Stating.{StillDue, statements_of}, proofs.Following.{one_stops, one_taken, wanting}}
use Rattle.mod_tracking.proofs.Lists.{from_place}
use Rattle.mod_tracking.proofs.tracker.Tracker.take_facts.Goals as goal

pub loop-place-preserved : goal.loop-place-preserved
loop-place-preserved c = λ due old later s.
    let l = c.loop-place in
    let p = c.args.pair.now in
    let v = c.args.passage.now.validator in
    let height = c.args.passage.now.height in
    let notes = c.args.recorder.now.noted.notes in
    let facts : List Fact = c.args.facts.now in
    let f : Fact = c.fact_at-fact.result.now in
    let fs : List Fact = drop (l.place + 1) facts ++ later in
    let here = subst (λ (gs : List Fact). StillDue p v height due old (gs ++ later) l.next.fact (drop l.next.note notes) l.self l.made.items) (from_place facts l.place f c.fact_at-fact.ensures) (l.invariant due old later s) in
    rw c.saturating_add.ensures (one_taken p v height due old f fs l.next.fact (drop l.next.note notes) l.self l.made.items here _ c.in_ok-note.ensures.tracked _ _ _ c.in_ok-note.ensures.rest c.in_ok-take_fact.ensures.made)

pub returns-in_err-note-clause-fault : goal.returns-in_err-note-clause-fault
returns-in_err-note-clause-fault c = λ due old later s.
    let r = err_from_is_err_and c.from_residual.result c.from_residual.ensures.1 in
    rw (r.1, r.2) (wanting (statements_of c.args.pair.now c.args.passage.now.height due.payments) _ c.in_err-note.ensures.fault)

pub returns-in_err-take_fact-clause-fault : goal.returns-in_err-take_fact-clause-fault
returns-in_err-take_fact-clause-fault c = λ due old later s.
    let l = c.loop-place in
    let p = c.args.pair.now in
    let v = c.args.passage.now.validator in
    let height = c.args.passage.now.height in
    let notes = c.args.recorder.now.noted.notes in
    let facts : List Fact = c.args.facts.now in
    let f : Fact = c.fact_at-fact.result.now in
    let fs : List Fact = drop (l.place + 1) facts ++ later in
    let here = subst (λ (gs : List Fact). StillDue p v height due old (gs ++ later) l.next.fact (drop l.next.note notes) l.self l.made.items) (from_place facts l.place f c.fact_at-fact.ensures) (l.invariant due old later s) in
    let r = err_from_is_err_and c.from_residual-in_err-take_fact.result c.from_residual-in_err-take_fact.ensures.1 in
    rw (r.1, r.2) (one_stops p v height due old f fs l.next.fact (drop l.next.note notes) l.self l.made.items here _ c.in_ok-note.ensures.tracked _ c.in_err-take_fact.ensures.fault)

pub returns-clause-due : goal.returns-clause-due
returns-clause-due c = λ due old later s.
    let l = c.loop-place in
    let facts : List Fact = c.args.facts.now in
    subst (λ (gs : List Fact). StillDue c.args.pair.now c.args.passage.now.validator c.args.passage.now.height due old (gs ++ later) l.next.fact (drop l.next.note c.args.recorder.now.noted.notes) l.self l.made.items)
    (drop_all l.place facts (subst (λ (n : ℕ). n ≤ l.place) c.len-place-end.ensures c.loop-place-test.false)) (l.invariant due old later s)
