use Rattle.std.proofs.Common.{◌≡◌, ◌<◌, length, rules}
use Rattle.std.proofs.lemmas.Result.{IfErr-weaker, on_ok_weaker}
use Rattle.run_app.proofs.TakingLemmas.{ended_none, ended_some, ended_stops}
use Rattle.run_app.proofs.taking.last_line.Goals as goal

pub returns-then-is_empty-clause-all : goal.returns-then-is_empty-clause-all
returns-then-is_empty-clause-all g c = λ x t h.
    let none : length c.args.reading.now.line.items ≡ 0 = search rules in
    ended_none (g.T.TakesLines.takes c.args.form) x t _ _ _ h none

pub returns-clause-all : goal.returns-clause-all
returns-clause-all g c = λ x t h.
    let some : 0 < length c.args.reading.now.line.items = search rules in
    let took = rw c.deref.ensures.value at c.take.ensures.takes in
    on_ok_weaker c.take.result (ended_some (g.T.TakesLines.takes c.args.form) x t _ _ _ _ h some) took

pub returns-clause-part : goal.returns-clause-part
returns-clause-part g c = λ x t most h.
    let some : 0 < length c.args.reading.now.line.items = search rules in
    let due = rw c.deref.ensures.value at c.take.ensures.stops in
    IfErr-weaker c.take.result _ _ (λ status. ended_stops (g.T.TakesLines.takes c.args.form) (g.T.TakesLines.stops c.args.form) x t _ _ _ _ status most h some) due
