use Rattle.std.proofs.Common.{rules, tests}
use Rattle.store_history.proofs.loading.read_rows.Goals as goal

pub returns-then-not-is_history-clause-bad : goal.returns-then-not-is_history-clause-bad
returns-then-not-is_history-clause-bad c = λ is up h.
    let yes = (c.is_history.ensures up (c.in-Ok.ensures.visible up) (c.in-Ok.ensures.base up)).1 h in
    search (rules, tests)

pub returns-else-not-is_history-clause-history : goal.returns-else-not-is_history-clause-history
returns-else-not-is_history-clause-history c = λ up.
    (c.is_history.ensures up (c.in-Ok.ensures.visible up) (c.in-Ok.ensures.base up)).0 (search (rules, tests))
