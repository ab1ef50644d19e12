use Rattle.std.proofs.Common.{◌++◌, List, drop}
use Rattle.base_roles.specs.declared.facts.Fact.{Fact}
use Rattle.mod_statement.specs.declared.statement.Statement.{Statement}
use Rattle.mod_tracking.specs.{Stating.{StillDue, told_in}, Tracking.Followed}
use Rattle.mod_tracking.proofs.tracker.Tracker.take_txs.Given as goal

-- what was due of all transactions is due of those from here on
abbrev pub invariant-loop-tx : goal.invariant-loop-tx
invariant-loop-tx l = (due : Followed) (old : List Statement) (later : List Fact)
    → StillDue l.pair l.passage.validator l.passage.height due old (told_in l.txs ++ later) l.fn.first.fact (drop l.fn.first.note l.recorder.noted.notes) l.fn.self l.fn.made.items
    → StillDue l.pair l.passage.validator l.passage.height due old (told_in (drop l.tx-index l.txs) ++ later) l.next.fact (drop l.next.note l.recorder.noted.notes) l.self l.made.items
