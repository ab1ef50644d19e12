use Rattle.std.proofs.Common.{◌≡◌, ◌++◌, drop}
use Rattle.mod_redelegation.proofs.beginning.behind.Given as goal

abbrev pub invariant-loop-old : goal.invariant-loop-old
invariant-loop-old l = l.list.items ++ drop l.old-index l.entries ≡ l.entries
