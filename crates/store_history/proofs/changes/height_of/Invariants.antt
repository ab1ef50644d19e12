use Rattle.std.proofs.Common.{◌≡◌, drop, map}
use Rattle.store_history.specs.Commits.{height_of, seen}
use Rattle.store_history.proofs.changes.height_of.Given as goal

abbrev pub invariant-loop-change : goal.invariant-loop-change
invariant-loop-change l = height_of (map seen (drop l.change-index l.changes)) ≡ height_of (map seen l.changes)
