use Rattle.std.proofs.Common.{◌≡◌, ◌++◌, drop, map}
use Rattle.store_history.specs.Commits.{seen}
use Rattle.store_history.proofs.changes.append_copies.Given as goal

abbrev pub invariant-loop-change : goal.invariant-loop-change
invariant-loop-change l =
    map seen l.out.items ++ map seen (drop l.change-index l.changes) ≡ map seen l.initial.out.items ++ map seen l.changes
