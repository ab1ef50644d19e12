use Rattle.std.proofs.Common.{◌≡◌, ◌++◌, drop, map}
use Rattle.base_io.specs.Changes.{pair_of}
use Rattle.store_history.specs.Commits.{removal, seen}
use Rattle.store_history.proofs.changes.append_removals.Given as goal

abbrev pub invariant-loop-row : goal.invariant-loop-row
invariant-loop-row l =
    map seen l.out.items ++ map removal (map pair_of (drop l.row-index l.rows)) ≡ map seen l.initial.out.items ++ map removal (map pair_of l.rows)
