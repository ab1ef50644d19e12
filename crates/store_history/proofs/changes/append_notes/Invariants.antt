use Rattle.std.proofs.Common.{◌≡◌, ◌++◌, drop, map}
use Rattle.store_history.specs.Commits.{note, seen}
use Rattle.store_history.proofs.changes.append_notes.Given as goal

abbrev pub invariant-loop-change : goal.invariant-loop-change
invariant-loop-change l =
    map seen l.out.items ++ map (note l.height l.visible) (map seen (drop l.change-index l.changes))
    ≡ map seen l.initial.out.items ++ map (note l.height l.visible) (map seen l.changes)
