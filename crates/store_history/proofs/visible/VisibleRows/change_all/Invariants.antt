use Rattle.std.proofs.Common.{◌≡◌, drop}
use Rattle.base_io.specs.Changes.{changed}
use Rattle.store_history.proofs.visible.VisibleRows.change_all.Given as goal

abbrev pub invariant-loop-change : goal.invariant-loop-change
invariant-loop-change l = changed (drop l.change-index l.changes) l.self ≡ changed l.changes l.initial.self
