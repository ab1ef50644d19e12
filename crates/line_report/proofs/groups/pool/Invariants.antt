use Rattle.std.proofs.Common.{◌≡◌, drop}
use Rattle.line_report.specs.Groups.{pool_of}
use Rattle.line_report.proofs.groups.pool.Given as goal

abbrev pub invariant-loop-item : goal.invariant-loop-item
invariant-loop-item l =
    pool_of (drop l.item-index l.items) ≡ pool_of l.items
